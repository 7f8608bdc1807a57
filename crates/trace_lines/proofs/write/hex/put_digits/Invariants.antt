-- what is written, with the digits that are left in front of it, is all
use Rattle.std.proofs.Common.{◌≡◌, ◌+◌, ◌-◌, ◌≤◌, ◌++◌, take, drop, length, replicate}
use Rattle.trace_lines.proofs.texts.HexLemmas.{last_digits}
use Rattle.trace_lines.proofs.write.hex.put_digits.Given as goal

abbrev pub invariant-loop-at : goal.invariant-loop-at
invariant-loop-at l = record {
  from_start : l.start ≤ l.at;
  to_end : l.at ≤ l.start + 16;
  len : length l.digits ≡ length l.fn.digits;
  front : take l.start l.digits ≡ take l.start l.fn.digits;
  zeros : drop l.start l.digits ≡ replicate (l.at - l.start) 48 ++ drop l.at l.digits;
  all : last_digits (l.at - l.start) l.rest (drop l.at l.digits) ≡ last_digits 16 l.fn.id (drop (l.start + 16) l.fn.digits);
}

abbrev pub decreases-loop-at : goal.decreases-loop-at
decreases-loop-at l = l.at - l.start
