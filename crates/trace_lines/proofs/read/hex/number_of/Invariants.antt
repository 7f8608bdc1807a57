-- the digits that are left go on behind the number so far, which has so many digits
use Rattle.trace_lines.proofs.Common.{drop, with_more_digits, ◌<◌, ◌^◌, ◌≡◌}
use Rattle.trace_lines.proofs.read.hex.number_of.Given as goal

abbrev pub invariant-loop-byte : goal.invariant-loop-byte
invariant-loop-byte l = record {
  value : with_more_digits (drop l.byte-index l.word) l.number ≡ with_more_digits l.fn.word 0;
  small : l.number < 16 ^ l.byte-index;
}
