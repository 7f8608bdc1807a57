use Rattle.std.proofs.Common.{◌≡◌, drop}
use Rattle.trace_lines.specs.Lines.{is_blank}
use Rattle.input_lines.proofs.lines.is_blank.Given as goal

abbrev pub invariant-loop-byte : goal.invariant-loop-byte
invariant-loop-byte l = is_blank (drop l.byte-index l.line) ≡ is_blank l.fn.line
