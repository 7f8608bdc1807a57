-- What the buffer holds is UTF-8, and needs no escape.
use Rattle.std.proofs.Common.{arith}
use Rattle.trace_lines.proofs.texts.HexLemmas.{buffer_utf8, buffer_plain}
use Rattle.trace_lines.proofs.write.hex.digits_of.Goals as goal

pub returns-clause-utf8 : goal.returns-clause-utf8
returns-clause-utf8 c = buffer_utf8 _ c.args.id c.put_digits.ensures.from_start (omega arith)

pub returns-clause-plain : goal.returns-clause-plain
returns-clause-plain c = buffer_plain _ c.args.id c.put_digits.ensures.from_start (omega arith)
