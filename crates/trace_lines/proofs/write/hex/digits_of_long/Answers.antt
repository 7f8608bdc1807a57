-- What the buffer holds is UTF-8, and needs no escape.
use Rattle.std.proofs.Common.{arith}
use Rattle.trace_lines.proofs.texts.HexLemmas.{long_buffer_utf8, long_buffer_plain}
use Rattle.trace_lines.proofs.write.hex.digits_of_long.Goals as goal

pub returns-clause-utf8 : goal.returns-clause-utf8
returns-clause-utf8 c = long_buffer_utf8 _ c.put_digits.new.digits c.args.id c.put_digits.ensures.from_start c.put_digits-2.ensures.from_start (omega arith)

pub returns-clause-plain : goal.returns-clause-plain
returns-clause-plain c = long_buffer_plain _ c.put_digits.new.digits c.args.id c.put_digits.ensures.from_start c.put_digits-2.ensures.from_start (omega arith)
