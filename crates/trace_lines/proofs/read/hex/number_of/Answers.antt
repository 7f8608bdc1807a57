-- There is room for one digit more.
use Rattle.std.proofs.Common.{arith}
use Rattle.trace_lines.proofs.readings.IdsLemmas.{room}
use Rattle.trace_lines.proofs.read.hex.number_of.Goals as goal

pub overflow_mul-number : goal.overflow_mul-number
overflow_mul-number c = omega (arith, room c.loop-byte.byte-index c.args.size c.loop-byte.number (omega arith) (omega arith) c.loop-byte.invariant.small)

pub overflow_add-number : goal.overflow_add-number
overflow_add-number c = omega (arith, room c.loop-byte.byte-index c.args.size c.loop-byte.number (omega arith) (omega arith) c.loop-byte.invariant.small, c.in_ok-digit.ensures.small)
