use Rattle.std.proofs.Common.{refl}
use Rattle.trace_lines.proofs.write.reply.handle_front.Goals as goal

pub returns-then-enabled : goal.returns-then-enabled
returns-then-enabled c = rw c.if-enabled.true refl

pub returns-else-enabled : goal.returns-else-enabled
returns-else-enabled c = rw c.if-enabled.false refl
