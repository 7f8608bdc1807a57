use Rattle.trace_lines.proofs.Common.{IsUtf8-from_ascii}
use Rattle.trace_lines.proofs.read.syntax.flat.is_utf8.Goals as goal

pub returns-then-is_ascii : goal.returns-then-is_ascii
returns-then-is_ascii c is = IsUtf8-from_ascii c.args.bytes.now c.if-is_ascii.ensures.cases
