use Rattle.trace_lines.proofs.readings.QuickLinesLemmas.{members_spell}
use Rattle.trace_lines.proofs.read.quick.quick_request.Goals as goal

pub returns : goal.returns
returns c = members_spell c.args.line.now c.in_ok-members.members c.request.result c.in_ok-members.ensures c.request.ensures
