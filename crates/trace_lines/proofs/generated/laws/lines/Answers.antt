use Rattle.trace_lines.proofs.made.LinesLemmas.{script_lines, requests_spelled, settings_read}
use Rattle.trace_lines.proofs.generated.laws.lines.Goals as goal

pub returns-clause-lines : goal.returns-clause-lines
returns-clause-lines c = script_lines

pub returns-clause-settings : goal.returns-clause-settings
returns-clause-settings c = settings_read

pub returns-clause-requests : goal.returns-clause-requests
returns-clause-requests c = requests_spelled
