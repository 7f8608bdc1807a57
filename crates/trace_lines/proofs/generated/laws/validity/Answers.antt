use Rattle.trace_lines.proofs.made.ReportLemmas.{made_valid}
use Rattle.trace_lines.proofs.generated.laws.validity.Goals as goal

pub returns : goal.returns
returns c = made_valid
