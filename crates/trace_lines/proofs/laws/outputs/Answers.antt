use Rattle.trace_lines.proofs.laws.OutputsLaws.{alike, goes_on}
use Rattle.trace_lines.proofs.laws.outputs.Goals as goal

pub returns : goal.returns
returns c = record { goes_on = goes_on; alike = alike }
