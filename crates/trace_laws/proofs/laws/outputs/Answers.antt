use Rattle.trace_laws.proofs.OutputLemmas.{is_output}
use Rattle.trace_laws.proofs.laws.outputs.Goals as goal

pub returns : goal.returns
returns c = is_output
