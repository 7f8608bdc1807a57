use Rattle.trace_laws.proofs.HeadlineLemmas.{tells_script}
use Rattle.trace_laws.proofs.laws.headline.Goals as goal

pub returns : goal.returns
returns c = tells_script
