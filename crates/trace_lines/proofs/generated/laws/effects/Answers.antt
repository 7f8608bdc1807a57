use Rattle.trace_lines.proofs.made.StepsLemmas.{made_replays}
use Rattle.trace_lines.proofs.generated.laws.effects.Goals as goal

pub returns : goal.returns
returns c = made_replays
