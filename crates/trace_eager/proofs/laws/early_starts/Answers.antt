use Rattle.trace_eager.proofs.RenamedLemmas.{is_renamed}
use Rattle.trace_eager.proofs.laws.early_starts.Goals as goal

pub returns : goal.returns
returns c = is_renamed
