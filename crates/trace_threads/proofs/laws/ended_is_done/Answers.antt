use Rattle.trace_threads.proofs.histories.HistoriesLemmas.{ended_is_done}
use Rattle.trace_threads.proofs.laws.ended_is_done.Goals as goal

pub returns : goal.returns
returns c = ended_is_done
