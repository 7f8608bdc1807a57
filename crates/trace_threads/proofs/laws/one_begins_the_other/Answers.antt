use Rattle.trace_threads.proofs.queue.FrontsLemmas.{one_begins_the_other}
use Rattle.trace_threads.proofs.laws.one_begins_the_other.Goals as goal

pub returns : goal.returns
returns c = one_begins_the_other
