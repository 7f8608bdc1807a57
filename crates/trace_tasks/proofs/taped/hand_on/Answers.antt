-- What was taken off the tape is pushed to the sink.
use Rattle.trace_tasks.proofs.tapes.HandingOnLemmas.{taken_off, left_on, pushed}
use Rattle.trace_tasks.proofs.taped.hand_on.Goals as goal

pub returns-in_err-move_requests-clause-changes : goal.returns-in_err-move_requests-clause-changes
returns-in_err-move_requests-clause-changes g c = left_on c.args.dispatch c.args.world.now _ _ c.subscriber_mut.ensures.value c.in_err-move_requests.ensures.memory_leaves

pub returns-clause-changes : goal.returns-clause-changes
returns-clause-changes g c = taken_off c.args.dispatch c.args.world.now _ _ c.subscriber_mut.ensures.value c.in_ok-move_requests.ensures.emptied

pub returns-clause-ok : goal.returns-clause-ok
returns-clause-ok g c = pushed g.K.RequestSink.takes c.args.dispatch c.args.world.now _ _ c.args.sink.now c.push_all.new.sink c.push_all.result c.move_requests.new.others.items c.subscriber_mut.ensures.value (rw c.requires.empty at c.in_ok-move_requests.ensures.moved) c.in_ok-move_requests.ensures.emptied c.push_all.ensures.taken
