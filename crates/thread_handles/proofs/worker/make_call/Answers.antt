use Rattle.thread_handles.proofs.WorkLemmas.{did_op}
use Rattle.thread_handles.proofs.worker.make_call.Goals as goal

pub returns-clause-did : goal.returns-clause-did
returns-clause-did g c = did_op _ c.args.plan.now c.args.op c.in_ok-asked.asked c.args.handles.now c.call_at.new.handles c.in_ok-asked.ensures.op c.call_at.ensures.did
