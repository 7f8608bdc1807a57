use denote.Exit.{no}
use denote.Param.Send.{param_send, arg_send}
use Rattle.std.proofs.Common.{subst, slice_index_or}
use Rattle.thread_handles.specs.declared.job.Job.{Job}
use Rattle.thread_work.specs.Jobs.{WasRun}
use Rattle.thread_work.proofs.Crossing.{job_send}
use Rattle.thread_work.proofs.threads.run_all.Goals as goal

pub for_each_mut-requires-send-T : goal.for_each_mut-requires-send-T
for_each_mut-requires-send-T g c κs within = param_send _ _ (arg_send _ no _ (job_send _ c.type_bounds.send-G))

pub returns-clause-run : goal.returns-clause-run
returns-clause-run g c w d low =
    let x = (c.for_each_mut.ensures w d low).1 in
    subst (λ (j : Job g.row.G.Denot). WasRun c.args.plan.now w j (slice_index_or c.for_each_mut.new.s w d)) x.argument_is
    (subst (λ (j : Job g.row.G.Denot). WasRun c.args.plan.now w x.argument.now j) x.left x.call)
