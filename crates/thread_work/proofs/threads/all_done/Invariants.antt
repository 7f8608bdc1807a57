use Rattle.std.proofs.Common.{◌≡◌, ℕ, ◌<◌, true, slice_index_or}
use Rattle.thread_handles.specs.declared.job.Job.{Job}
use Rattle.thread_work.proofs.threads.all_done.Given as goal

abbrev pub invariant-loop-w : goal.invariant-loop-w
invariant-loop-w g l = (j : ℕ) (d : Job g.row.G.Denot) → j < l.w → (slice_index_or l.jobs j d).is_done ≡ true
