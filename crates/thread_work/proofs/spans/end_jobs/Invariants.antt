use Rattle.std.proofs.Common.{length}
use Rattle.thread_work.proofs.spans.end_jobs.Given as goal

abbrev pub decreases-loop-job : goal.decreases-loop-job
decreases-loop-job g l = length l.rest.items
