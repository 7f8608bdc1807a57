-- So many workers were made, and the rest have their lists and gates still.
use Rattle.std.proofs.Common.{◌≡◌, ◌+◌, ◌++◌, length, vec_len, vec_capacity}
use Rattle.thread_work.specs.Jobs.{lists_of, gates_of}
use Rattle.thread_work.specs.Preparing.{AllUnstarted}
use Rattle.thread_work.proofs.prepare.make_jobs.Given as goal

abbrev pub invariant-loop-ops : goal.invariant-loop-ops
invariant-loop-ops g l = record {
  begun : AllUnstarted l.count l.jobs.items;
  lists : lists_of l.jobs.items ++ l.ops-iterator.rest.items ≡ l.fn.workers;
  gates : gates_of l.jobs.items ++ l.gates.items ≡ l.fn.gates.items;
  count : length l.ops-iterator.rest.items ≡ length l.gates.items;
  room : vec_capacity l.jobs ≡ vec_capacity l.fn.jobs;
  len : vec_len l.jobs + length l.ops-iterator.rest.items ≡ length l.fn.workers;
}
