-- The counts so far are the same.
use Rattle.std.proofs.Common.{◌≡◌, ℕ, ◌+◌, ◌-◌, slice_index_or, vec_len}
use Rattle.thread_run.proofs.entry.ensure_count.Given as goal

abbrev pub invariant-loop-counts : goal.invariant-loop-counts
invariant-loop-counts l = (k : ℕ) → slice_index_or l.counts.items k 0 ≡ slice_index_or l.fn.counts.items k 0

abbrev pub decreases-loop-counts : goal.decreases-loop-counts
decreases-loop-counts l = (l.at + 1) - vec_len l.counts
