-- None has an entry open.
use Rattle.thread_handles.specs.Shares.{HaveNoneOpen}
use Rattle.thread_handles.proofs.clones.release_all.Given as goal

abbrev pub invariant-loop-handle : goal.invariant-loop-handle
invariant-loop-handle g l = HaveNoneOpen l.handles.items

abbrev pub decreases-loop-handle : goal.decreases-loop-handle
decreases-loop-handle g l = goal.left-loop-handle g l
