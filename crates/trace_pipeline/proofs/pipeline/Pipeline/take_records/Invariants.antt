-- The records so far, and those that are left.
use Rattle.std.proofs.Common.{◌≡◌, ◌++◌, length}
use Rattle.trace_pipeline.proofs.pipeline.Pipeline.take_records.Given as goal

abbrev pub invariant-loop-finished : goal.invariant-loop-finished
invariant-loop-finished l = (l.records ++ l.self.recording.finished) ≡ l.fn.self.recording.finished

abbrev pub decreases-loop-finished : goal.decreases-loop-finished
decreases-loop-finished l = length l.self.recording.finished
