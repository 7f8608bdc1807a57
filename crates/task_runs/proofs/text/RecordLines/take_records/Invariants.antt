-- The lines so far, and those of the records that wait.
use Rattle.std.proofs.Common.{◌≡◌, ◌+◌, ◌++◌, length}
use Rattle.trace_lines.specs.Report.{record_lines}
use Rattle.trace_records.specs.Following.{without_outputs}
use Rattle.task_runs.proofs.text.RecordLines.take_records.Given as goal

abbrev pub invariant-loop-finished : goal.invariant-loop-finished
invariant-loop-finished l = record {
  lines : l.self.text.items ++ record_lines (l.self.count + 1) l.pipeline.recording.finished ≡ l.initial.self.text.items ++ record_lines (l.initial.self.count + 1) l.initial.pipeline.recording.finished;
  count : l.self.count + length l.pipeline.recording.finished ≡ l.initial.self.count + length l.initial.pipeline.recording.finished;
  state : without_outputs l.pipeline ≡ without_outputs l.initial.pipeline;
}

abbrev pub decreases-loop-finished : goal.decreases-loop-finished
decreases-loop-finished l = length l.pipeline.recording.finished
