use Rattle.std.proofs.Common.{◌≡◌, ◌+◌, ◌++◌, length}
use Rattle.trace_stream.proofs.Common.{record_lines, without_outputs}
use Rattle.trace_stream.proofs.written.Written.write_records.Given as goal

abbrev pub invariant-loop-finished : goal.invariant-loop-finished
invariant-loop-finished l = record {
  lines : l.self.text.items ++ record_lines (l.self.count + 1) l.pipeline.recording.finished ≡ l.initial.self.text.items ++ record_lines (l.initial.self.count + 1) l.initial.pipeline.recording.finished;
  count : l.self.count + length l.pipeline.recording.finished ≡ l.initial.self.count + length l.initial.pipeline.recording.finished;
  state : without_outputs l.pipeline ≡ without_outputs l.initial.pipeline;
}

abbrev pub decreases-loop-finished : goal.decreases-loop-finished
decreases-loop-finished l = length l.pipeline.recording.finished
