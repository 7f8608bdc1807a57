-- What is kept so far, and what will be of the records that are left.
use Rattle.std.proofs.Common.{◌≡◌, ◌++◌, length, map}
use Rattle.trace_records.proofs.Common.{without_outputs}
use Rattle.trace_records.proofs.finished.FinishedSpans.take_records.Given as goal

abbrev pub invariant-loop-finished : goal.invariant-loop-finished
invariant-loop-finished g l = record {
  spans : l.self.spans.items ++ map g.K.FromRecord.of_record l.pipeline.recording.finished ≡ l.initial.self.spans.items ++ map g.K.FromRecord.of_record l.initial.pipeline.recording.finished;
  lanes : l.self.lanes.items ++ map (λ r. l.lane) l.pipeline.recording.finished ≡ l.initial.self.lanes.items ++ map (λ r. l.lane) l.initial.pipeline.recording.finished;
  count : l.self.lane_count ≡ l.initial.self.lane_count;
  state : without_outputs l.pipeline ≡ without_outputs l.initial.pipeline;
}

abbrev pub decreases-loop-finished : goal.decreases-loop-finished
decreases-loop-finished g l = length l.pipeline.recording.finished
