use Rattle.std.proofs.Common.{◌≡◌, length}
use Rattle.trace_stream.proofs.Common.{without_outputs}
use Rattle.trace_stream.proofs.written.drop_records.Given as goal

abbrev pub invariant-loop : goal.invariant-loop
invariant-loop l = record {
  measures : l.pipeline.measures ≡ l.initial.pipeline.measures;
  state : without_outputs l.pipeline ≡ without_outputs l.initial.pipeline;
}

abbrev pub decreases-loop : goal.decreases-loop
decreases-loop l = length l.pipeline.recording.finished
