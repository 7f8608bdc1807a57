use Rattle.std.proofs.Common.{◌≡◌, length}
use Rattle.trace_records.proofs.Common.{without_outputs}
use Rattle.trace_records.proofs.finished.drop_measures.Given as goal

abbrev pub invariant-loop : goal.invariant-loop
invariant-loop l = record {
  records : l.pipeline.recording.finished ≡ l.initial.pipeline.recording.finished;
  state : without_outputs l.pipeline ≡ without_outputs l.initial.pipeline;
}

abbrev pub decreases-loop : goal.decreases-loop
decreases-loop l = length l.pipeline.measures
