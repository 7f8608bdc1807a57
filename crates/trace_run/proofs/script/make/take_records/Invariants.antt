-- What is counted, and what is to be, are all.
use Rattle.std.proofs.Common.{◌≡◌, length}
use Rattle.trace_run.proofs.Common.{without_outputs, with_records}
use Rattle.trace_run.proofs.script.make.take_records.Given as goal

abbrev pub invariant-loop-finished : goal.invariant-loop-finished
invariant-loop-finished l = record {
  totals : with_records l.totals l.pipeline.recording.finished ≡ with_records l.initial.totals l.initial.pipeline.recording.finished;
  state : without_outputs l.pipeline ≡ without_outputs l.initial.pipeline;
}

abbrev pub decreases-loop-finished : goal.decreases-loop-finished
decreases-loop-finished l = length l.pipeline.recording.finished
