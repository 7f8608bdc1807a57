use Rattle.std.proofs.Common.{◌≡◌, ◌+◌, ◌++◌, length}
use Rattle.trace_stream.proofs.Common.{measure_lines, without_outputs}
use Rattle.trace_stream.proofs.written.Written.write_measures.Given as goal

abbrev pub invariant-loop-measure : goal.invariant-loop-measure
invariant-loop-measure l = record {
  lines : l.self.text.items ++ measure_lines l.fn.line l.pipeline.measures ≡ l.initial.self.text.items ++ measure_lines l.fn.line l.initial.pipeline.measures;
  count : l.self.count + length l.pipeline.measures ≡ l.initial.self.count + length l.initial.pipeline.measures;
  state : without_outputs l.pipeline ≡ without_outputs l.initial.pipeline;
}

abbrev pub decreases-loop-measure : goal.decreases-loop-measure
decreases-loop-measure l = length l.pipeline.measures
