-- The writer has served as many lanes.
use Rattle.std.proofs.Common.{◌≡◌}
use Rattle.crossbeam_queue.specs.Passes.{view, IsPassOf}
use Rattle.trace_batch.specs.Rule.{lane_count_of}
use Rattle.trace_batch.specs.Serving.{Serving}
use Rattle.trace_batch.proofs.writer.take_all.Given as goal

abbrev pub invariant-loop : goal.invariant-loop
invariant-loop g l = record {
  queue : IsPassOf l.queue l.writer.pass;
  lanes : lane_count_of (view l.writer.pass) ≡ lane_count_of (view l.initial.writer.pass);
  serving : Serving g.F.Finished.text l.lists (lane_count_of (view l.writer.pass)) l.writer;
}
