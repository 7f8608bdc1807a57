-- The texts of the items so far were added.
use Rattle.std.proofs.Common.{◌≡◌, ◌++◌, map, take}
use Rattle.trace_batch.specs.Merges.{sent_of}
use Rattle.trace_batch.proofs.writer.serve_rest.Given as goal

abbrev pub invariant-loop-item : goal.invariant-loop-item
invariant-loop-item g l = record {
  late : l.late ≡ l.initial.late ++ map (sent_of g.F.Finished.text) (take l.item-index l.rest);
  lacks_memory : l.lacks_memory ≡ l.initial.lacks_memory;
}
