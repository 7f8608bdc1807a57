-- As many items were put in as were gone through.
use Rattle.std.proofs.Common.{◌≡◌, map, take}
use Rattle.crossbeam_queue.specs.Passes.{view, IsPassOf}
use Rattle.trace_batch.specs.Merges.{sent_of}
use Rattle.trace_batch.specs.Rule.{sender_view}
use Rattle.trace_batch.proofs.sender.send.Given as goal

abbrev pub invariant-loop-item : goal.invariant-loop-item
invariant-loop-item g l = record {
  queue : IsPassOf l.queue l.pass;
  put : view l.pass ≡ sender_view l.lane (map (sent_of g.F.Finished.text) (take l.sent l.list));
  here : l.sent ≡ l.item-index;
}
