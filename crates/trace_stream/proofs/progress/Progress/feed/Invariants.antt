use Rattle.std.proofs.Common.{◌≡◌, ◌++◌, length, List, ℕ, Option}
use Rattle.trace_stream.proofs.Common.{IsMidway}
use Rattle.trace_stream.proofs.progress.Progress.feed.Given as goal

abbrev pub invariant-loop-line : goal.invariant-loop-line
invariant-loop-line g l = record {
  told : (done : List ℕ) × (l.fn.piece ≡ done ++ l.rest) × ((before : Option (List ℕ)) (front : List ℕ) → IsMidway l.fn.signal before (g.W.Sink.holds l.fn.sink) front l.fn.self
      → IsMidway l.fn.signal before (g.W.Sink.holds l.sink) (front ++ done) l.self);
  sure : g.W.Sink.faults l.sink ≡ g.W.Sink.faults l.fn.sink;
}

abbrev pub decreases-loop-line : goal.decreases-loop-line
decreases-loop-line g l = length l.rest
