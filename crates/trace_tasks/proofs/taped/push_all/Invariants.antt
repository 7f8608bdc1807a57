-- The requests that were taken off the end are the first ones.
use Rattle.std.proofs.Common.{◌≡◌, ◌++◌, List, reverse, length}
use Rattle.trace_tasks.proofs.Common.{Request}
use Rattle.trace_tasks.specs.TapeTurns.{TakesAll}
use Rattle.trace_tasks.proofs.taped.push_all.Given as goal

abbrev pub invariant-loop-request : goal.invariant-loop-request
invariant-loop-request g l = (done : List Request) × (done ++ reverse l.requests.items ≡ l.fn.requests.items) × TakesAll g.K.RequestSink.takes done l.fn.sink l.sink

abbrev pub decreases-loop-request : goal.decreases-loop-request
decreases-loop-request g l = length l.requests.items
