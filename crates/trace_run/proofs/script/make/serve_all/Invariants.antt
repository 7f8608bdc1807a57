-- The requests so far are served, and those that are left come behind them.
use Rattle.std.proofs.Common.{◌≡◌, ◌++◌, List}
use Rattle.trace_run.proofs.Common.{Request, History, StandsWithTotals, ServesRequests}
use Rattle.trace_run.proofs.script.make.serve_all.Given as goal

abbrev pub invariant-loop-request : goal.invariant-loop-request
invariant-loop-request l = (h : History) → StandsWithTotals h l.initial.pipeline l.initial.totals
    → ((done : List Request) × (done ++ l.request-iterator.rest.items ≡ l.fn.requests.items) × ServesRequests done h l.pipeline l.totals)
