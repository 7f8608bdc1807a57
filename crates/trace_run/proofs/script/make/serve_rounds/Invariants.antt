-- The rounds so far are served.
use Rattle.trace_run.proofs.Common.{requests_of_rounds, StandsWithTotals, ServesRequests}
use Rattle.trace_run.proofs.script.make.serve_rounds.Given as goal
use Rattle.std.proofs.Common.{[]}

abbrev pub invariant-loop-i : goal.invariant-loop-i
invariant-loop-i l = StandsWithTotals [] l.initial.pipeline l.initial.totals → ServesRequests (requests_of_rounds 0 l.i) [] l.pipeline l.totals
