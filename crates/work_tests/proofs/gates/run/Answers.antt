-- Each worker has a gate that opens with the script's text.
use Rattle.std.proofs.Common.{length, ap, arith}
use Rattle.thread_run.proofs.FitsLemmas.{at_opening}
use Rattle.work_tests.proofs.gates.run.Goals as goal

pub run_gated-requires-clause-gates : goal.run_gated-requires-clause-gates
run_gated-requires-clause-gates g c κs within =
    at_opening _ c.in_ok-script-2.script.filter c.in_ok-script-2.script.workers c.in_ok-gates.gates.items
    (omega (arith, c.in_ok-gates.ensures.count, c.as_slice-2.ensures.len, c.in_ok-counts.ensures, ap length c.as_slice.ensures)) c.in_ok-gates.ensures.texts
