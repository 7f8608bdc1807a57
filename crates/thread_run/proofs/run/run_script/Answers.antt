use denote.Exit.{no}
use denote.Param.Send.{param_send, arg_send}
use Rattle.std.proofs.Common.{ℕ, List, length, subst}
use Rattle.shared_gate.proofs.Crossing.{gate_send}
use Rattle.thread_script.specs.declared.script.WorkerOp.{WorkerOp}
use Rattle.thread_run.specs.Gates.{AreNewGates}
use Rattle.thread_run.proofs.FitsLemmas.{are_open}
use Rattle.thread_run.proofs.run.run_script.Goals as goal

pub run_gated-ended-requires-send-G : goal.run_gated-ended-requires-send-G
run_gated-ended-requires-send-G g c κs within = param_send _ _ (arg_send _ no _ gate_send)

pub run_gated-ended-requires-clause-gates : goal.run_gated-ended-requires-clause-gates
run_gated-ended-requires-clause-gates g c κs within =
    let gates = c.in_ok-writer.field-0.gates.items in
    are_open c.args.script.filter c.args.script.workers gates
    (subst (λ (t : List ℕ). AreNewGates t (length c.args.script.workers) gates) c.as_str.ensures
    (subst (λ (ws : List (List WorkerOp)). AreNewGates c.as_str.result.now (length ws) gates) c.as_slice-workers.ensures c.in_ok-writer.ensures))
