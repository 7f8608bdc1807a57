use Rattle.std.proofs.Common.{List, Ok, Err, sym, ap, ◌∙◌}
use Rattle.std.proofs.lemmas.Result.{err_from_is_err_and}
use Rattle.thread_script.specs.declared.script.WorkerOp.{WorkerOp}
use Rattle.thread_lines.specs.Steps.{last_shared_moment}
use Rattle.thread_lines.proofs.TestedLemmas.{worker_passed, worker_stopped}
use Rattle.thread_lines.proofs.added.add_worker.Goals as goal

pub returns-in_err-ops : goal.returns-in_err-ops
returns-in_err-ops c =
    let room = rw c.as_slice-worker.ensures at c.in_ok-require.ensures in
    let lane = rw c.as_slice-worker.ensures at c.in_ok-test_lane.ensures in
    let made_at = c.last_shared_moment-made_at.ensures ∙ ap last_shared_moment c.as_slice.ensures in
    let stopped = rw made_at at c.in_err-ops.ensures in
    let p = err_from_is_err_and c.from_residual-in_err-ops.result c.from_residual-in_err-ops.ensures.1 in
    worker_stopped c.args.script.now c.args.ops _ _ room lane c.from_residual-in_err-ops.result c.in_err-ops.field-0.0 (p.1 ∙ ap Err p.2) stopped

pub returns : goal.returns
returns c =
    let room = rw c.as_slice-worker.ensures at c.in_ok-require.ensures in
    let lane = rw c.as_slice-worker.ensures at c.in_ok-test_lane.ensures in
    let made_at = c.last_shared_moment-made_at.ensures ∙ ap last_shared_moment c.as_slice.ensures in
    let passed = rw made_at at c.in_ok-ops.ensures in
    worker_passed c.args.script.now c.args.ops _ _ room lane c.in_ok-ops.ops passed
    ∙ ap (λ (workers : List (List WorkerOp)). Ok (record c.args.script.now { workers = workers })) (sym c.in_ok-push.ensures.ok)
