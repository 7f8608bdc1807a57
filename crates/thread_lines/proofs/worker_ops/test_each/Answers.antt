use Rattle.std.proofs.Common.{◌≡◌, ◌∷◌, ◌∙◌, List, Err, arith, sym, ap}
use Rattle.std.proofs.lemmas.Result.{err_from_is_err_and}
use Rattle.thread_script.specs.declared.script.WorkerOp.{WorkerOp}
use Rattle.thread_lines.specs.declared.line.ThreadOp.{ThreadOp}
use Rattle.thread_lines.specs.Steps.{ops_tested}
use Rattle.thread_lines.proofs.TestedLemmas.{in_front, one_passed, refused_here}
use Rattle.thread_lines.proofs.worker_ops.test_each.Goals as goal

pub returns-in_err-op : goal.returns-in_err-op
returns-in_err-op c =
    let step : c.loop-op.op-iterator.rest.items ≡ c.in-Some.op ∷ c.next.new.self.rest.items = c.in-Some.ensures.steps.0 in
    let p = err_from_is_err_and c.from_residual.result c.from_residual.ensures.1 in
    let all = ap (λ (os : List ThreadOp). in_front c.loop-op.tested (ops_tested c.args.script.now c.loop-op.before c.loop-op.entered os)) (sym step) ∙ c.loop-op.invariant.tested in
    refused_here c.args.script.now c.loop-op.before c.loop-op.entered c.loop-op.tested _ c.from_residual.result c.in_err-op.field-0.0 (p.1 ∙ ap Err p.2) c.in-Some.op c.next.new.self.rest.items c.in_err-op.ensures.tested all

pub loop-op-preserved : goal.loop-op-preserved
loop-op-preserved c =
    let i = c.loop-op.invariant in
    let step : c.loop-op.op-iterator.rest.items ≡ c.in-Some.op ∷ c.next.new.self.rest.items = c.in-Some.ensures.steps.0 in
    let len = c.in_ok-op.ensures.len in
    let before = i.len in
    let entered = c.test_and_count.new.entered in
    record {
      len = omega (arith, len, before);
      tested =
          ap (λ (f : List WorkerOp). in_front f (ops_tested c.args.script.now c.in_ok-op.op.at entered c.next.new.self.rest.items)) c.in_ok-push.ensures.ok
          ∙ one_passed c.args.script.now c.loop-op.before c.loop-op.entered entered c.loop-op.tested c.in-Some.op c.next.new.self.rest.items c.in_ok-op.op c.in_ok-op.ensures.tested c.in_ok-op.ensures.counted
          ∙ ap (λ (os : List ThreadOp). in_front c.loop-op.tested (ops_tested c.args.script.now c.loop-op.before c.loop-op.entered os)) (sym step)
          ∙ i.tested;
    }
