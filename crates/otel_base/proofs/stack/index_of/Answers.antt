-- The item stands before each one that has another number.
use Rattle.std.proofs.Common.{arith, ◌≡◌, ◌-◌, suc}
use Rattle.std.proofs.lemmas.Bool.{ne_eqb}
use Rattle.otel_base.specs.Stack.{empty_context}
use Rattle.otel_base.proofs.Numbered.{stands_before}
use Rattle.otel_base.proofs.stack.index_of.Goals as goal

pub loop-above-preserved : goal.loop-above-preserved
loop-above-preserved c =
    let here : suc (c.loop-above.above - 1) ≡ c.loop-above.above = omega arith in
    (stands_before c.args.number c.args.items.now (c.loop-above.above - 1) (0, empty_context) (omega (arith, c.loop-above.invariant.1)) (ne_eqb _ _ c.if-items-above.false) (rw here c.loop-above.invariant.0), omega (arith, c.loop-above.invariant.1))
