-- One pair more.
use Rattle.std.proofs.Common.{◌≡◌, ◌<◌, ℕ, List, ◌++◌, ◌∷◌, [], length, map, take, ap, sym, ◌∙◌}
use Rattle.trace_base.specs.declared.field.Value.{Value}
use Rattle.trace_tape.specs.Tapes.{field_name_at}
use Rattle.trace_tape.proofs.ItemsLemmas.{map_more}
use Rattle.trace_tape.proofs.naming.named_values.Goals as goal

pub loop-place-preserved : goal.loop-place-preserved
loop-place-preserved c =
    let f : ℕ × Value → List ℕ × Value = λ pair. (field_name_at c.args.callsite.now pair.0, pair.1) in
    let less : c.loop-place.place-index < length c.args.values.now.pairs = rw c.as_slice-pairs.ensures at c.loop-place-test.true in
    let e = map_more f c.args.values.now.pairs c.loop-place.place-index c.loop-place-item.result less (rw c.as_slice-pairs.ensures at c.loop-place-item.is) in
    let name : c.in_ok-field_name_at.field-0 ≡ field_name_at c.args.callsite.now c.loop-place-item.result.0 = c.in_ok-field_name_at.ensures in
    let value : c.in_ok-copied_value.field-0 ≡ c.loop-place-item.result.1 = c.in_ok-copied_value.ensures in
    let item : ◌≡◌ {A = List ℕ × Value} (c.in_ok-field_name_at.field-0, c.in_ok-copied_value.field-0) (f c.loop-place-item.result) = cc (name, value) in
    c.in_ok-push.ensures.items ∙ ap (λ (xs : List (List ℕ × Value)). xs ++ (c.in_ok-field_name_at.field-0, c.in_ok-copied_value.field-0) ∷ []) c.loop-place.invariant
    ∙ ap (λ (x : List ℕ × Value). map f (take c.loop-place.place-index c.args.values.now.pairs) ++ x ∷ []) item ∙ sym e
