use Rattle.trace_lines.proofs.Common.{List, [], ap, append-nil, append_assoc, arith, comma_if, compact_text, drop, false, items, items_text, refl, sym, true, ℕ, ◌++◌, ◌+◌, ◌∙◌, ◌∷◌, ◌≡◌}
use Rattle.trace_lines.specs.text.Writes.{bracket_unless}
use Rattle.trace_lines.proofs.texts.AddsLemmas.{begun, then, retold, item_added, items_added}
use Rattle.trace_lines.proofs.write.array.add_array.Goals as goal

pub loop-item-init : goal.loop-item-init
loop-item-init g c = ([], begun _, refl)

pub loop-item-preserved : goal.loop-item-preserved
loop-item-preserved g c =
    let f = g.T.WriteItem.item_data in
    let later = c.loop-item.later in
    let w = c.loop-item.invariant.0 in
    let x = c.item-item.result in
    let text : List ℕ = bracket_unless later ++ (comma_if later ++ compact_text (f x)) in
    let more = items_text true (items f (drop (c.loop-item.item-index + 1) c.args.items.now)) in (
      w ++ text,
      then _ _ _ _ _ c.loop-item.invariant.1 (retold _ _ _ text c.in_ok-add_item.ensures (ap (λ (l : List ℕ). l ++ compact_text (f x)) c.separator.ensures ∙ append_assoc (bracket_unless later) (comma_if later) (compact_text (f x)))),
      ap (λ (l : List ℕ). l ++ more) (append-nil (w ++ text) ∙ sym (append_assoc w (bracket_unless later) (comma_if later ++ compact_text (f x))))
          ∙ item_added f c.args.items.now c.loop-item.item-index x later (w ++ bracket_unless later) (91 ∷ items_text false (items f c.args.items.now)) (omega arith) c.item-item.is c.loop-item.invariant.2,
    )

pub returns : goal.returns
returns g c =
    let f = g.T.WriteItem.item_data in
    let later = c.loop-item.later in
    let w = c.loop-item.invariant.0 in
    let all = items_added f c.args.items.now c.loop-item.item-index later (w ++ bracket_unless later) (91 ∷ items_text false (items f c.args.items.now)) (omega arith) c.loop-item.invariant.2 in
    retold _ _ _ _ (then _ _ _ _ _ c.in_ok-add.ensures (then _ _ _ _ _ c.loop-item.invariant.1 c.in_ok-add-2.ensures))
    (ap (λ (l : List ℕ). c.args.front.now ++ l) (ap (λ (l : List ℕ). w ++ l) c.end_of.ensures ∙ sym (append_assoc w (bracket_unless later) (93 ∷ [])) ∙ all))
