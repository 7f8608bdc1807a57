use Rattle.std.specs.Str.{IsUtf8}
use Rattle.trace_lines.proofs.Common.{List, MAX_DEPTH, Some, [], ap, arith, array, field_data, no_items, plain_data, rules, sym, ℕ, ◌++◌, ◌+◌, ◌∙◌, ◌∷◌, ◌≡◌}
use Rattle.trace_lines.proofs.texts.FieldsLemmas.{field_more}
use Rattle.trace_lines.proofs.readings.CompactLemmas.{Pair, AllRead-push, items_first, items_on, items_text_end, array_front, read_items}
use Rattle.trace_lines.proofs.read.plain_fields.fields_in.Goals as goal

pub returns-in-Some : goal.returns-in-Some
returns-in-Some c = (
  array no_items,
  array_front (MAX_DEPTH + 1) c.args.whole.now c.in_ok-first.first.now c.in-Some.end.now [] tt (sym c.as_bytes.ensures.value ∙ c.in_ok-first.ensures) c.in-Some.ensures,
  ap (λ fs. Some fs) (sym c.new.ensures),
)

pub behind_ascii-rest-requires : goal.behind_ascii-rest-requires
behind_ascii-rest-requires c = ([], 91, omega arith, sym c.as_bytes.ensures.value ∙ c.in_ok-first.ensures)

pub loop-init : goal.loop-init
loop-init c =
    let none : c.in_ok-fields.fields.items ≡ [] = search rules in
    let utf8 : IsUtf8 c.behind_ascii-rest.result.now = search rules in
    ([], tt, items_first c.behind_ascii-rest.result.now, ap (λ fs. Some fs) (sym none), utf8)

pub plain_field-requires-text-field : goal.plain_field-requires-text-field
plain_field-requires-text-field c = λ _. c.loop.invariant.4

pub behind_ascii-rest-requires-in-Some-behind : goal.behind_ascii-rest-requires-in-Some-behind
behind_ascii-rest-requires-in-Some-behind c = ([], 44, omega arith, sym c.as_bytes-in-loop.ensures.value ∙ c.in-Some-behind.ensures)

pub returns-in-None : goal.returns-in-None
returns-in-None c =
    let ps = c.loop.invariant.0 in
    let b = c.in_ok-name.ensures in
    let d = plain_data c.in_ok-name.plain in
    let p : Pair = (b.0, field_data c.in_ok-name.name.now d) in
    let kept = field_more ps b.0 d c.in_ok-name.name.now c.loop.fields.items c.add_field.new.fields.items c.loop.invariant.3 c.in_ok-add_field.ensures in
    let end = c.in_ok-end-in-None.end.now in
    let closed = sym c.as_bytes-in-None.ensures.value ∙ c.in_ok-end-in-None.ensures in
    let text = items_text_end c.behind_ascii-rest.result.now c.loop.rest.now c.in_ok-name.after.now end ps p c.loop.invariant.2 b.1 closed in (
      array (read_items (ps ++ p ∷ [])),
      array_front (MAX_DEPTH + 1) c.args.whole.now c.in_ok-first.first.now end (ps ++ p ∷ []) (AllRead-push (MAX_DEPTH + 1) ps p c.loop.invariant.1 b.2) (sym c.as_bytes.ensures.value ∙ c.in_ok-first.ensures) (sym c.behind_ascii-rest.ensures ∙ text),
      kept ∙ ap (λ fs. Some fs) (sym c.from.ensures),
    )

pub loop-preserved : goal.loop-preserved
loop-preserved c =
    let ps = c.loop.invariant.0 in
    let b = c.in_ok-name.ensures in
    let d = plain_data c.in_ok-name.plain in
    let p : Pair = (b.0, field_data c.in_ok-name.name.now d) in
    let utf8 : IsUtf8 c.behind_ascii-rest-in-Some-behind.result.now = search rules in
    let more = sym c.as_bytes-in-loop.ensures.value ∙ c.in-Some-behind.ensures ∙ ap (λ (l : List ℕ). 44 ∷ l) (sym c.behind_ascii-rest-in-Some-behind.ensures) in (
      ps ++ p ∷ [],
      AllRead-push (MAX_DEPTH + 1) ps p c.loop.invariant.1 b.2,
      items_on c.behind_ascii-rest.result.now c.loop.rest.now c.in_ok-name.after.now c.behind_ascii-rest-in-Some-behind.result.now ps p c.loop.invariant.2 b.1 more,
      field_more ps b.0 d c.in_ok-name.name.now c.loop.fields.items c.add_field.new.fields.items c.loop.invariant.3 c.in_ok-add_field.ensures,
      utf8,
    )
