use Rattle.std.specs.Str.{IsUtf8}
use Rattle.trace_lines.proofs.Common.{List, MAX_DEPTH, Some, [], ap, arith, array, compact_text, items, plain_data, refl, rules, sym, value_data, ℕ, ◌++◌, ◌∙◌, ◌∷◌, ◌≡◌}
use Rattle.trace_lines.specs.declared.read.syntax.value.Value.TheVariants.{Plain}
use Rattle.trace_lines.proofs.readings.CompactLemmas.{Pair, AllRead-push, items_first, items_on, items_text_end, array_read}
use Rattle.trace_lines.proofs.readings.ValuesLemmas.{one_more}
use Rattle.trace_lines.proofs.read.syntax.flat.items.Goals as goal

pub behind_ascii-rest-requires : goal.behind_ascii-rest-requires
behind_ascii-rest-requires c = ([], 91, omega arith, sym c.as_bytes.ensures.value ∙ c.in_ok-first.ensures)

pub loop-init : goal.loop-init
loop-init c =
    let none : c.in_ok-values.values.items ≡ [] = search rules in
    let utf8 : IsUtf8 c.behind_ascii-rest.result.now = search rules in
    ([], tt, items_first c.behind_ascii-rest.result.now, ap (items value_data) none, utf8)

pub returns-in-None : goal.returns-in-None
returns-in-None c =
    let ps = c.loop.invariant.0 in
    let b = c.in_ok-plain.ensures in
    let p : Pair = (b.0, plain_data c.in_ok-plain.plain) in
    let kept = ap (items value_data) c.in_ok-add_item.ensures ∙ one_more c.loop.values.items (Plain c.in_ok-plain.plain) ps p c.loop.invariant.3 refl in
    let first = c.behind_ascii-rest.result.now in
    let left = sym c.as_bytes-in-loop.ensures.value ∙ b.1 in
    let text = items_text_end first c.loop.rest.now c.in_ok-plain.after.now [] ps p c.loop.invariant.2 left c.in_ok-expect_bracket-in-None.ensures in
    let utf8 : IsUtf8 c.args.text.now = search rules in
    let opens = sym c.as_bytes.ensures.value ∙ c.in_ok-first.ensures ∙ ap (λ (l : List ℕ). 91 ∷ l) (sym c.behind_ascii-rest.ensures) in
    array_read MAX_DEPTH c.args.text.now first (ps ++ p ∷ []) utf8 (omega arith) (AllRead-push MAX_DEPTH ps p c.loop.invariant.1 b.2) opens text
    ∙ ap (λ ds. Some (array ds)) (sym kept)

pub behind_ascii-rest-requires-in-Some : goal.behind_ascii-rest-requires-in-Some
behind_ascii-rest-requires-in-Some c =
    let b = c.in_ok-plain.ensures in
    (compact_text b.0, 44, omega arith, sym c.as_bytes-in-loop.ensures.value ∙ b.1 ∙ ap (λ (l : List ℕ). compact_text b.0 ++ l) c.in-Some.ensures)

pub loop-preserved : goal.loop-preserved
loop-preserved c =
    let ps = c.loop.invariant.0 in
    let b = c.in_ok-plain.ensures in
    let p : Pair = (b.0, plain_data c.in_ok-plain.plain) in
    let left = sym c.as_bytes-in-loop.ensures.value ∙ b.1 in
    let more = c.in-Some.ensures ∙ ap (λ (l : List ℕ). 44 ∷ l) (sym c.behind_ascii-rest-in-Some.ensures) in
    let utf8 : IsUtf8 c.behind_ascii-rest-in-Some.result.now = search rules in (
      ps ++ p ∷ [],
      AllRead-push MAX_DEPTH ps p c.loop.invariant.1 b.2,
      items_on c.behind_ascii-rest.result.now c.loop.rest.now c.in_ok-plain.after.now c.behind_ascii-rest-in-Some.result.now ps p c.loop.invariant.2 left more,
      ap (items value_data) c.in_ok-add_item.ensures ∙ one_more c.loop.values.items (Plain c.in_ok-plain.plain) ps p c.loop.invariant.3 refl,
      utf8,
    )
