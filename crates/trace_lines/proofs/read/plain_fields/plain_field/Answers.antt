use Rattle.trace_lines.proofs.Common.{List, MAX_DEPTH, [], ap, arith, compact_text, plain_data, sym, ℕ, ◌++◌, ◌∙◌, ◌∷◌, ◌≡◌}
use Rattle.trace_lines.proofs.readings.CompactLemmas.{quoted_text}
use Rattle.trace_lines.proofs.texts.FieldsLemmas.{value_front, field_front, pair_begins}
use Rattle.trace_lines.proofs.read.plain_fields.plain_field.Goals as goal

pub value_in-requires : goal.value_in-requires
value_in-requires c = (
  91 ∷ 34 ∷ (c.in_ok-words.words.now ++ 34 ∷ 44 ∷ []),
  value_front c.args.field.now c.in_ok-inner.inner.now c.in_ok-words.comma.now c.in_ok-more.more.now c.in_ok-words.words.now (sym c.as_bytes.ensures.value ∙ c.in_ok-inner.ensures) c.in_ok-words.ensures.text c.in_ok-more.ensures,
)

pub between-name-requires : goal.between-name-requires
between-name-requires c = (91 ∷ [], sym c.as_bytes.ensures.value ∙ c.in_ok-inner.ensures ∙ ap (λ (l : List ℕ). 91 ∷ l) c.in_ok-words.ensures.text)

pub behind_ascii-requires : goal.behind_ascii-requires
behind_ascii-requires c =
    let words = c.in_ok-words.words.now in
    let front : List ℕ = 91 ∷ 34 ∷ (words ++ 34 ∷ 44 ∷ []) in
    let b = c.in_ok-plain.ensures in (
      front ++ compact_text b.0,
      93,
      omega arith,
      field_front c.args.field.now front (compact_text b.0) c.in_ok-more.more.now c.in_ok-plain.end.now c.in_ok-rest.rest.now
          (value_front c.args.field.now c.in_ok-inner.inner.now c.in_ok-words.comma.now c.in_ok-more.more.now words (sym c.as_bytes.ensures.value ∙ c.in_ok-inner.ensures) c.in_ok-words.ensures.text c.in_ok-more.ensures)
          b.1 c.in_ok-rest.ensures,
    )

pub returns : goal.returns
returns c =
    rw (c.between-name.ensures, c.behind_ascii.ensures)
    (pair_begins MAX_DEPTH c.args.field.now c.in_ok-inner.inner.now c.in_ok-words.comma.now c.in_ok-more.more.now c.in_ok-plain.end.now c.in_ok-rest.rest.now c.in_ok-words.words.now (plain_data c.in_ok-plain.plain)
    (sym c.as_bytes.ensures.value ∙ c.in_ok-inner.ensures) (quoted_text c.in_ok-inner.inner.now c.in_ok-words.words.now c.in_ok-words.comma.now c.in_ok-words.ensures.text c.in_ok-words.ensures.plain) c.in_ok-more.ensures c.in_ok-plain.ensures c.in_ok-rest.ensures)
