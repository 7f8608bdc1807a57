-- The value stands behind the name and a colon.
use Rattle.trace_lines.proofs.Common.{List, [], ap, append_assoc, quoted, sym, ℕ, ◌++◌, ◌∙◌, ◌∷◌}
use Rattle.trace_lines.proofs.read.syntax.flat.member.Goals as goal

pub value_in-requires : goal.value_in-requires
value_in-requires c =
    let name = quoted c.in_ok-name.name.now in
    (name ++ 58 ∷ [], sym c.as_bytes.ensures.value ∙ c.in_ok-name.ensures ∙ ap (λ (l : List ℕ). name ++ l) c.in_ok-inner.ensures ∙ sym (append_assoc name (58 ∷ []) c.in_ok-inner.inner.now))

pub returns : goal.returns
returns c =
    let name = c.in_ok-name.name.now in
    (c.in_ok-inner.inner.now, sym c.as_bytes.ensures.value ∙ c.in_ok-name.ensures ∙ ap (λ (l : List ℕ). quoted name ++ l) c.in_ok-inner.ensures, c.in_ok-plain.ensures)
