use Rattle.std.proofs.Common.{◌≡◌, ◌+◌, ◌-◌, ◌≤◌, ◌++◌, List, ℕ, Some, length, take, drop, sym, ap, ◌∙◌, arith, append_assoc, length-append}
use Rattle.std.proofs.lemmas.List.{take-append-drop, take_rest, drop_at, length-take-le}
use Rattle.serde_json.specs.Written.{compact_text}
use Rattle.trace_base.specs.declared.field.Value.{Value}
use Rattle.task_lines.proofs.quick.fields_in_front.Goals as goal

-- what a front of a text begins with the text begins with
text_by_front : (text read tail : List ℕ) (size : ℕ) → size ≤ length text → take size text ≡ read ++ tail → text ≡ read ++ take (length text - (size - length tail)) (drop (size - length tail) text)
text_by_front text read tail size fits is =
    let behind : List ℕ = drop size text in
    let whole : text ≡ read ++ (tail ++ behind) = sym (take-append-drop size text) ∙ ap (λ (t : List ℕ). t ++ behind) is ∙ append_assoc read tail behind in
    let a = length-take-le size text fits in
    let b = ap length is in
    let c = length-append read tail in
    let n : length read ≡ size - length tail = omega (arith, a, b, c) in
    whole ∙ ap (λ (t : List ℕ). read ++ t) (sym (take_rest text (size - length tail) ∙ ap (λ (t : List ℕ). drop (size - length tail) t) whole ∙ drop_at read (tail ++ behind) (size - length tail) n))

pub returns : goal.returns
returns c =
    let b = c.in_ok-listed.ensures.fields in (
      b.0,
      (b.1.0, text_by_front c.args.bytes.now (compact_text b.1.0) c.in_ok-listed.tail.now c.fields_size-size.result c.fields_size-size.ensures b.1.1, b.1.2),
      b.2 ∙ ap (λ (fields : List (List ℕ × Value)). Some fields) (sym (c.in_ok-fields.ensures ∙ c.into_vec.ensures)),
    )
