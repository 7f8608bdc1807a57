-- The digits of a number, one more at a time.
use Rattle.trace_lines.proofs.Common.{List, [], ap, append_assoc, arith, decimal, decimal_digit, decimal_step, drop, get_or, length, suc, sym, ℕ, ◌%◌, ◌*◌, ◌++◌, ◌+◌, ◌/◌, ◌<◌, ◌^◌, ◌∙◌, ◌∷◌, ◌≡◌}
use Rattle.std.proofs.Math.Seq.{drop-cons}

pub begun : (text : List ℕ) (digit : ℕ) → digit < 10 → 0 < length text → get_or text 0 0 ≡ 48 + digit → text ≡ decimal digit ++ drop 1 text
begun text digit ten some here = drop-cons text 0 0 some ∙ ap (λ x. x ∷ drop 1 text) here ∙ ap (λ (l : List ℕ). l ++ drop 1 text) (sym (decimal_digit digit ten))

pub more : (text : List ℕ) (value at digit : ℕ) → 0 < value → value * 10 + digit < 2 ^ 64 → digit < 10 → at < length text → get_or text at 0 ≡ 48 + digit
    → text ≡ decimal value ++ drop at text → text ≡ decimal (value * 10 + digit) ++ drop (at + 1) text
more text value at digit some fits ten within here is =
    let n = value * 10 + digit in
    let front : n / 10 ≡ value = omega arith in
    let last : n % 10 ≡ digit = omega arith in
    let step = decimal_step n (omega arith) fits ∙ ap (λ q. decimal q ++ ((48 + n % 10) ∷ [])) front ∙ ap (λ r. decimal value ++ ((48 + r) ∷ [])) last in
    let next : suc at ≡ at + 1 = omega arith in
    let rest = drop-cons text at 0 within ∙ ap (λ x. x ∷ drop (suc at) text) here ∙ ap (λ k. (48 + digit) ∷ drop k text) next in
    is ∙ ap (λ (l : List ℕ). decimal value ++ l) rest ∙ sym (append_assoc (decimal value) ((48 + digit) ∷ []) (drop (at + 1) text)) ∙ ap (λ (l : List ℕ). l ++ drop (at + 1) text) (sym step)
