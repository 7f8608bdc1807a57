-- What stands behind a front, as std's call says it.
use Rattle.std.specs.Prelude.{eqb}
use Rattle.std.specs.List.{starts_with}
use Rattle.std.specs.Str.{IsCharBoundary}
use Rattle.std.specs.Str.Pattern.{FindsTextPrefix, StripsPrefix}
use Rattle.std.proofs.Common.{◌≡◌, ℕ, List, Bor, Option, None, Some, MatchOption, true, false, option_map, length, drop, refl, sym, ap, ◌∙◌, subst}
use Rattle.std.proofs.lemmas.Str.Pattern.{starts_text}
use Rattle.otel_metrics.specs.Families.{text_behind}

pub stripped : (front text : List ℕ) (r : Option (Bor (List ℕ)))
    → MatchOption r (FindsTextPrefix front text None) (λ x. StripsPrefix (FindsTextPrefix front) text x.now)
    → option_map (λ rest. rest.now) r ≡ text_behind front text
stripped front text None h =
    let lacks : starts_with eqb text front ≡ false = sym (starts_text false front text h) in
    rw lacks refl
stripped front text (Some x) h =
    let whole = subst (λ n. IsCharBoundary text n) (sym h.1.0) h.1.2 in
    let begins : starts_with eqb text front ≡ true = sym (starts_text true front text (h.0, h.1, whole)) in
    let rest : x.now ≡ drop (length front) text = h.2 ∙ ap (λ n. drop n text) h.1.0 in
    rw begins (ap (λ (t : List ℕ). Some t) rest)
