-- How many spans are open, by the first ids.
use Rattle.std.proofs.Common.{◌≡◌, ℕ, zero, suc, ◌+◌, ◌<◌, ◌≤◌, List, [], ◌∷◌, ◌++◌, length, Bool, false, cond, count_by, nat_lt, Option, option_map, map, refl, sym, ap, subst, ◌∙◌, arith, add-one, inl, inr}
use Rattle.span_script.proofs.Common.{range_with_len, cond-true, cond-false, cases_eq, length-map, Span, span_at, count_push, Handle, Tables, is_open, open_spans, PipelineState, StandsFor, held_by, held_of}
use Rattle.std.proofs.lemmas.Bool.{lt-ltb, le-ltb}
use Rattle.std.proofs.lemmas.List.{map-id}
use Rattle.std.proofs.lemmas.List.FromFn.{map-range_with_len_more}
use Rattle.span_script.proofs.spans.OpenSpansLemmas.{opens}

pub range_more : (n : ℕ) → range_with_len 0 (suc n) ≡ range_with_len 0 n ++ n ∷ []
range_more n =
    ap (range_with_len 0) (sym (add-one n)) ∙ sym (map-id (range_with_len 0 (n + 1))) ∙ map-range_with_len_more (λ (i : ℕ). i) 0 n n (omega arith)
    ∙ ap (λ (xs : List ℕ). xs ++ n ∷ []) (map-id (range_with_len 0 n))

one_more : (p : ℕ → Bool) (n : ℕ) → count_by p (range_with_len 0 (suc n)) ≡ count_by p (range_with_len 0 n) + cond {A = ℕ} (p n) 1 0
one_more p n = ap (count_by p) (range_more n) ∙ count_push p (range_with_len 0 n) n

abbrev pub holds_one : List Span → ℕ → Bool
holds_one made s = nat_lt 0 (span_at made s).holds

pub counts_held : (made : List Span) (n id count more : ℕ) → id ≡ n → count ≡ count_by (holds_one made) (range_with_len 0 n) → 0 < (span_at made id).holds → more ≡ count + 1 → more ≡ count_by (holds_one made) (range_with_len 0 (n + 1))
counts_held made n id count more at so some is =
    let step = one_more (holds_one made) n in
    let b = cond-true {A = ℕ} (holds_one made n) 1 0 (lt-ltb 0 (span_at made n).holds (subst (λ (x : ℕ). 0 < (span_at made x).holds) at some)) in
    let e : more ≡ count_by (holds_one made) (range_with_len 0 (suc n)) = omega (arith, step, b, so, is) in
    e ∙ ap (λ (m : ℕ). count_by (holds_one made) (range_with_len 0 m)) (sym (add-one n))

pub counts_none : (made : List Span) (n id count more : ℕ) → id ≡ n → count ≡ count_by (holds_one made) (range_with_len 0 n) → (span_at made id).holds ≤ 0 → more ≡ count → more ≡ count_by (holds_one made) (range_with_len 0 (n + 1))
counts_none made n id count more at so none is =
    let step = one_more (holds_one made) n in
    let b = cond-false {A = ℕ} (holds_one made n) 1 0 (le-ltb 0 (span_at made n).holds (subst (λ (x : ℕ). (span_at made x).holds ≤ 0) at none)) in
    let e : more ≡ count_by (holds_one made) (range_with_len 0 (suc n)) = omega (arith, step, b, so, is) in
    e ∙ ap (λ (m : ℕ). count_by (holds_one made) (range_with_len 0 m)) (sym (add-one n))

-- what passes by either passes by both
same_count : (p q : ℕ → Bool) → ((s : ℕ) → p s ≡ q s) → (n : ℕ) → count_by p (range_with_len 0 n) ≡ count_by q (range_with_len 0 n)
same_count p q same zero = refl
same_count p q same (suc n) =
    let a = one_more p n in
    let b = one_more q n in
    let c = same_count p q same n in
    let d = ap (λ x. cond {A = ℕ} x 1 0) (same n) in
    omega (arith, a, b, c, d)

-- nothing is counted past the last
none_past : (p : ℕ → Bool) (n m : ℕ) → ((s : ℕ) → n ≤ s → p s ≡ false) → n ≤ m → count_by p (range_with_len 0 m) ≡ count_by p (range_with_len 0 n)
none_past p n zero none within = ap (λ (x : ℕ). count_by p (range_with_len 0 x)) (let e : 0 ≡ n = omega (arith, within) in e)
none_past p n (suc m) none within = elim (cases_eq n (suc m)) [
  | inl here ↦ ap (λ (x : ℕ). count_by p (range_with_len 0 x)) (sym here)
  | inr apart ↦ (
      let low : n ≤ m = omega (arith, within, apart) in
      let a = one_more p m in
      let b = cond-false {A = ℕ} (p m) 1 0 (none m low) in
      let c = none_past p n m none low in
      omega (arith, a, b, c))
]

past_holds : (made : List Span) (s : ℕ) → length made ≤ s → (span_at made s).holds ≡ 0
past_holds [] s past = refl
past_holds (x ∷ made) zero past = absurd (omega (arith, past))
past_holds (x ∷ made) (suc s) past = past_holds made s (omega (arith, past))

-- as many have holds as are open
pub open_counted : (view k : PipelineState) → view ≡ k → (hs : List (Option Handle)) → view.handles ≡ map held_by hs → (made : List Span) → view.spans.made ≡ made → (n : ℕ) → n ≡ length hs → (t : Tables) → StandsFor k t → count_by (holds_one made) (range_with_len 0 n) ≡ open_spans t
open_counted view k is hs handles made spans n many t stands =
    let made_is : made ≡ k.spans.made = sym spans ∙ ap (λ (x : PipelineState). x.spans.made) is in
    let l : n ≡ length t.handles = many ∙ sym (length-map hs held_by) ∙ ap length (sym handles ∙ ap (λ (x : PipelineState). x.handles) is ∙ stands.fits.handle_slots) ∙ length-map t.handles (λ o. option_map (held_of k.dispatch) o) in
    let few = stands.fits.few in
    let count = stands.fits.made.count in
    ap (λ (x : List Span). count_by (holds_one x) (range_with_len 0 n)) made_is
    ∙ same_count (holds_one k.spans.made) (is_open t.handles) (opens k t stands.fits) n
    ∙ none_past (is_open t.handles) (length t.spans) n
    (λ s past. sym (opens k t stands.fits s) ∙ le-ltb 0 (span_at k.spans.made s).holds (let e = past_holds k.spans.made s (omega (arith, past, count)) in omega (arith, e)))
    (omega (arith, l, few))
