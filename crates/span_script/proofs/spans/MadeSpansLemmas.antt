-- Spans that are kept fit those that were made.
use Rattle.std.proofs.Common.{◌≡◌, ℕ, ◌+◌, ◌<◌, List, length, Bool, true, false, cond, set, refl, sym, ap, ◌∙◌, arith, inl, inr}
use Rattle.span_script.proofs.Common.{cases_eq, cases_lt, get_or_past, Span, no_span, span_at, with_hold, span_without_hold, without_hold, less_more, less_last, less_holds, MadeSpan, SpansFit}
use Rattle.std.proofs.lemmas.List.{length-set, get_or-set_same, get_or-set_other}

-- a span with the same parent and callsite, or closed
abbrev pub AsMade : Span → Span → Type 0
AsMade was now = 0 < now.holds → (now.parent ≡ was.parent) × (now.site ≡ was.site) × (0 < was.holds)

-- a span of which only the holds were written
pub made_written : (spans : List Span) (ms : List MadeSpan) (id : ℕ) (now : Span) → SpansFit spans ms → AsMade (span_at spans id) now → SpansFit (set spans id now) ms
made_written spans ms id now fit kin =
    let same : (q : ℕ) → AsMade (span_at spans q) (span_at (set spans id now) q) = λ q live. elim (cases_eq q id) [
      | inl here ↦ elim (cases_lt id (length spans)) [
        | inl within ↦ (
            let w = ap (λ (k : ℕ). span_at (set spans id now) k) here ∙ get_or-set_same spans id now no_span within in
            let b = ap (λ (k : ℕ). span_at spans k) here in
            let h = ap (λ (s : Span). s.holds) w in
            let k = kin (omega (arith, live, h)) in
            let z = ap (λ (s : Span). s.holds) b in
            let some = k.2 in
            (ap (λ (s : Span). s.parent) w ∙ k.0 ∙ ap (λ (s : Span). s.parent) (sym b), ap (λ (s : Span). s.site) w ∙ k.1 ∙ ap (λ (s : Span). s.site) (sym b), omega (arith, some, z)))
        | inr past ↦ absurd (let a = ap (λ (s : Span). s.holds) (get_or_past (set spans id now) q no_span (let l = length-set spans id now in omega (arith, l, past, here))) in omega (arith, a, live))
      ]
      | inr other ↦ (let w = get_or-set_other spans id q now no_span other in let h = ap (λ (s : Span). s.holds) w in (ap (λ (s : Span). s.parent) w, ap (λ (s : Span). s.site) w, omega (arith, h, live)))
    ] in
    record {
      count = length-set spans id now ∙ fit.count;
      parent = λ q live. (same q live).0 ∙ fit.parent q (same q live).2;
      site = λ q live. (same q live).1 ∙ fit.site q (same q live).2;
    }

pub made_if : (b : Bool) (xs ys : List Span) (ms : List MadeSpan) → SpansFit xs ms → SpansFit ys ms → SpansFit (cond b xs ys) ms
made_if true xs ys ms x y = x
made_if false xs ys ms x y = y

pub made_held : (spans : List Span) (ms : List MadeSpan) (id : ℕ) → SpansFit spans ms → 0 < (span_at spans id).holds → SpansFit (with_hold spans id) ms
made_held spans ms id fit live = made_written spans ms id (record (span_at spans id) { holds = (span_at spans id).holds + 1 }) fit (λ some. (refl, refl, live))

pub made_released : (spans : List Span) (ms : List MadeSpan) (id : ℕ) → SpansFit spans ms → SpansFit (without_hold spans id) ms
made_released spans ms id fit =
    let was = span_at spans id in
    made_written spans ms id (span_without_hold was) fit (λ some.
    let fewer = less_holds was in
    let more = less_more was (λ last. let h = ap (λ (s : Span). s.holds) (less_last was last) in omega (arith, h, some)) in
    (ap (λ (s : Span). s.parent) more, ap (λ (s : Span). s.site) more, omega (arith, fewer, some)))
