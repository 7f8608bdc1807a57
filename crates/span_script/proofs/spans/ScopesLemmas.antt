-- Scopes stay scopes when one more span is made.
use Rattle.std.proofs.Common.{◌≡◌, ℕ, ◌<◌, zero, suc, List, [], ◌∷◌, ◌++◌, length, Option, Some, None, option_map, map, refl, sym, ap, subst, ◌∙◌, arith, inl, inr, IfSome}
use Rattle.span_script.proofs.Common.{cases_eq, length_push, get_or_push, get_or_append_left, Scope, MadeSpan, no_made_span, made_span_at, span_of_scope, site_of, slot_at, with_item, IsScope, IsLaterThanParent}

pub made_left : (made : List MadeSpan) (m : MadeSpan) (s : ℕ) → s < length made → made_span_at (made ++ m ∷ []) s ≡ made_span_at made s
made_left made m s within = get_or_append_left made (m ∷ []) _ s within

pub line_push : (made : List MadeSpan) (m : MadeSpan) (line : Scope) → IsScope made line → IsScope (made ++ m ∷ []) line
line_push made m [] is = tt
line_push made m (s ∷ up) is = (let n = length_push made m in let k = is.0 in omega (arith, n, k), ap (λ (x : MadeSpan). x.scope) (made_left made m s is.0) ∙ is.1, is.2, line_push made m up is.3)

under_all : (made : List MadeSpan) (up : Scope) → IsScope made up → IsLaterThanParent (length made) up
under_all made [] is = tt
under_all made (p ∷ up) is = is.0

-- a span made under a line
abbrev pub NewMade : List MadeSpan → Option MadeSpan → Type 0
NewMade made None = Unit {0}
NewMade made (Some m) = (up : Scope) × (m.scope ≡ length made ∷ up) × IsScope made up

pub new_line : (made : List MadeSpan) (m : MadeSpan) (up : Scope) → m.scope ≡ length made ∷ up → IsScope made up → IsScope (made ++ m ∷ []) (length made ∷ up)
new_line made m up is below = (let n = length_push made m in omega (arith, n), ap (λ (x : MadeSpan). x.scope) (get_or_push made m _ (length made) refl) ∙ is, under_all made up below, line_push made m up below)

pub lines_with : (made : List MadeSpan) (new : Option MadeSpan) → NewMade made new → (line : Scope) → IsScope made line → IsScope (with_item made new) line
lines_with made None ok line is = is
lines_with made (Some m) ok line is = line_push made m line is

pub lines_after : (made : List MadeSpan) (new : Option MadeSpan) → NewMade made new → ((s : ℕ) → s < length made → (span_of_scope (made_span_at made s).scope ≡ Some s) × IsScope made (made_span_at made s).scope)
    → (s : ℕ) → s < length (with_item made new) → (span_of_scope (made_span_at (with_item made new) s).scope ≡ Some s) × IsScope (with_item made new) (made_span_at (with_item made new) s).scope
lines_after made None ok old s within = old s within
lines_after made (Some m) ok old s within =
    let P : Scope → Type 0 = λ line. (span_of_scope line ≡ Some s) × IsScope (made ++ m ∷ []) line in
    elim (cases_eq s (length made)) [
      | inl here ↦ subst P (sym (ap (λ (x : MadeSpan). x.scope) (get_or_push made m _ s (sym here)) ∙ ok.1)) (ap Some (sym here), new_line made m ok.0 ok.1 ok.2)
      | inr other ↦ (
          let below : s < length made = (let n = length_push made m in omega (arith, n, other, within)) in
          let was = old s below in
          subst P (sym (ap (λ (x : MadeSpan). x.scope) (made_left made m s below))) (was.0, line_push made m (made_span_at made s).scope was.1))
    ]

-- ---- callsites

pub site_left : (made : List MadeSpan) (new : Option MadeSpan) (scope : Scope) → IsScope made scope → site_of (with_item made new) scope ≡ site_of made scope
site_left made None scope is = refl
site_left made (Some m) [] is = refl
site_left made (Some m) (s ∷ up) is = ap (λ (x : MadeSpan). Some x.site) (made_left made m s is.0)

-- handles keep the callsites of their spans
pub sites_left : (made : List MadeSpan) (new : Option MadeSpan) (slots : List (Option Scope)) → ((n : ℕ) (scope : Scope) → slot_at slots n ≡ Some scope → IsScope made scope)
    → map (option_map (site_of made)) slots ≡ map (option_map (site_of (with_item made new))) slots
sites_left made new [] are = refl
sites_left made new (None ∷ slots) are = ap (λ (xs : List (Option (Option ℕ))). None ∷ xs) (sites_left made new slots (λ n scope there. are (suc n) scope there))
sites_left made new (Some scope ∷ slots) are =
    ap (λ (o : Option ℕ). Some o ∷ map (option_map (site_of made)) slots) (sym (site_left made new scope (are zero scope refl)))
    ∙ ap (λ (xs : List (Option (Option ℕ))). Some (site_of (with_item made new) scope) ∷ xs) (sites_left made new slots (λ n scope there. are (suc n) scope there))

-- a span that is made has a callsite that is there
abbrev pub NewSite : ℕ → Option MadeSpan → Type 0
NewSite many new = IfSome new (λ m. m.site < many)

pub sited_after : (many : ℕ) (made : List MadeSpan) (new : Option MadeSpan) → NewSite many new → ((s : ℕ) → s < length made → (made_span_at made s).site < many) → (s : ℕ) → s < length (with_item made new) → (made_span_at (with_item made new) s).site < many
sited_after many made None ok old s within = old s within
sited_after many made (Some m) ok old s within = elim (cases_eq s (length made)) [
  | inl here ↦ (let e = ap (λ (x : MadeSpan). x.site) (get_or_push made m no_made_span s (sym here)) in omega (arith, e, ok))
  | inr other ↦ (
      let below : s < length made = (let n = length_push made m in omega (arith, n, other, within)) in
      let e = ap (λ (x : MadeSpan). x.site) (made_left made m s below) in
      let was = old s below in
      omega (arith, e, was))
]
