-- The same of all spans that are known.
use Rattle.std.proofs.Common.{◌≡◌, ℕ, ◌<◌, ◌≤◌, ◌==◌, List, [], ◌∷◌, ◌++◌, true, false, Option, Some, None, refl, sym, ap, subst, subst₂, ◌∙◌, arith, inl, inr, option_map}
use Rattle.span_eager.proofs.Common.{AllByRecursion, cases_Bool, cond-true, cond-false, SpanData, data_at, update, is_id}
use Rattle.std.specs.Map.{remove_entry}
use Rattle.std.proofs.lemmas.Bool.{eq-eqb, eqb-true, ne_eqb, true≢false}
use Rattle.span_eager.proofs.SameSpan.{SameTold, later_alike}

abbrev pub SameSpans : (ℕ → ℕ) → ℕ → List (ℕ × SpanData) → List (ℕ × SpanData) → Type 0
SameSpans f at [] [] = Unit {0}
SameSpans f at (e ∷ es) (l ∷ ls) = (e.0 ≡ l.0) × SameTold f l.0 at e.1 l.1 × SameSpans f at es ls
SameSpans f at [] (l ∷ ls) = ⊥
SameSpans f at (e ∷ es) [] = ⊥

abbrev pub SameAt : (ℕ → ℕ) → ℕ → ℕ → Option SpanData → Option SpanData → Type 0
SameAt f s at None None = Unit {0}
SameAt f s at (Some e) (Some l) = SameTold f s at e l
SameAt f s at None (Some l) = ⊥
SameAt f s at (Some e) None = ⊥

abbrev pub Below : ℕ → List (ℕ × SpanData) → Type 0
Below n spans = AllByRecursion (λ (x : ℕ × SpanData). x.0 < n) spans

-- ---- one of them

told_here : (s : ℕ) (x : ℕ × SpanData) (xs : List (ℕ × SpanData)) → (x.0 == s) ≡ true → data_at s (x ∷ xs) ≡ Some x.1
told_here s x xs here = cond-true {A = Option SpanData} (x.0 == s) (Some x.1) (data_at s xs) here

told_there : (s : ℕ) (x : ℕ × SpanData) (xs : List (ℕ × SpanData)) → (x.0 == s) ≡ false → data_at s (x ∷ xs) ≡ data_at s xs
told_there s x xs off = cond-false {A = Option SpanData} (x.0 == s) (Some x.1) (data_at s xs) off

pub same_at : (f : ℕ → ℕ) (at : ℕ) (es ls : List (ℕ × SpanData)) (s : ℕ) → SameSpans f at es ls → SameAt f s at (data_at s es) (data_at s ls)
same_at f at [] [] s same = tt
same_at f at [] (l ∷ ls) s same = absurd same
same_at f at (e ∷ es) [] s same = absurd same
same_at f at (e ∷ es) (l ∷ ls) s same = elim (cases_Bool (l.0 == s)) [
  | inl here ↦ subst₂ (SameAt f s at) (sym (told_here s e es (ap (λ n. n == s) same.0 ∙ here))) (sym (told_here s l ls here)) (subst (λ (q : ℕ). SameTold f q at e.1 l.1) (eqb-true l.0 s here) same.1)
  | inr off ↦ subst₂ (SameAt f s at) (sym (told_there s e es (ap (λ n. n == s) same.0 ∙ off))) (sym (told_there s l ls off)) (same_at f at es ls s same.2)
]

-- ---- time passes

pub same_later : (f : ℕ → ℕ) (at later : ℕ) (es ls : List (ℕ × SpanData)) → at ≤ later → SameSpans f at es ls → SameSpans f later es ls
same_later f at later [] [] more same = tt
same_later f at later [] (l ∷ ls) more same = same
same_later f at later (e ∷ es) [] more same = same
same_later f at later (e ∷ es) (l ∷ ls) more same = (same.0, later_alike f l.0 at later e.1 l.1 more same.1, same_later f at later es ls more same.2)

-- ---- one changes

update_here : (s : ℕ) (g : SpanData → SpanData) (x : ℕ × SpanData) (xs : List (ℕ × SpanData)) → (x.0 == s) ≡ true → update s g (x ∷ xs) ≡ (x.0, g x.1) ∷ xs
update_here s g x xs here = cond-true {A = List (ℕ × SpanData)} (x.0 == s) ((x.0, g x.1) ∷ xs) (x ∷ update s g xs) here

update_there : (s : ℕ) (g : SpanData → SpanData) (x : ℕ × SpanData) (xs : List (ℕ × SpanData)) → (x.0 == s) ≡ false → update s g (x ∷ xs) ≡ x ∷ update s g xs
update_there s g x xs off = cond-false {A = List (ℕ × SpanData)} (x.0 == s) ((x.0, g x.1) ∷ xs) (x ∷ update s g xs) off

pub same_update : (f : ℕ → ℕ) (at : ℕ) (es ls : List (ℕ × SpanData)) (s : ℕ) (g h : SpanData → SpanData) → SameSpans f at es ls
    → ((e l : SpanData) → data_at s ls ≡ Some l → SameTold f s at e l → SameTold f s at (g e) (h l)) → SameSpans f at (update s g es) (update s h ls)
same_update f at [] [] s g h same change = tt
same_update f at [] (l ∷ ls) s g h same change = absurd same
same_update f at (e ∷ es) [] s g h same change = absurd same
same_update f at (e ∷ es) (l ∷ ls) s g h same change = elim (cases_Bool (l.0 == s)) [
  | inl here ↦ (
      let is = eqb-true l.0 s here in
      subst₂ (SameSpans f at) (sym (update_here s g e es (ap (λ n. n == s) same.0 ∙ here))) (sym (update_here s h l ls here)) (
        same.0,
        subst (λ (q : ℕ). SameTold f q at (g e.1) (h l.1)) (sym is) (change e.1 l.1 (told_here s l ls here) (subst (λ (q : ℕ). SameTold f q at e.1 l.1) is same.1)),
        same.2,
      ))
  | inr off ↦ subst₂ (SameSpans f at) (sym (update_there s g e es (ap (λ n. n == s) same.0 ∙ off))) (sym (update_there s h l ls off)) (
    same.0,
    same.1,
    same_update f at es ls s g h same.2 (λ d m is. change d m (told_there s l ls off ∙ is)),
  )
]

pub update_same : (s : ℕ) (xs : List (ℕ × SpanData)) → update s (λ (t : SpanData). t) xs ≡ xs
update_same s [] = refl
update_same s (x ∷ xs) = elim (cases_Bool (x.0 == s)) [
  | inl here ↦ update_here s (λ (t : SpanData). t) x xs here
  | inr off ↦ update_there s (λ (t : SpanData). t) x xs off ∙ ap (λ (ys : List (ℕ × SpanData)). x ∷ ys) (update_same s xs)
]

-- ---- one more

pub same_push : (f : ℕ → ℕ) (at : ℕ) (es ls : List (ℕ × SpanData)) (s : ℕ) (e l : SpanData) → SameSpans f at es ls → SameTold f s at e l → SameSpans f at (es ++ (s, e) ∷ []) (ls ++ (s, l) ∷ [])
same_push f at [] [] s e l same new = (refl, new, tt)
same_push f at [] (m ∷ ls) s e l same new = absurd same
same_push f at (d ∷ es) [] s e l same new = absurd same
same_push f at (d ∷ es) (m ∷ ls) s e l same new = (same.0, same.1, same_push f at es ls s e l same.2 new)

-- the next one isn't known yet
pub next_unknown : (n : ℕ) (xs : List (ℕ × SpanData)) → Below n xs → data_at n xs ≡ None
next_unknown n [] below = refl
next_unknown n (x ∷ xs) below = told_there n x xs (ne_eqb x.0 n (λ e. (let less = below.0 in absurd (omega (arith, e, less))))) ∙ next_unknown n xs below.1

pub unknown_by : (f : ℕ → ℕ) (s at : ℕ) (e l : Option SpanData) → SameAt f s at e l → l ≡ None → e ≡ None
unknown_by f s at None l same none = refl
unknown_by f s at (Some e) None same none = absurd same
unknown_by f s at (Some e) (Some l) same none = absurd (cc none)

pub pushed_told : (n : ℕ) (told : SpanData) (xs : List (ℕ × SpanData)) → data_at n xs ≡ None → data_at n (xs ++ (n, told) ∷ []) ≡ Some told
pushed_told n told [] none = cond-true {A = Option SpanData} (n == n) (Some told) None (eq-eqb n n refl)
pushed_told n told (x ∷ xs) none = elim (cases_Bool (x.0 == n)) [
  | inl here ↦ absurd (cc (sym (told_here n x xs here) ∙ none))
  | inr off ↦ told_there n x (xs ++ (n, told) ∷ []) off ∙ pushed_told n told xs (sym (told_there n x xs off) ∙ none)
]

pub pushed_update : (n : ℕ) (g : SpanData → SpanData) (told : SpanData) (xs : List (ℕ × SpanData)) → data_at n xs ≡ None → update n g (xs ++ (n, told) ∷ []) ≡ xs ++ (n, g told) ∷ []
pushed_update n g told [] none = update_here n g (n, told) [] (eq-eqb n n refl)
pushed_update n g told (x ∷ xs) none = elim (cases_Bool (x.0 == n)) [
  | inl here ↦ absurd (cc (sym (told_here n x xs here) ∙ none))
  | inr off ↦ update_there n g x (xs ++ (n, told) ∷ []) off ∙ ap (λ (ys : List (ℕ × SpanData)). x ∷ ys) (pushed_update n g told xs (sym (told_there n x xs off) ∙ none))
]

-- ---- one less

pub same_remove : (f : ℕ → ℕ) (at : ℕ) (es ls : List (ℕ × SpanData)) (s : ℕ) → SameSpans f at es ls → SameSpans f at (remove_entry (is_id s) es) (remove_entry (is_id s) ls)
same_remove f at [] [] s same = tt
same_remove f at [] (l ∷ ls) s same = absurd same
same_remove f at (e ∷ es) [] s same = absurd same
same_remove f at (e ∷ es) (l ∷ ls) s same = elim (cases_Bool (l.0 == s)) [
  | inl here ↦ subst₂ (SameSpans f at)
      (sym (cond-true {A = List (ℕ × SpanData)} (e.0 == s) es (e ∷ remove_entry (is_id s) es) (ap (λ n. n == s) same.0 ∙ here)))
      (sym (cond-true {A = List (ℕ × SpanData)} (l.0 == s) ls (l ∷ remove_entry (is_id s) ls) here)) same.2
  | inr off ↦ subst₂ (SameSpans f at)
      (sym (cond-false {A = List (ℕ × SpanData)} (e.0 == s) es (e ∷ remove_entry (is_id s) es) (ap (λ n. n == s) same.0 ∙ off)))
      (sym (cond-false {A = List (ℕ × SpanData)} (l.0 == s) ls (l ∷ remove_entry (is_id s) ls) off))
      (same.0, same.1, same_remove f at es ls s same.2)
]

-- ---- all are below

pub below_more : (n m : ℕ) (xs : List (ℕ × SpanData)) → n ≤ m → Below n xs → Below m xs
below_more n m [] less below = tt
below_more n m (x ∷ xs) less below = (let b = below.0 in omega (arith, b, less), below_more n m xs less below.1)

pub below_push : (n s : ℕ) (told : SpanData) (xs : List (ℕ × SpanData)) → s < n → Below n xs → Below n (xs ++ (s, told) ∷ [])
below_push n s told [] less below = (less, tt)
below_push n s told (x ∷ xs) less below = (below.0, below_push n s told xs less below.1)

pub below_update : (n s : ℕ) (g : SpanData → SpanData) (xs : List (ℕ × SpanData)) → Below n xs → Below n (update s g xs)
below_update n s g [] below = tt
below_update n s g (x ∷ xs) below = elim (cases_Bool (x.0 == s)) [
  | inl here ↦ subst (Below n) (sym (update_here s g x xs here)) (below.0, below.1)
  | inr off ↦ subst (Below n) (sym (update_there s g x xs off)) (below.0, below_update n s g xs below.1)
]

pub below_remove : (n s : ℕ) (xs : List (ℕ × SpanData)) → Below n xs → Below n (remove_entry (is_id s) xs)
below_remove n s [] below = tt
below_remove n s (x ∷ xs) below = elim (cases_Bool (x.0 == s)) [
  | inl here ↦ subst (Below n) (sym (cond-true {A = List (ℕ × SpanData)} (x.0 == s) xs (x ∷ remove_entry (is_id s) xs) here)) below.1
  | inr off ↦ subst (Below n) (sym (cond-false {A = List (ℕ × SpanData)} (x.0 == s) xs (x ∷ remove_entry (is_id s) xs) off)) (below.0, below_remove n s xs below.1)
]

-- ---- what a change makes of one

pub updated_told : (s : ℕ) (g : SpanData → SpanData) (xs : List (ℕ × SpanData)) → data_at s (update s g xs) ≡ option_map g (data_at s xs)
updated_told s g [] = refl
updated_told s g (x ∷ xs) = elim (cases_Bool (x.0 == s)) [
  | inl here ↦ ap (data_at s) (update_here s g x xs here) ∙ told_here s (x.0, g x.1) xs here ∙ sym (ap (option_map g) (told_here s x xs here))
  | inr off ↦ ap (data_at s) (update_there s g x xs off) ∙ told_there s x (update s g xs) off ∙ updated_told s g xs ∙ sym (ap (option_map g) (told_there s x xs off))
]

pub others_told : (q s : ℕ) (g : SpanData → SpanData) (xs : List (ℕ × SpanData)) → (q == s) ≡ false → data_at q (update s g xs) ≡ data_at q xs
others_told q s g [] other = refl
others_told q s g (x ∷ xs) other = elim (cases_Bool (x.0 == s)) [
  | inl here ↦ (
      let off : (x.0 == q) ≡ false = ne_eqb x.0 q (λ e. true≢false (sym (eq-eqb q s (sym e ∙ eqb-true x.0 s here)) ∙ other)) in
      ap (data_at q) (update_here s g x xs here) ∙ told_there q (x.0, g x.1) xs off ∙ sym (told_there q x xs off))
  | inr off ↦ ap (data_at q) (update_there s g x xs off) ∙ elim (cases_Bool (x.0 == q)) [
    | inl found ↦ told_here q x (update s g xs) found ∙ sym (told_here q x xs found)
    | inr missed ↦ told_there q x (update s g xs) missed ∙ others_told q s g xs other ∙ sym (told_there q x xs missed)
  ]
]
