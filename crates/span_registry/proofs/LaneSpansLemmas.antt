-- The spans that a lane is in, after an entry and an exit.
use Rattle.std.proofs.Common.{◌≡◌, ℕ, ◌-◌, ◌<◌, List, [], ◌∷◌, ◌++◌, length, Bool, true, false, get_or, Option, Some, None, refl, sym, ap, ◌∙◌, arith, inl, inr, if◌then◌else◌, ◌==◌, ◌||◌}
use Rattle.span_registry.proofs.Common.{last_or, eqb-false, cases_eq, cases_Bool, cond-true, cond-false, or_right, or_parts, is_in, times_in, without_last, current_from, count_cons, counted_if_any, any_if_counted, in_push_same, in_push_other, firsts_from, firsts_of}
use Rattle.std.proofs.lemmas.Bool.{eqb-true, eq-eqb, ne_eqb, true≢false}
use Rattle.std.proofs.lemmas.List.{append_assoc, append-nil}

-- the current span is the last of those
pub current_last : (before : List ℕ) (now : Option ℕ) (ids : List ℕ) → current_from before now ids ≡ last_or now (firsts_from before ids)
current_last before now [] = refl
current_last before now (s ∷ ids) =
    let rest = firsts_from (before ++ s ∷ []) ids in
    let all = current_last (before ++ s ∷ []) (if is_in s before then now else Some s) ids in
    elim (cases_Bool (is_in s before)) [
      | inl again ↦ all ∙ ap (λ (o : Option ℕ). last_or o rest) (cond-true {A = Option ℕ} (is_in s before) now (Some s) again) ∙ ap (last_or now) (sym (cond-true {A = List ℕ} (is_in s before) rest (s ∷ rest) again))
      | inr new ↦ all ∙ ap (λ (o : Option ℕ). last_or o rest) (cond-false {A = Option ℕ} (is_in s before) now (Some s) new) ∙ ap (last_or now) (sym (cond-false {A = List ℕ} (is_in s before) rest (s ∷ rest) new))
    ]

last_in : (x : ℕ) (xs : List ℕ) (d : ℕ) → last_or (Some x) xs ≡ Some (get_or (x ∷ xs) (length xs) d)
last_in x [] d = refl
last_in x (y ∷ xs) d = last_in y xs d

pub last_at : (xs : List ℕ) (d : ℕ) → 0 < length xs → last_or None xs ≡ Some (get_or xs (length xs - 1) d)
last_at [] d some = absurd (omega (arith, some))
last_at (x ∷ xs) d some = (let e : length xs ≡ length (x ∷ xs) - 1 = omega arith in last_in x xs d ∙ ap (λ (n : ℕ). Some (get_or (x ∷ xs) n d)) e)

-- an entry more
if_pushed : (b c : Bool) (x s : ℕ) (xs : List ℕ) → (let ys : List ℕ = if c then xs else xs ++ s ∷ [] in let zs : List ℕ = if b then ys else x ∷ ys in zs) ≡ (let ys : List ℕ = if b then xs else x ∷ xs in let zs : List ℕ = if c then ys else ys ++ s ∷ [] in zs)
if_pushed true true x s xs = refl
if_pushed true false x s xs = refl
if_pushed false true x s xs = refl
if_pushed false false x s xs = refl

pub firsts_push : (before ids : List ℕ) (s : ℕ) → firsts_from before (ids ++ s ∷ []) ≡ (if is_in s (before ++ ids) then firsts_from before ids else firsts_from before ids ++ s ∷ [])
firsts_push before [] s = ap (λ (xs : List ℕ). let ys : List ℕ = if is_in s xs then [] else s ∷ [] in ys) (sym (append-nil before))
firsts_push before (x ∷ ids) s =
    let rest = firsts_from (before ++ x ∷ []) ids in
    ap (λ (xs : List ℕ). let ys : List ℕ = if is_in x before then xs else x ∷ xs in ys) (firsts_push (before ++ x ∷ []) ids s
    ∙ ap (λ (xs : List ℕ). let ys : List ℕ = if is_in s xs then rest else rest ++ s ∷ [] in ys) (append_assoc before (x ∷ []) ids))
    ∙ if_pushed (is_in x before) (is_in s (before ++ x ∷ ids)) x s rest

-- what was entered before counts only by the spans
same_in_push : (b c : List ℕ) (x q : ℕ) → is_in q b ≡ is_in q c → is_in q (b ++ x ∷ []) ≡ is_in q (c ++ x ∷ [])
same_in_push b c x q same = elim (cases_eq q x) [
  | inl here ↦ ap (λ (k : ℕ). is_in k (b ++ x ∷ [])) here ∙ in_push_same b x ∙ sym (in_push_same c x) ∙ ap (λ (k : ℕ). is_in k (c ++ x ∷ [])) (sym here)
  | inr other ↦ in_push_other b x q other ∙ same ∙ sym (in_push_other c x q other)
]

in_later : (x q : ℕ) (ids : List ℕ) → is_in q ids ≡ true → is_in q (x ∷ ids) ≡ true
in_later x q ids there = or_right (x == q) (is_in q ids) there

firsts_alike : (b c ids : List ℕ) → ((q : ℕ) → is_in q ids ≡ true → is_in q b ≡ is_in q c) → firsts_from b ids ≡ firsts_from c ids
firsts_alike b c [] same = refl
firsts_alike b c (x ∷ ids) same =
    let here : is_in x b ≡ is_in x c = same x (ap (λ t. t || is_in x ids) (eq-eqb x x refl)) in
    let rest = firsts_alike (b ++ x ∷ []) (c ++ x ∷ []) ids (λ q there. same_in_push b c x q (same q (in_later x q ids there))) in
    ap (λ (t : Bool). let ys : List ℕ = if t then firsts_from (b ++ x ∷ []) ids else x ∷ firsts_from (b ++ x ∷ []) ids in ys) here
    ∙ ap (λ (xs : List ℕ). let ys : List ℕ = if is_in x c then xs else x ∷ xs in ys) rest

-- a span that isn't among the entries is none of theirs
not_first : (before ids : List ℕ) (s : ℕ) → is_in s ids ≡ false → is_in s (firsts_from before ids) ≡ false
not_first before [] s not = refl
not_first before (x ∷ ids) s not =
    let parts = or_parts (x == s) (is_in s ids) not in
    let rest = firsts_from (before ++ x ∷ []) ids in
    let none = not_first (before ++ x ∷ []) ids s parts.1 in
    elim (cases_Bool (is_in x before)) [
      | inl again ↦ ap (is_in s) (cond-true {A = List ℕ} (is_in x before) rest (x ∷ rest) again) ∙ none
      | inr new ↦ ap (is_in s) (cond-false {A = List ℕ} (is_in x before) rest (x ∷ rest) new) ∙ ap (λ t. t || is_in s rest) parts.0 ∙ none
    ]

-- a span that is among the entries, and not among those before, is one of theirs
pub is_first : (before ids : List ℕ) (s : ℕ) → is_in s before ≡ false → is_in s ids ≡ true → is_in s (firsts_from before ids) ≡ true
is_first before [] s not there = there
is_first before (x ∷ ids) s not there =
    let rest = firsts_from (before ++ x ∷ []) ids in
    elim (cases_eq x s) [
      | inl here ↦ (
          let new : is_in x before ≡ false = ap (λ (k : ℕ). is_in k before) here ∙ not in
          ap (is_in s) (cond-false {A = List ℕ} (is_in x before) rest (x ∷ rest) new) ∙ ap (λ t. t || is_in s rest) (eq-eqb x s here))
      | inr other ↦ (
          let later : is_in s ids ≡ true = sym (ap (λ t. t || is_in s ids) (ne_eqb x s other)) ∙ there in
          let some = is_first (before ++ x ∷ []) ids s (in_push_other before x s (λ e. other (sym e)) ∙ not) later in
          elim (cases_Bool (is_in x before)) [
            | inl again ↦ ap (is_in s) (cond-true {A = List ℕ} (is_in x before) rest (x ∷ rest) again) ∙ some
            | inr new ↦ ap (is_in s) (cond-false {A = List ℕ} (is_in x before) rest (x ∷ rest) new) ∙ or_right (x == s) (is_in s rest) some
          ])
    ]

abbrev left : ℕ → List ℕ → List ℕ
left s ids = without_last (λ x. x == s) ids

left_later : (x s : ℕ) (ids : List ℕ) → is_in s ids ≡ true → left s (x ∷ ids) ≡ x ∷ left s ids
left_later x s ids there = cond-true {A = List ℕ} (is_in s ids) _ _ there

left_here : (x s : ℕ) (ids : List ℕ) → x ≡ s → is_in s ids ≡ false → left s (x ∷ ids) ≡ ids
left_here x s ids here not = cond-false {A = List ℕ} (is_in s ids) _ _ not ∙ cond-true {A = List ℕ} (x == s) _ _ (eq-eqb x s here)

-- the last entry of a span that stands before: the others have the same spans
again_left : (before ids : List ℕ) (s : ℕ) → is_in s before ≡ true → is_in s ids ≡ true → firsts_from before (left s ids) ≡ firsts_from before ids
again_left before [] s known there = refl
again_left before (x ∷ ids) s known there =
    elim (cases_Bool (is_in s ids)) [
      | inl later ↦ (
          let kept : is_in s (before ++ x ∷ []) ≡ true = elim (cases_eq s x) [
            | inl here ↦ ap (λ (k : ℕ). is_in k (before ++ x ∷ [])) here ∙ in_push_same before x
            | inr other ↦ in_push_other before x s other ∙ known
          ] in
          ap (firsts_from before) (left_later x s ids later) ∙ ap (λ (xs : List ℕ). let ys : List ℕ = if is_in x before then xs else x ∷ xs in ys) (again_left (before ++ x ∷ []) ids s kept later))
      | inr last ↦ elim (cases_eq x s) [
        | inl here ↦ (
            let rest = firsts_from (before ++ x ∷ []) ids in
            ap (firsts_from before) (left_here x s ids here last)
            ∙ firsts_alike before (before ++ x ∷ []) ids (λ q some. sym (in_push_other before x q (λ e. true≢false (sym some ∙ ap (λ (k : ℕ). is_in k ids) (e ∙ here) ∙ last))))
            ∙ sym (cond-true {A = List ℕ} (is_in x before) rest (x ∷ rest) (ap (λ (k : ℕ). is_in k before) here ∙ known)))
        | inr other ↦ absurd (true≢false (sym (sym (ap (λ t. t || is_in s ids) (ne_eqb x s other)) ∙ there) ∙ last))
      ]
    ]

-- one entry less of a span that has several
pub several_left : (before ids : List ℕ) (s : ℕ) → 1 < times_in s ids → firsts_from before (left s ids) ≡ firsts_from before ids
several_left before [] s several = absurd (omega (arith, several))
several_left before (x ∷ ids) s several =
    let count = count_cons (λ y. y == s) x ids in
    let some : is_in s ids ≡ true = any_if_counted (λ y. y == s) ids (elim (cases_Bool (x == s)) [
      | inl here ↦ (let c = cond-true {A = ℕ} (x == s) 1 0 here in omega (arith, count, c, several))
      | inr not ↦ (let c = cond-false {A = ℕ} (x == s) 1 0 not in omega (arith, count, c, several))
    ]) in
    ap (firsts_from before) (left_later x s ids some) ∙ ap (λ (xs : List ℕ). let ys : List ℕ = if is_in x before then xs else x ∷ xs in ys) (elim (cases_eq x s) [
      | inl here ↦ again_left (before ++ x ∷ []) ids s (ap (λ (k : ℕ). is_in s (before ++ k ∷ [])) here ∙ in_push_same before s) some
      | inr other ↦ several_left (before ++ x ∷ []) ids s (let c = cond-false {A = ℕ} (x == s) 1 0 (ne_eqb x s other) in omega (arith, count, c, several))
    ])

-- the only entry of a span less: its span goes too
pub only_left : (before ids : List ℕ) (s : ℕ) → is_in s before ≡ false → times_in s ids ≡ 1 → firsts_from before (left s ids) ≡ left s (firsts_from before ids)
only_left before [] s not only = absurd (omega (arith, only))
only_left before (x ∷ ids) s not only =
    let count = count_cons (λ y. y == s) x ids in
    let rest = firsts_from (before ++ x ∷ []) ids in
    elim (cases_eq x s) [
      | inl here ↦ (
          let c = cond-true {A = ℕ} (x == s) 1 0 (eq-eqb x s here) in
          let none : is_in s ids ≡ false = elim (cases_Bool (is_in s ids)) [ inl some ↦ absurd (let k = counted_if_any (λ y. y == s) ids some in omega (arith, k, count, c, only)) | inr none ↦ none ] in
          let new : is_in x before ≡ false = ap (λ (k : ℕ). is_in k before) here ∙ not in
          ap (firsts_from before) (left_here x s ids here none)
          ∙ firsts_alike before (before ++ x ∷ []) ids (λ q some. sym (in_push_other before x q (λ e. true≢false (sym some ∙ ap (λ (k : ℕ). is_in k ids) (e ∙ here) ∙ none))))
          ∙ sym (ap (left s) (cond-false {A = List ℕ} (is_in x before) rest (x ∷ rest) new) ∙ left_here x s rest here (not_first (before ++ x ∷ []) ids s none)))
      | inr other ↦ (
          let c = cond-false {A = ℕ} (x == s) 1 0 (ne_eqb x s other) in
          let later : times_in s ids ≡ 1 = omega (arith, count, c, only) in
          let some : is_in s ids ≡ true = any_if_counted (λ y. y == s) ids (omega (arith, later)) in
          let outside : is_in s (before ++ x ∷ []) ≡ false = in_push_other before x s (λ e. other (sym e)) ∙ not in
          let all = only_left (before ++ x ∷ []) ids s outside later in
          let there = is_first (before ++ x ∷ []) ids s outside some in
          ap (firsts_from before) (left_later x s ids some) ∙ ap (λ (xs : List ℕ). let ys : List ℕ = if is_in x before then xs else x ∷ xs in ys) all
          ∙ elim (cases_Bool (is_in x before)) [
            | inl again ↦ cond-true {A = List ℕ} (is_in x before) (left s rest) (x ∷ left s rest) again ∙ sym (ap (left s) (cond-true {A = List ℕ} (is_in x before) rest (x ∷ rest) again))
            | inr new ↦ cond-false {A = List ℕ} (is_in x before) (left s rest) (x ∷ left s rest) new ∙ sym (ap (left s) (cond-false {A = List ℕ} (is_in x before) rest (x ∷ rest) new) ∙ left_later x s rest there)
          ])
    ]

-- the spans of a lane after its last entry of one was removed
pub kept_firsts : (ids spans : List ℕ) (s : ℕ) (only : Bool) (ids' spans' : List ℕ) → spans ≡ firsts_of ids → 0 < times_in s ids → only ≡ (times_in s ids == 1) → ids' ≡ without_last (λ x. x == s) ids
    → spans' ≡ (if only then without_last (λ x. x == s) spans else spans) → spans' ≡ firsts_of ids'
kept_firsts ids spans s true ids' spans' fits some is entries now =
    now ∙ ap (left s) fits ∙ sym (only_left [] ids s refl (eqb-true (times_in s ids) 1 (sym is))) ∙ ap firsts_of (sym entries)
kept_firsts ids spans s false ids' spans' fits some is entries now =
    let more = eqb-false (times_in s ids) 1 (sym is) in
    now ∙ fits ∙ sym (several_left [] ids s (omega (arith, some, more))) ∙ ap firsts_of (sym entries)
