-- Numbers and their values, as one more is given and one is taken out.
use Rattle.std.proofs.Common.{◌≡◌, ℕ, suc, zero, ◌+◌, ◌-◌, ◌<◌, ◌≤◌, List, [], ◌∷◌, ◌++◌, length, get_or, set, map, Option, Some, None, IfSome, is_some, true, option_map, slice_get, refl, sym, ap, subst, ◌∙◌, ◌⊎◌, inl, inr, arith, eqb}
use Rattle.std.proofs.lemmas.Bool.{cases_eq, cases_lt, cases_order, cond-false, ne_eqb}
use Rattle.std.proofs.lemmas.List.{get_or_append_left, get_or_past, get_or_push, get_or-set_same, get_or-set_other, get_or-map, length-set, length_push, map_push, map-set}
use Rattle.std.proofs.lemmas.Option.{none-some, same_Some, slice_get-get_or, slice_get_past, IfSome_then}
use Rattle.sparse_slots.specs.Slots.{value_at, number_at, AreLinked}

-- ---- what the links give

inside : {X : Type 0} (live : List (ℕ × X)) (index n : ℕ) → number_at live index ≡ Some n → index < length live
inside [] index n is = absurd (none-some n is)
inside (e ∷ es) zero n is = omega arith
inside (e ∷ es) (suc index) n is = (let h = inside es index n is in omega (arith, h))

pub within : {X : Type 0} (places : List ℕ) (live : List (ℕ × X)) → AreLinked places live → (n : ℕ) → 0 < get_or places n 0 → get_or places n 0 - 1 < length live
within places live linked n there = inside live (get_or places n 0 - 1) n (linked.found n there)

-- no two numbers have one place
apart : {X : Type 0} (places : List ℕ) (live : List (ℕ × X)) → AreLinked places live → (m n : ℕ) → 0 < get_or places m 0 → get_or places m 0 ≡ get_or places n 0 → m ≡ n
apart places live linked m n there same =
    same_Some m n (sym (linked.found m there) ∙ ap (λ p. number_at live (p - 1)) same ∙ linked.found n (subst (λ p. 0 < p) same there))

-- a number with a place is given
given : (places : List ℕ) (n : ℕ) → 0 < get_or places n 0 → n < length places
given places n there =
    elim (cases_lt n (length places)) [
      | inl l ↦ l
      | inr past ↦ absurd (let e = get_or_past places n 0 past in omega (arith, e, there))
    ]

-- ---- what stands at a place

value_some : {X : Type 0} (live : List (ℕ × X)) (place : ℕ) → 0 < place → value_at live place ≡ option_map (λ e. e.1) (slice_get live (place - 1))
value_some {X} live place there = cond-false {A = Option X} (eqb place 0) None (option_map (λ e. e.1) (slice_get live (place - 1))) (ne_eqb place 0 (λ e. omega (arith, e, there)))

value_same : {X : Type 0} (live other : List (ℕ × X)) (place : ℕ) → (0 < place → slice_get live (place - 1) ≡ slice_get other (place - 1)) → value_at live place ≡ value_at other place
value_same {X} live other place same =
    elim (cases_lt 0 place) [
      | inl there ↦ value_some live place there ∙ ap (option_map (λ (e : ℕ × X). e.1)) (same there) ∙ sym (value_some other place there)
      | inr none ↦ (let is : place ≡ 0 = omega (arith, none) in ap (value_at live) is ∙ sym (ap (value_at other) is))
    ]

maps_same : {Y : Type 0} (f g : ℕ → Y) (ps qs : List ℕ) → length ps ≡ length qs → ((i : ℕ) → i < length ps → f (get_or ps i 0) ≡ g (get_or qs i 0)) → map f ps ≡ map g qs
maps_same f g [] [] same each = refl
maps_same f g [] (q ∷ qs) same each = absurd (omega (arith, same))
maps_same f g (p ∷ ps) [] same each = absurd (omega (arith, same))
maps_same f g (p ∷ ps) (q ∷ qs) same each =
    ap (λ y. y ∷ map f ps) (each 0 (omega arith))
    ∙ ap (λ ys. g q ∷ ys) (maps_same f g ps qs (omega (arith, same)) (λ i l. each (suc i) (omega (arith, l))))

-- ---- one value more

get_left : {X : Type 0} (xs : List X) (x : X) (i : ℕ) → i < length xs → slice_get (xs ++ x ∷ []) i ≡ slice_get xs i
get_left [] x i l = absurd (omega (arith, l))
get_left (y ∷ ys) x zero l = refl
get_left (y ∷ ys) x (suc i) l = get_left ys x i (omega (arith, l))

get_new : {X : Type 0} (xs : List X) (x : X) → slice_get (xs ++ x ∷ []) (length xs) ≡ Some x
get_new [] x = refl
get_new (y ∷ ys) x = get_new ys x

abbrev more : {X : Type 0} → List ℕ → List (ℕ × X) → List ℕ
more places live = places ++ (length live + 1) ∷ []

abbrev grown : {X : Type 0} → List ℕ → List (ℕ × X) → X → List (ℕ × X)
grown places live value = live ++ (length places, value) ∷ []

more_found : {X : Type 0} (places : List ℕ) (live : List (ℕ × X)) (value : X) → AreLinked places live → (n : ℕ) → 0 < get_or (more places live) n 0
    → number_at (grown places live value) (get_or (more places live) n 0 - 1) ≡ Some n
more_found {X} places live value linked n there =
    elim (cases_order n (length places)) [
      | inl same ↦ (
          let at = get_or_push places (length live + 1) 0 n (sym same) in
          let index : get_or (more places live) n 0 - 1 ≡ length live = omega (arith, at) in
          ap (number_at (grown places live value)) index ∙ ap (option_map (λ (e : ℕ × X). e.0)) (get_new live (length places, value)) ∙ ap (λ m. Some m) (sym same))
      | inr ordered ↦ elim ordered [
        | inl below ↦ (
            let at = get_or_append_left places ((length live + 1) ∷ []) 0 n below in
            let old : 0 < get_or places n 0 = subst (λ p. 0 < p) at there in
            ap (λ p. number_at (grown places live value) (p - 1)) at
            ∙ ap (option_map (λ (e : ℕ × X). e.0)) (get_left live (length places, value) (get_or places n 0 - 1) (within places live linked n old))
            ∙ linked.found n old)
        | inr past ↦ absurd (
            let long = length_push places (length live + 1) in
            let e = get_or_past (more places live) n 0 (omega (arith, long, past)) in
            omega (arith, e, there))
      ]
    ]

more_placed : {X : Type 0} (places : List ℕ) (live : List (ℕ × X)) (value : X) → AreLinked places live → (index : ℕ)
    → IfSome (slice_get (grown places live value) index) (λ e. get_or (more places live) e.0 0 ≡ index + 1)
more_placed {X} places live value linked index =
    elim (cases_order index (length live)) [
      | inl same ↦ subst (λ o. IfSome o (λ e. get_or (more places live) e.0 0 ≡ index + 1))
          (sym (ap (slice_get (grown places live value)) same ∙ get_new live (length places, value)))
          (get_or_push places (length live + 1) 0 (length places) refl ∙ ap (λ i. i + 1) (sym same))
      | inr ordered ↦ elim ordered [
        | inl below ↦ subst (λ o. IfSome o (λ e. get_or (more places live) e.0 0 ≡ index + 1))
            (sym (get_left live (length places, value) index below))
            (IfSome_then (slice_get live index) {P = λ e. get_or places e.0 0 ≡ index + 1} {Q = λ e. get_or (more places live) e.0 0 ≡ index + 1} (linked.placed index)
            (λ e is. get_or_append_left places ((length live + 1) ∷ []) 0 e.0 (given places e.0 (omega (arith, is))) ∙ is))
        | inr past ↦ subst (λ o. IfSome o (λ e. get_or (more places live) e.0 0 ≡ index + 1))
            (sym (slice_get_past (grown places live value) index (let long = length_push live (length places, value) in omega (arith, long, past))))
            tt
      ]
    ]

more_items : {X : Type 0} (places : List ℕ) (live : List (ℕ × X)) (value : X) → AreLinked places live
    → map (value_at (grown places live value)) (more places live) ≡ map (value_at live) places ++ Some value ∷ []
more_items {X} places live value linked =
    let all : List (ℕ × X) = grown places live value in
    let place : ℕ = length live + 1 in
    map_push (value_at all) places place
    ∙ ap (λ ys. ys ++ value_at all place ∷ []) (maps_same (value_at all) (value_at live) places places refl
    (λ i l. value_same all live (get_or places i 0) (λ there. get_left live (length places, value) (get_or places i 0 - 1) (within places live linked i there))))
    ∙ ap (λ v. map (value_at live) places ++ v ∷ []) (value_some all place (omega arith)
    ∙ ap (λ i. option_map (λ (e : ℕ × X). e.1) (slice_get all i)) (omega arith)
    ∙ ap (option_map (λ (e : ℕ × X). e.1)) (get_new live (length places, value)))

pub kept_linked : {X : Type 0} (places : List ℕ) (live : List (ℕ × X)) (value : X) (place : ℕ) → AreLinked places live → place ≡ length live + 1
    → AreLinked (places ++ place ∷ []) (live ++ (length places, value) ∷ [])
kept_linked {X} places live value place linked is =
    subst (λ p. AreLinked (places ++ p ∷ []) (live ++ (length places, value) ∷ [])) (sym is)
    (record { found = more_found places live value linked; placed = more_placed places live value linked })

pub kept_items : {X : Type 0} (places : List ℕ) (live : List (ℕ × X)) (value : X) (place : ℕ) → AreLinked places live → place ≡ length live + 1
    → map (value_at (live ++ (length places, value) ∷ [])) (places ++ place ∷ []) ≡ map (value_at live) places ++ Some value ∷ []
kept_items {X} places live value place linked is =
    ap (λ p. map (value_at (live ++ (length places, value) ∷ [])) (places ++ p ∷ [])) is ∙ more_items places live value linked

-- ---- one value taken out

-- the last of some entries was put in the place of another, or was that one
pub record IsTaken {X : Type 0} (live left : List X) (index : ℕ) : Type 0 where
  pub long : length live ≡ length left + 1
  pub same : (i : ℕ) → (i ≡ index → ⊥) → i < length left → slice_get left i ≡ slice_get live i
  pub last : index < length left → slice_get left index ≡ slice_get live (length left)

pub is_taken : {X : Type 0} (live left : List X) (index many few : ℕ) (taken : X) → many ≡ length live → few ≡ length left → few + 1 ≡ many
    → ((d : X) → index + 1 < many → get_or left index d ≡ get_or live (many - 1) d) × ((k : ℕ) (d : X) → (k ≡ index → ⊥) → k + 1 < many → get_or left k d ≡ get_or live k d)
    → IsTaken live left index
is_taken {X} live left index many few taken old new less by = record {
  long = omega (arith, old, new, less);
  same = λ i off l. slice_get-get_or left i taken l ∙ ap (λ x. Some x) (by.1 i taken off (omega (arith, old, new, less, l))) ∙ sym (slice_get-get_or live i taken (omega (arith, old, new, less, l)));
  last = λ l. slice_get-get_or left index taken l ∙ ap (λ x. Some x) (by.0 taken (omega (arith, old, new, less, l)) ∙ ap (λ i. get_or live i taken) (omega (arith, old, new, less)))
      ∙ sym (slice_get-get_or live (length left) taken (omega (arith, old, new, less)));
}

-- a number whose value is neither the one that was taken nor the last keeps its place
still : {X : Type 0} (places : List ℕ) (live left : List (ℕ × X)) (m n : ℕ) → AreLinked places live → IsTaken live left (get_or places n 0 - 1) → 0 < get_or places n 0
    → (m ≡ n → ⊥) → 0 < get_or places m 0 → (get_or places m 0 ≡ length left + 1 → ⊥) → slice_get left (get_or places m 0 - 1) ≡ slice_get live (get_or places m 0 - 1)
still places live left m n linked taken was off there not_last =
    taken.same (get_or places m 0 - 1) (λ e. off (apart places live linked m n there (omega (arith, e, there, was))))
    (let l = within places live linked m there in let long = taken.long in
    elim (cases_eq (get_or places m 0) (length left + 1)) [
      | inl e ↦ absurd (not_last e)
      | inr d ↦ omega (arith, l, long, d, there)
    ])

cleared : (places : List ℕ) (n : ℕ) → get_or (set places n 0) n 0 ≡ 0
cleared [] n = refl
cleared (p ∷ ps) zero = refl
cleared (p ∷ ps) (suc n) = cleared ps n

-- what has a place still isn't the number that was taken
other : (places : List ℕ) (m n : ℕ) → 0 < get_or (set places n 0) m 0 → m ≡ n → ⊥
other places m n there e = (let z = ap (λ k. get_or (set places n 0) k 0) e ∙ cleared places n in omega (arith, z, there))

-- where the last one was taken
pub taken_linked : {X : Type 0} (places : List ℕ) (live left : List (ℕ × X)) (n : ℕ) → AreLinked places live → IsTaken live left (get_or places n 0 - 1) → 0 < get_or places n 0
    → length left ≤ get_or places n 0 - 1 → AreLinked (set places n 0) left
taken_linked {X} places live left n linked taken was last =
    let bound = within places live linked n was in
    let long = taken.long in
    let end : get_or places n 0 ≡ length left + 1 = omega (arith, bound, long, last, was) in
    record {
      found = λ m there.
          let off = other places m n there in
          let at = get_or-set_other places n m 0 0 off in
          let here : 0 < get_or places m 0 = subst (λ p. 0 < p) at there in
          ap (λ p. number_at left (p - 1)) at
          ∙ ap (option_map (λ (e : ℕ × X). e.0)) (still places live left m n linked taken was off here (λ e. off (apart places live linked m n here (e ∙ sym end))))
          ∙ linked.found m here;
      placed = λ index. taken_placed index (cases_lt index (length left)) end;
    }
  where
    taken_placed : (index : ℕ) → (index < length left) ⊎ (length left ≤ index) → get_or places n 0 ≡ length left + 1 → IfSome (slice_get left index) (λ e. get_or (set places n 0) e.0 0 ≡ index + 1)
    taken_placed index (inl l) end =
        subst (λ o. IfSome o (λ e. get_or (set places n 0) e.0 0 ≡ index + 1)) (sym (taken.same index (λ e. omega (arith, e, l, end)) l))
        (IfSome_then (slice_get live index) {P = λ e. get_or places e.0 0 ≡ index + 1} {Q = λ e. get_or (set places n 0) e.0 0 ≡ index + 1} (linked.placed index)
        (λ e is. get_or-set_other places n e.0 0 0 (λ same. (let z = ap (λ k. get_or places k 0) same in omega (arith, z, is, end, l))) ∙ is))
    taken_placed index (inr past) end = subst (λ o. IfSome o (λ e. get_or (set places n 0) e.0 0 ≡ index + 1)) (sym (slice_get_past left index past)) tt

pub taken_items : {X : Type 0} (places : List ℕ) (live left : List (ℕ × X)) (n : ℕ) → AreLinked places live → IsTaken live left (get_or places n 0 - 1) → 0 < get_or places n 0
    → length left ≤ get_or places n 0 - 1 → map (value_at left) (set places n 0) ≡ set (map (value_at live) places) n None
taken_items {X} places live left n linked taken was last =
    let bound = within places live linked n was in
    let long = taken.long in
    let end : get_or places n 0 ≡ length left + 1 = omega (arith, bound, long, last, was) in
    maps_same (value_at left) (value_at live) (set places n 0) (set places n 0) refl (λ m l. value_same left live (get_or (set places n 0) m 0) (λ there.
    let off = other places m n there in
    let at = get_or-set_other places n m 0 0 off in
    let here : 0 < get_or places m 0 = subst (λ p. 0 < p) at there in
    ap (λ p. slice_get left (p - 1)) at
    ∙ still places live left m n linked taken was off here (λ e. off (apart places live linked m n here (e ∙ sym end)))
    ∙ sym (ap (λ p. slice_get live (p - 1)) at)))
    ∙ map-set (value_at live) places n 0

-- where the last one stands in its place now
pub record IsMoved {X : Type 0} (places : List ℕ) (live left : List (ℕ × X)) (n : ℕ) (moved : ℕ × X) : Type 0 where
  pub linked : AreLinked places live
  pub taken : IsTaken live left (get_or places n 0 - 1)
  pub was : 0 < get_or places n 0
  pub here : slice_get left (get_or places n 0 - 1) ≡ Some moved
  pub before : get_or places n 0 - 1 < length left

-- its place was the last
pub was_last : {X : Type 0} (places : List ℕ) (live left : List (ℕ × X)) (n : ℕ) (moved : ℕ × X) → IsMoved places live left n moved → get_or places moved.0 0 ≡ length left + 1
was_last {X} places live left n moved is =
    subst (λ o. IfSome o (λ e. get_or places e.0 0 ≡ length left + 1)) (sym (is.taken.last is.before) ∙ is.here) (is.linked.placed (length left))

pub moved_given : {X : Type 0} (places : List ℕ) (live left : List (ℕ × X)) (n : ℕ) (moved : ℕ × X) → IsMoved places live left n moved → moved.0 < length places
moved_given places live left n moved is = (let z = was_last places live left n moved is in given places moved.0 (omega (arith, z)))

moved_off : {X : Type 0} (places : List ℕ) (live left : List (ℕ × X)) (n : ℕ) (moved : ℕ × X) → IsMoved places live left n moved → moved.0 ≡ n → ⊥
moved_off places live left n moved is e = (let z = was_last places live left n moved is in let y = ap (λ k. get_or places k 0) e in let l = is.before in omega (arith, z, y, l))

abbrev moved_places : List ℕ → ℕ → ℕ → List ℕ
moved_places places n m = set (set places n 0) m (get_or places n 0)

moved_at : {X : Type 0} (places : List ℕ) (live left : List (ℕ × X)) (n : ℕ) (moved : ℕ × X) → IsMoved places live left n moved → get_or (moved_places places n moved.0) moved.0 0 ≡ get_or places n 0
moved_at places live left n moved is =
    (let l = moved_given places live left n moved is in let long = length-set places n 0 in get_or-set_same (set places n 0) moved.0 (get_or places n 0) 0 (omega (arith, l, long)))

moved_still : {X : Type 0} (places : List ℕ) (live left : List (ℕ × X)) (m n : ℕ) (moved : ℕ × X) → IsMoved places live left n moved → (m ≡ moved.0 → ⊥) → (m ≡ n → ⊥) → 0 < get_or places m 0
    → slice_get left (get_or places m 0 - 1) ≡ slice_get live (get_or places m 0 - 1)
moved_still places live left m n moved is apart_from off here =
    still places live left m n is.linked is.taken is.was off here (λ e. apart_from (apart places live is.linked m moved.0 here (e ∙ sym (was_last places live left n moved is))))

moved_found : {X : Type 0} (places : List ℕ) (live left : List (ℕ × X)) (n : ℕ) (moved : ℕ × X) → IsMoved places live left n moved → (m : ℕ) → 0 < get_or (moved_places places n moved.0) m 0
    → number_at left (get_or (moved_places places n moved.0) m 0 - 1) ≡ Some m
moved_found {X} places live left n moved is m there =
    elim (cases_eq m moved.0) [
      | inl same ↦ ap (λ k. number_at left (get_or (moved_places places n moved.0) k 0 - 1)) same
          ∙ ap (λ p. number_at left (p - 1)) (moved_at places live left n moved is) ∙ ap (option_map (λ (e : ℕ × X). e.0)) is.here ∙ ap (λ k. Some k) (sym same)
      | inr away ↦ (
          let at = get_or-set_other (set places n 0) moved.0 m (get_or places n 0) 0 away in
          let was : 0 < get_or (set places n 0) m 0 = subst (λ p. 0 < p) at there in
          let off = other places m n was in
          let at_first = get_or-set_other places n m 0 0 off in
          let here : 0 < get_or places m 0 = subst (λ p. 0 < p) at_first was in
          ap (λ p. number_at left (p - 1)) (at ∙ at_first) ∙ ap (option_map (λ (e : ℕ × X). e.0)) (moved_still places live left m n moved is away off here) ∙ is.linked.found m here)
    ]

moved_placed : {X : Type 0} (places : List ℕ) (live left : List (ℕ × X)) (n : ℕ) (moved : ℕ × X) → IsMoved places live left n moved → (index : ℕ)
    → IfSome (slice_get left index) (λ e. get_or (moved_places places n moved.0) e.0 0 ≡ index + 1)
moved_placed {X} places live left n moved is index =
    let was = is.was in
    let before = is.before in
    let last = was_last places live left n moved is in
    elim (cases_eq index (get_or places n 0 - 1)) [
      | inl same ↦ subst (λ o. IfSome o (λ e. get_or (moved_places places n moved.0) e.0 0 ≡ index + 1)) (sym (ap (slice_get left) same ∙ is.here))
          (moved_at places live left n moved is ∙ omega (arith, same, was))
      | inr away ↦ elim (cases_lt index (length left)) [
        | inl l ↦ subst (λ o. IfSome o (λ e. get_or (moved_places places n moved.0) e.0 0 ≡ index + 1)) (sym (is.taken.same index away l))
            (IfSome_then (slice_get live index) {P = λ e. get_or places e.0 0 ≡ index + 1} {Q = λ e. get_or (moved_places places n moved.0) e.0 0 ≡ index + 1} (is.linked.placed index)
            (λ e at. get_or-set_other (set places n 0) moved.0 e.0 (get_or places n 0) 0 (λ same. (let z = ap (λ k. get_or places k 0) same in omega (arith, z, at, last, l)))
            ∙ get_or-set_other places n e.0 0 0 (λ same. away (let z = ap (λ k. get_or places k 0) same in omega (arith, z, at))) ∙ at))
        | inr past ↦ subst (λ o. IfSome o (λ e. get_or (moved_places places n moved.0) e.0 0 ≡ index + 1)) (sym (slice_get_past left index past)) tt
      ]
    ]

pub moved_linked : {X : Type 0} (places : List ℕ) (live left : List (ℕ × X)) (n : ℕ) (moved : ℕ × X) → IsMoved places live left n moved
    → AreLinked (set (set places n 0) moved.0 (get_or places n 0)) left
moved_linked places live left n moved is = record { found = moved_found places live left n moved is; placed = moved_placed places live left n moved is }

moved_value : {X : Type 0} (places : List ℕ) (live left : List (ℕ × X)) (n : ℕ) (moved : ℕ × X) → IsMoved places live left n moved → (m : ℕ)
    → value_at left (get_or (moved_places places n moved.0) m 0) ≡ value_at live (get_or (set places n 0) m 0)
moved_value {X} places live left n moved is m =
    elim (cases_eq m moved.0) [
      | inl same ↦ (
          let last = was_last places live left n moved is in
          let at = get_or-set_other places n moved.0 0 0 (moved_off places live left n moved is) ∙ last in
          ap (λ k. value_at left (get_or (moved_places places n moved.0) k 0)) same ∙ ap (value_at left) (moved_at places live left n moved is)
          ∙ value_some left (get_or places n 0) is.was ∙ ap (option_map (λ (e : ℕ × X). e.1)) (is.taken.last is.before)
          ∙ ap (λ i. option_map (λ (e : ℕ × X). e.1) (slice_get live i)) (omega (arith, last)) ∙ sym (value_some live (length left + 1) (omega arith))
          ∙ sym (ap (value_at live) at) ∙ sym (ap (λ k. value_at live (get_or (set places n 0) k 0)) same))
      | inr away ↦ ap (value_at left) (get_or-set_other (set places n 0) moved.0 m (get_or places n 0) 0 away)
          ∙ value_same left live (get_or (set places n 0) m 0) (λ there.
          let off = other places m n there in
          let at = get_or-set_other places n m 0 0 off in
          let here : 0 < get_or places m 0 = subst (λ p. 0 < p) at there in
          ap (λ p. slice_get left (p - 1)) at ∙ moved_still places live left m n moved is away off here ∙ sym (ap (λ p. slice_get live (p - 1)) at))
    ]

pub moved_items : {X : Type 0} (places : List ℕ) (live left : List (ℕ × X)) (n : ℕ) (moved : ℕ × X) → IsMoved places live left n moved
    → map (value_at left) (set (set places n 0) moved.0 (get_or places n 0)) ≡ set (map (value_at live) places) n None
moved_items places live left n moved is =
    maps_same (value_at left) (value_at live) (moved_places places n moved.0) (set places n 0) (length-set (set places n 0) moved.0 (get_or places n 0)) (λ m l. moved_value places live left n moved is m)
    ∙ map-set (value_at live) places n 0

-- a number whose place is 0 was spent, or isn't given
pub none_taken : {X : Type 0} (places : List ℕ) (live : List (ℕ × X)) (n : ℕ) → get_or places n 0 ≡ 0 → map (value_at live) places ≡ set (map (value_at live) places) n None
none_taken [] live n is = refl
none_taken (p ∷ ps) live zero is = ap (λ v. v ∷ map (value_at live) ps) (ap (value_at live) is)
none_taken (p ∷ ps) live (suc n) is = ap (λ vs. value_at live p ∷ vs) (none_taken ps live n is)

-- the value at the place of a number that was read
pub read_value : {X : Type 0} (places read : List ℕ) (live : List (ℕ × X)) (n place : ℕ) (value : X) → read ≡ places → (n < length read) × ((d : ℕ) → place ≡ get_or read n d) → value_at live place ≡ Some value
    → get_or (map (value_at live) places) n None ≡ Some value
read_value places read live n place value same at is =
    ap (λ ps. get_or (map (value_at live) ps) n None) (sym same) ∙ get_or-map (value_at live) read n 0 None at.0 ∙ ap (value_at live) (sym (at.1 0)) ∙ is

-- a number that has a value has a place
has_place : {X : Type 0} (places : List ℕ) (live : List (ℕ × X)) (n : ℕ) → is_some (get_or (map (value_at live) places) n None) ≡ true → 0 < get_or places n 0
has_place [] live n there = absurd (cc there)
has_place (zero ∷ ps) live zero there = absurd (cc there)
has_place (suc p ∷ ps) live zero there = omega arith
has_place (p ∷ ps) live (suc n) there = has_place ps live n there

pub taken_value : {X : Type 0} (places : List ℕ) (live : List (ℕ × X)) (n : ℕ) (taken : ℕ × X) → 0 < get_or places n 0 → slice_get live (get_or places n 0 - 1) ≡ Some taken
    → Some taken.1 ≡ get_or (map (value_at live) places) n None
taken_value {X} places live n taken was is =
    sym (get_or-map (value_at live) places n 0 None (given places n was) ∙ value_some live (get_or places n 0) was ∙ ap (option_map (λ (e : ℕ × X). e.1)) is)

-- ---- the same with the place that was read

pub there : {X : Type 0} (places : List ℕ) (live : List (ℕ × X)) (n place many : ℕ) → AreLinked places live → get_or places n 0 ≡ place → 0 < place → many ≡ length live → place - 1 < many
there places live n place many linked at was long =
    (let w = within places live linked n (subst (λ p. 0 < p) (sym at) was) in omega (arith, w, at, long))

pub takes_linked : {X : Type 0} (places : List ℕ) (live left : List (ℕ × X)) (n place : ℕ) → AreLinked places live → get_or places n 0 ≡ place → 0 < place → IsTaken live left (place - 1)
    → length left ≤ place - 1 → AreLinked (set places n 0) left
takes_linked places live left n place linked at was taken last =
    taken_linked places live left n linked (subst (λ p. IsTaken live left (p - 1)) (sym at) taken) (subst (λ p. 0 < p) (sym at) was) (subst (λ p. length left ≤ p - 1) (sym at) last)

pub takes_items : {X : Type 0} (places : List ℕ) (live left : List (ℕ × X)) (n place : ℕ) → AreLinked places live → get_or places n 0 ≡ place → 0 < place → IsTaken live left (place - 1)
    → length left ≤ place - 1 → map (value_at left) (set places n 0) ≡ set (map (value_at live) places) n None
takes_items places live left n place linked at was taken last =
    taken_items places live left n linked (subst (λ p. IsTaken live left (p - 1)) (sym at) taken) (subst (λ p. 0 < p) (sym at) was) (subst (λ p. length left ≤ p - 1) (sym at) last)

pub takes_value : {X : Type 0} (places : List ℕ) (live : List (ℕ × X)) (n place : ℕ) (taken : ℕ × X) → get_or places n 0 ≡ place → 0 < place → slice_get live (place - 1) ≡ Some taken
    → Some taken.1 ≡ get_or (map (value_at live) places) n None
takes_value places live n place taken at was is =
    taken_value places live n taken (subst (λ p. 0 < p) (sym at) was) (subst (λ p. slice_get live (p - 1) ≡ Some taken) (sym at) is)

pub moves : {X : Type 0} (places : List ℕ) (live left : List (ℕ × X)) (n place : ℕ) (moved : ℕ × X) → AreLinked places live → get_or places n 0 ≡ place → 0 < place → IsTaken live left (place - 1)
    → slice_get left (place - 1) ≡ Some moved → place - 1 < length left → IsMoved places live left n moved
moves places live left n place moved linked at was taken here before = record {
  linked = linked;
  taken = subst (λ p. IsTaken live left (p - 1)) (sym at) taken;
  was = subst (λ p. 0 < p) (sym at) was;
  here = subst (λ p. slice_get left (p - 1) ≡ Some moved) (sym at) here;
  before = subst (λ p. p - 1 < length left) (sym at) before;
}

pub moves_linked : {X : Type 0} (places : List ℕ) (live left : List (ℕ × X)) (n place : ℕ) (moved : ℕ × X) → get_or places n 0 ≡ place → IsMoved places live left n moved
    → AreLinked (set (set places n 0) moved.0 place) left
moves_linked places live left n place moved at is = subst (λ p. AreLinked (set (set places n 0) moved.0 p) left) at (moved_linked places live left n moved is)

pub moves_items : {X : Type 0} (places : List ℕ) (live left : List (ℕ × X)) (n place : ℕ) (moved : ℕ × X) → get_or places n 0 ≡ place → IsMoved places live left n moved
    → map (value_at left) (set (set places n 0) moved.0 place) ≡ set (map (value_at live) places) n None
moves_items places live left n place moved at is = ap (λ p. map (value_at left) (set (set places n 0) moved.0 p)) (sym at) ∙ moved_items places live left n moved is

read_place : (places : List ℕ) (n place : ℕ) → n < length places → place ≡ get_or places n place → get_or places n 0 ≡ place
read_place [] n place within at = absurd (omega (arith, within))
read_place (p ∷ ps) zero place within at = sym at
read_place (p ∷ ps) (suc n) place within at = read_place ps n place (omega (arith, within)) at

pub reads : {X : Type 0} (places : List ℕ) (live : List (ℕ × X)) (n place many : ℕ) → AreLinked places live → is_some (get_or (map (value_at live) places) n None) ≡ true → many ≡ length live → place ≡ get_or places n place
    → (get_or places n 0 ≡ place) × (0 < place) × (place - 1 < many)
reads places live n place many linked some long at =
    let was = has_place places live n some in
    let read = read_place places n place (given places n was) at in
    let positive = subst (λ p. 0 < p) read was in
    (read, positive, there places live n place many linked read positive long)
