-- Entries whose ids rise, and where one of them is found.
use Rattle.std.proofs.Common.{◌≡◌, ℕ, suc, zero, ◌+◌, ◌-◌, ◌<◌, ◌≤◌, List, [], ◌∷◌, ◌++◌, length, Bool, true, false, cond, get_or, take, drop, length-append, Option, Some, None, refl, sym, ap, subst, ◌∙◌, arith, inl, inr, IfSome, filter, ◌&&◌, ◌==◌, nat_lt, is_some}
use Rattle.std.specs.Bool.{then_some}
use Rattle.std.specs.List.{position}
use Rattle.otel_layer.proofs.Common.{remove_entry, cases_Bool, cond-true, cond-false, Entry, IdsRise, IdsRiseIf, RisesTo, IsSpanTable, is_of_id, is_id, entry_ids, with_entry_read, all_data, knows_span, SpanData, StateValue}
use Rattle.std.proofs.lemmas.Bool.{lt-ltb, ltb-true, ltb-false, ne_eqb, eq-eqb}
use Rattle.std.proofs.lemmas.List.{map-append}
use Rattle.std.proofs.lemmas.List.Sums.{position_or_len_is}
use Rattle.otel_layer.proofs.Gaps.{read_added, removed_count}

-- ---- what keeps ids keeps them rising

pub same_rise : (rising : Bool) (old new : List Entry) → entry_ids new ≡ entry_ids old → IdsRiseIf rising old → IdsRiseIf rising new
same_rise rising old new e h = λ is. subst (λ (ks : List ℕ). IdsRise 0 ks) (sym e) (h is)

lower : (least less : ℕ) (ks : List ℕ) → less ≤ least → IdsRise least ks → IdsRise less ks
lower least less [] le h = tt
lower least less (k ∷ ks) le h = (let a = h.0 in omega (arith, le, a), h.1)

filtered : (test : Entry → Bool) (least : ℕ) (xs : List Entry) → IdsRise least (entry_ids xs) → IdsRise least (entry_ids (filter test xs))
filtered test least [] h = tt
filtered test least (x ∷ xs) h =
    let Goal : List Entry → Type 0 = λ es. IdsRise least (entry_ids es) in
    elim (cases_Bool (test x)) [
      | inl here ↦ subst Goal (sym (cond-true {A = List Entry} (test x) (x ∷ filter test xs) (filter test xs) here)) (h.0, filtered test (suc x.id) xs h.1)
      | inr off ↦ subst Goal (sym (cond-false {A = List Entry} (test x) (x ∷ filter test xs) (filter test xs) off)) (lower (suc x.id) least (entry_ids (filter test xs)) (let a = h.0 in omega (arith, a)) (filtered test (suc x.id) xs h.1))
    ]

pub filtered_rise : (test : Entry → Bool) (xs : List Entry) → IdsRiseIf true xs → IdsRiseIf true (filter test xs)
filtered_rise test xs h = λ is. filtered test 0 xs (h is)

-- ---- one more

ids_added : (xs : List Entry) (e : Entry) → entry_ids (xs ++ e ∷ []) ≡ entry_ids xs ++ e.id ∷ []
ids_added xs e = map-append (λ (x : Entry). x.id) xs (e ∷ [])

pub added_kept : (rising rises : Bool) (known : ℕ) (old new : List Entry) (e : Entry) (state : StateValue) → new ≡ old ++ e ∷ [] → e.state ≡ Some state → (rises ≡ true → RisesTo e.id old) → IsSpanTable rising known old → IsSpanTable rises (known + 1) new
added_kept rising rises known old new e state is there young h =
    let long = ap (λ (es : List (ℕ × SpanData)). length es) (ap (λ (xs : List Entry). all_data xs) is ∙ read_added (λ s. s.span_data) old e ∙ ap (λ (o : Option StateValue). all_data old ++ with_entry_read e.id (λ s. s.span_data) o []) there) in
    let counts = h.counts in
    let sum = length-append (all_data old) ((e.id, state.span_data) ∷ []) in
    record {
      rises = λ so. subst (λ (ks : List ℕ). IdsRise 0 ks) (sym (ap (λ (xs : List Entry). entry_ids xs) is ∙ ids_added old e)) (young so);
      counts = omega (arith, long, counts, sum);
    }

at_least : (least : ℕ) (xs : List Entry) (k : ℕ) (d : Entry) → k < length xs → IdsRise least (entry_ids xs) → least ≤ (get_or xs k d).id
at_least least [] k d within h = absurd (omega (arith, within))
at_least least (x ∷ xs) zero d within h = h.0
at_least least (x ∷ xs) (suc k) d within h = (let a = at_least (suc x.id) xs k d (omega (arith, within)) h.1 in let b = h.0 in omega (arith, a, b))

rise_to : (least : ℕ) (xs : List Entry) (n id : ℕ) (d : Entry) → length xs ≡ suc n → (get_or xs n d).id < id → IdsRise least (entry_ids xs) → IdsRise least (entry_ids xs ++ id ∷ [])
rise_to least [] n id d long less h = absurd (omega (arith, long))
rise_to least (x ∷ []) zero id d long less h = (h.0, (omega (arith, less), tt))
rise_to least (x ∷ []) (suc n) id d long less h = absurd (omega (arith, long))
rise_to least (x ∷ y ∷ ys) zero id d long less h = absurd (omega (arith, long))
rise_to least (x ∷ y ∷ ys) (suc n) id d long less h = (h.0, rise_to (suc x.id) (y ∷ ys) n id d (omega (arith, long)) less h.1)

pub rise_last : (xs : List Entry) (n id : ℕ) (d : Entry) → length xs ≡ suc n → (get_or xs n d).id < id → IdsRiseIf true xs → RisesTo id xs
rise_last xs n id d long less h = rise_to 0 xs n id d long less (h refl)

-- ---- the search

between : (least : ℕ) (xs : List Entry) (i j : ℕ) (d : Entry) → i < j → j < length xs → IdsRise least (entry_ids xs) → (get_or xs i d).id < (get_or xs j d).id
between least [] i j d less within h = absurd (omega (arith, within))
between least (x ∷ xs) i zero d less within h = absurd (omega (arith, less))
between least (x ∷ xs) zero (suc j) d less within h = (let a = at_least (suc x.id) xs j d (omega (arith, within)) h.1 in omega (arith, a))
between least (x ∷ xs) (suc i) (suc j) d less within h = between (suc x.id) xs i j d (omega (arith, less)) (omega (arith, within)) h.1

-- all before a place are older, and all from another on younger
abbrev pub AreOlder : List Entry → ℕ → ℕ → Type 0
AreOlder xs id low = (k : ℕ) (d : Entry) → k < low → k < length xs → (get_or xs k d).id < id

abbrev pub AreYounger : List Entry → ℕ → ℕ → Type 0
AreYounger xs id high = (k : ℕ) (d : Entry) → high ≤ k → k < length xs → id < (get_or xs k d).id

pub same_at : (xs : List Entry) (k : ℕ) (d e : Entry) → k < length xs → get_or xs k d ≡ get_or xs k e
same_at [] k d e within = absurd (omega (arith, within))
same_at (x ∷ xs) zero d e within = refl
same_at (x ∷ xs) (suc k) d e within = same_at xs k d e (omega (arith, within))

pub older_to : (xs : List Entry) (id middle : ℕ) (e : Entry) → IdsRiseIf true xs → middle < length xs → (get_or xs middle e).id < id → AreOlder xs id (middle + 1)
older_to xs id middle e rise inside less = λ k d below within.
    elim (cases_Bool (nat_lt k middle)) [
      | inl before ↦ (
          let a = between 0 xs k middle e (ltb-true k middle before) inside (rise refl) in
          let same = ap (λ (x : Entry). x.id) (same_at xs k d e within) in
          omega (arith, a, less, same))
      | inr not_before ↦ (
          let n = ltb-false k middle not_before in
          let is : k ≡ middle = omega (arith, n, below) in
          let same = ap (λ (x : Entry). x.id) (same_at xs k d e within ∙ ap (λ (i : ℕ). get_or xs i e) is) in
          omega (arith, less, same))
    ]

pub younger_from : (xs : List Entry) (id middle : ℕ) (e : Entry) → IdsRiseIf true xs → middle < length xs → id < (get_or xs middle e).id → AreYounger xs id middle
younger_from xs id middle e rise inside more = λ k d from within.
    elim (cases_Bool (nat_lt middle k)) [
      | inl after ↦ (
          let a = between 0 xs middle k e (ltb-true middle k after) within (rise refl) in
          let same = ap (λ (x : Entry). x.id) (same_at xs k d e within) in
          omega (arith, a, more, same))
      | inr not_after ↦ (
          let n = ltb-false middle k not_after in
          let is : k ≡ middle = omega (arith, n, from) in
          let same = ap (λ (x : Entry). x.id) (same_at xs k d e within ∙ ap (λ (i : ℕ). get_or xs i e) is) in
          omega (arith, more, same))
    ]

nothing : (xs : List Entry) (id : ℕ) → ((k : ℕ) (d : Entry) → k < length xs → is_of_id id (get_or xs k d) ≡ false) → (let n : Option ℕ = None in n) ≡ position (is_of_id id) xs
nothing [] id none = refl
nothing (x ∷ xs) id none =
    let all : List Entry = x ∷ xs in
    let at = position_or_len_is (is_of_id id) all (length all) x (omega arith) (λ k within. none k x within) (λ less. absurd (omega (arith, less))) in
    sym (ap (λ (n : ℕ). cond {A = Option ℕ} (nat_lt n (length all)) (Some n) None) at ∙ cond-false {A = Option ℕ} (nat_lt (length all) (length all)) (Some (length all)) None (not_less (length all)))
  where
    not_less : (n : ℕ) → nat_lt n n ≡ false
    not_less n =
        elim (cases_Bool (nat_lt n n)) [
          | inl less ↦ (let l = ltb-true n n less in absurd (omega (arith, l)))
          | inr not ↦ not
        ]

other_id : (id : ℕ) (e : Entry) → (e.id ≡ id → ⊥) → is_of_id id e ≡ false
other_id id e other = ap (λ b. b && is_some e.state) (ne_eqb e.id id other)

-- the entry with the id is found, unless it is a gap
pub placed : (xs : List Entry) (id middle : ℕ) (e : Entry) → IdsRiseIf true xs → middle < length xs → (get_or xs middle e).id ≡ id → is_some (get_or xs middle e).state ≡ true → Some middle ≡ position (is_of_id id) xs
placed xs id middle e rise inside is live =
    let before : (k : ℕ) → k < middle → is_of_id id (get_or xs k e) ≡ false = λ k less.
    let a = between 0 xs k middle e less inside (rise refl) in
    other_id id (get_or xs k e) (λ same. (let s = same in absurd (omega (arith, a, is, s))))
    in
    let here : is_of_id id (get_or xs middle e) ≡ true = ap (λ b. b && is_some (get_or xs middle e).state) (eq-eqb (get_or xs middle e).id id is) ∙ live in
    let at = position_or_len_is (is_of_id id) xs middle e (omega (arith, inside)) before (λ _. here) in
    sym (ap (λ (n : ℕ). cond {A = Option ℕ} (nat_lt n (length xs)) (Some n) None) at ∙ cond-true {A = Option ℕ} (nat_lt middle (length xs)) (Some middle) None (lt-ltb middle (length xs) inside))

passed_gap : (xs : List Entry) (id middle : ℕ) (e : Entry) → IdsRiseIf true xs → middle < length xs → (get_or xs middle e).id ≡ id → is_some (get_or xs middle e).state ≡ false → (let n : Option ℕ = None in n) ≡ position (is_of_id id) xs
passed_gap xs id middle e rise inside is gap = nothing xs id (λ k d within.
    elim (cases_Bool (nat_lt k middle)) [
      | inl before ↦ (
          let a = between 0 xs k middle e (ltb-true k middle before) inside (rise refl) in
          let same = ap (λ (x : Entry). x.id) (same_at xs k d e within) in
          other_id id (get_or xs k d) (λ other. (let o = other in absurd (omega (arith, a, is, same, o)))))
      | inr not_before ↦ elim (cases_Bool (nat_lt middle k)) [
        | inl after ↦ (
            let a = between 0 xs middle k e (ltb-true middle k after) within (rise refl) in
            let same = ap (λ (x : Entry). x.id) (same_at xs k d e within) in
            other_id id (get_or xs k d) (λ other. (let o = other in absurd (omega (arith, a, is, same, o)))))
        | inr not_after ↦ (
            let n = ltb-false k middle not_before in
            let m = ltb-false middle k not_after in
            let at : k ≡ middle = omega (arith, n, m) in
            let same = same_at xs k d e within ∙ ap (λ (i : ℕ). get_or xs i e) at in
            and_false ((get_or xs k d).id == id) (is_some (get_or xs k d).state) (ap (λ (x : Entry). is_some x.state) same ∙ gap))
      ]
    ])
  where
    and_false : (b c : Bool) → c ≡ false → (b && c) ≡ false
    and_false true c h = h
    and_false false c h = refl

pub found_or_gap : (xs : List Entry) (id middle : ℕ) (e : Entry) (live : Bool) → IdsRiseIf true xs → middle < length xs → (get_or xs middle e).id ≡ id → live ≡ is_some (get_or xs middle e).state → then_some live middle ≡ position (is_of_id id) xs
found_or_gap xs id middle e true rise inside is live = placed xs id middle e rise inside is (sym live)
found_or_gap xs id middle e false rise inside is live = passed_gap xs id middle e rise inside is (sym live)

pub nowhere : (xs : List Entry) (id low high : ℕ) → AreOlder xs id low → AreYounger xs id high → high ≤ low → (let n : Option ℕ = None in n) ≡ position (is_of_id id) xs
nowhere xs id low high older younger met = nothing xs id (λ k d within.
    elim (cases_Bool (nat_lt k low)) [
      | inl before ↦ (let a = older k d (ltb-true k low before) within in other_id id (get_or xs k d) (λ same. (let s = same in absurd (omega (arith, a, s)))))
      | inr not_before ↦ (
          let n = ltb-false k low not_before in
          let a = younger k d (omega (arith, n, met)) within in
          other_id id (get_or xs k d) (λ same. (let s = same in absurd (omega (arith, a, s)))))
    ])

-- all entries of a slice that is the whole vector
pub whole_kept : (n : ℕ) (xs ys : List Entry) → length xs ≡ n → take n (xs ++ ys) ≡ xs
whole_kept zero [] ys e = refl
whole_kept (suc n) [] ys e = absurd (omega (arith, e))
whole_kept zero (x ∷ xs) ys e = absurd (omega (arith, e))
whole_kept (suc n) (x ∷ xs) ys e = ap (λ (zs : List Entry). x ∷ zs) (whole_kept n xs ys (omega (arith, e)))

-- ---- a table whose entries keep their ids

pub kept_whole : (rising : Bool) (known len : ℕ) (old now : List Entry) → length now ≡ len → entry_ids now ≡ entry_ids old → length (all_data now) ≡ length (all_data old) → IsSpanTable rising known old → IsSpanTable rising known (take len (now ++ drop (length now) old))
kept_whole rising known len old now as_many same count h =
    subst (λ (xs : List Entry). IsSpanTable rising known xs) (sym (whole_kept len now (drop (length now) old) as_many)) (record {
      rises = same_rise rising old now same h.rises;
      counts = h.counts ∙ sym count;
    })

-- one is taken out, and the gaps may be closed
pub removed_kept : (rising : Bool) (known id len : ℕ) (old now new : List Entry) → length now ≡ len → entry_ids now ≡ entry_ids old → all_data now ≡ remove_entry (is_id id) (all_data old) → knows_span id (all_data old) ≡ true
    → all_data new ≡ all_data (take len (now ++ drop (length now) old)) → (IdsRiseIf true (take len (now ++ drop (length now) old)) → IdsRiseIf true new) → IsSpanTable rising known old → IsSpanTable rising (known - 1) new
removed_kept rising known id len old now new as_many same rest there span_data rise h =
    let whole = whole_kept len now (drop (length now) old) as_many in
    let a = ap (λ (es : List (ℕ × SpanData)). length es) (span_data ∙ ap (λ (xs : List Entry). all_data xs) whole ∙ rest) in
    let b = removed_count id (all_data old) there in
    let counts = h.counts in
    record {
      rises = λ is. rise (subst (λ (xs : List Entry). IdsRiseIf true xs) (sym whole) (λ _. subst (λ (ks : List ℕ). IdsRise 0 ks) (sym same) (h.rises is))) refl;
      counts = omega (arith, a, b, counts);
    }

-- what is found, if anything is, is what is searched for
pub if_found : (found wanted : Option ℕ) → found ≡ wanted → IfSome found (λ place. Some place ≡ wanted)
if_found None wanted is = tt
if_found (Some place) wanted is = is
