-- The table of spans after one change.
use Rattle.std.proofs.Common.{◌≡◌, ℕ, zero, suc, ◌+◌, ◌-◌, ◌<◌, ◌≤◌, List, [], ◌∷◌, ◌++◌, length, take, max, cond, get_or, set, Option, Some, None, refl, sym, ap, subst, ◌∙◌, arith, inl, inr, ◌⊎◌, if◌then◌else◌, ◌==◌, IfSome}
use Rattle.span_registry.proofs.Common.{cases_eq, cases_lt, cond-true, cond-false, length_push, get_or_past, get_or_push, get_or_append_left, set-append_left, sum_by-set, get_or-le-sum_by, Span, no_span, span_at, with_hold_of_child, IsLive, HasFewHolds, count_push, made_if_held, SlotValue, no_slot, slot_value_at, span_in_slot, span_in, spans_to, is_live, live_span_count, SlotTableValue, slot_table_value, IsSlotTable}
use Rattle.std.proofs.lemmas.Bool.{eq-eqb, ne_eqb, lt-ltb}
use Rattle.std.proofs.lemmas.List.{length-set, length-take-le, get_or-set_same, get_or-set_other, get_or-take, ext_get_or}
use Rattle.std.proofs.Math.Nat.{max-eq_left, max-eq_right}

-- the spans of a table, one by one
pub length_to : (n : ℕ) (f : ℕ → Span) → length (spans_to n f) ≡ n
length_to zero f = refl
length_to (suc n) f = let e = length_to n f in let p = length_push (spans_to n f) (f n) in omega (arith, e, p)

one_more : (n : ℕ) (f : ℕ → Span) → spans_to (n + 1) f ≡ spans_to n f ++ f n ∷ []
one_more n f = let e : n + 1 ≡ suc n = omega arith in ap (λ (m : ℕ). spans_to m f) e

read_to : (n : ℕ) (f : ℕ → Span) (k : ℕ) → k < n → span_at (spans_to n f) k ≡ f k
read_to zero f k within = absurd (omega (arith, within))
read_to (suc n) f k within =
    let e = length_to n f in
    elim (cases_lt k n) [
      | inl below ↦ get_or_append_left (spans_to n f) (f n ∷ []) no_span k (omega (arith, below, e)) ∙ read_to n f k below
      | inr past ↦ (let is : n ≡ k = omega (arith, within, past) in get_or_push (spans_to n f) (f n) no_span k (e ∙ is) ∙ ap f is)
    ]

agree_to : (n : ℕ) (f g : ℕ → Span) → ((k : ℕ) → k < n → g k ≡ f k) → spans_to n g ≡ spans_to n f
agree_to n f g same = ext_get_or no_span (spans_to n g) (spans_to n f) (length_to n g ∙ sym (length_to n f)) (λ k within. let e = length_to n g in let w : k < n = omega (arith, within, e) in read_to n g k w ∙ same k w ∙ sym (read_to n f k w))

set_to : (n : ℕ) (f g : ℕ → Span) (id : ℕ) (x : Span) → id < n → g id ≡ x → ((k : ℕ) → (k ≡ id → ⊥) → g k ≡ f k) → spans_to n g ≡ set (spans_to n f) id x
set_to n f g id x within here others =
    let e = length_to n g in
    let l = length_to n f in
    let m = length-set (spans_to n f) id x in
    ext_get_or no_span (spans_to n g) (set (spans_to n f) id x) (e ∙ sym l ∙ sym m) (λ k below.
    let w : k < n = omega (arith, below, e) in
    elim (cases_eq k id) [
      | inl is ↦ read_to n g k w ∙ ap g is ∙ here ∙ sym (ap (λ (j : ℕ). span_at (set (spans_to n f) id x) j) is ∙ get_or-set_same (spans_to n f) id x no_span (omega (arith, within, l)))
      | inr other ↦ read_to n g k w ∙ others k other ∙ sym (read_to n f k w) ∙ sym (get_or-set_other (spans_to n f) id k x no_span other)
    ])

none_there : (slots : List SlotValue) (place : Option ℕ) → ((p : ℕ) → place ≡ Some p → ⊥) → span_in_slot slots place ≡ no_span
none_there slots None absent = refl
none_there slots (Some p) absent = absurd (absent p refl)

module _ (count : ℕ) (places : ℕ → Option ℕ) (slots : List SlotValue) (free : List ℕ) (room : ℕ) (t : IsSlotTable count places slots free room) where
  pub read : (id : ℕ) → span_at (spans_to count (span_in places slots)) id ≡ span_in places slots id
  read id = elim (cases_lt id count) [
    | inl within ↦ read_to count (span_in places slots) id within
    | inr past ↦ (
        let e = length_to count (span_in places slots) in
        get_or_past (spans_to count (span_in places slots)) id no_span (omega (arith, past, e)) ∙ sym (none_there slots (places id) (λ p is. let k = (t.known id p is).made in omega (arith, k, past))))
  ]

  pub read_none : (id : ℕ) → places id ≡ None → span_at (spans_to count (span_in places slots)) id ≡ no_span
  read_none id none = read id ∙ ap (span_in_slot slots) none

  pub read_some : (id p : ℕ) → places id ≡ Some p → span_at (spans_to count (span_in places slots)) id ≡ (slot_value_at slots p).span
  read_some id p is = read id ∙ ap (span_in_slot slots) is

  -- another span has another slot
  apart_from : (id p q s : ℕ) → places id ≡ Some p → (q ≡ id → ⊥) → places q ≡ Some s → s ≡ p → ⊥
  apart_from id p q s is other there same = other (sym (t.known q s there).is ∙ ap (λ (k : ℕ). (slot_value_at slots k).id) same ∙ (t.known id p is).is)

  -- a slot that is free is no span's
  not_free : (id p k : ℕ) → places id ≡ Some p → k < length free → get_or free k 0 ≡ p → ⊥
  not_free id p k is within same =
      let held = (t.known id p is).held in
      let none = (t.freed k within).1 in
      let e = ap (λ (j : ℕ). (slot_value_at slots j).span.holds) same in
      omega (arith, held, none, e)

  others_set : (id p : ℕ) (x : SlotValue) (q : ℕ) → places id ≡ Some p → (q ≡ id → ⊥) → (o : Option ℕ) → places q ≡ o → span_in_slot (set slots p x) o ≡ span_in_slot slots o
  others_set id p x q is other None there = refl
  others_set id p x q is other (Some s) there = ap (λ (y : SlotValue). y.span) (get_or-set_other slots p s x no_slot (apart_from id p q s is other there))

  -- another span in the slot of one that stays live
  pub made_set : (id p : ℕ) (x : SlotValue) → places id ≡ Some p → spans_to count (span_in places (set slots p x)) ≡ set (spans_to count (span_in places slots)) id x.span
  made_set id p x is =
      let at = t.known id p is in
      set_to count (span_in places slots) (span_in places (set slots p x)) id x.span at.made
      (ap (span_in_slot (set slots p x)) is ∙ ap (λ (y : SlotValue). y.span) (get_or-set_same slots p x no_slot at.within))
      (λ q other. others_set id p x q is other (places q) refl)

  pub tabled_set : (id p : ℕ) (x : SlotValue) → places id ≡ Some p → x.id ≡ (slot_value_at slots p).id → 0 < x.span.holds → IsSlotTable count places (set slots p x) free room
  tabled_set id p x is same live =
      let at = t.known id p is in
      let long = length-set slots p x in
      record {
        known = λ q s there. (
            let was = t.known q s there in
            elim (cases_eq s p) [
              | inl here ↦ (
                  let now : slot_value_at (set slots p x) s ≡ x = ap (λ (k : ℕ). slot_value_at (set slots p x) k) here ∙ get_or-set_same slots p x no_slot at.within in
                  record {
                    made = was.made;
                    within = (let w = was.within in omega (arith, w, long));
                    is = ap (λ (y : SlotValue). y.id) now ∙ same ∙ ap (λ (k : ℕ). (slot_value_at slots k).id) (sym here) ∙ was.is;
                    held = (let e = ap (λ (y : SlotValue). y.span.holds) now in omega (arith, e, live));
                  })
              | inr other ↦ (
                  let now = get_or-set_other slots p s x no_slot other in
                  record {
                    made = was.made;
                    within = (let w = was.within in omega (arith, w, long));
                    is = ap (λ (y : SlotValue). y.id) now ∙ was.is;
                    held = (let e = ap (λ (y : SlotValue). y.span.holds) now in let h = was.held in omega (arith, e, h));
                  })
            ]);
        freed = λ k within. (
            let was = t.freed k within in
            let now = ap (λ (y : SlotValue). y.span.holds) (get_or-set_other slots p (get_or free k 0) x no_slot (not_free id p k is within)) in
            ((let w = was.0 in omega (arith, w, long)), now ∙ was.1));
        apart = t.apart;
        counted = (
            let all = ap live_span_count (made_set id p x is) in
            let within : id < length (spans_to count (span_in places slots)) = (let l = length_to count (span_in places slots) in let m = at.made in omega (arith, l, m)) in
            let write = sum_by-set (λ (s : Span). cond {A = ℕ} (is_live s) 1 0) (spans_to count (span_in places slots)) id x.span no_span within in
            let was = ap (λ (s : Span). s.holds) (read_some id p is) in
            let a = cond-true {A = ℕ} (is_live (span_at (spans_to count (span_in places slots)) id)) 1 0 (lt-ltb 0 (span_at (spans_to count (span_in places slots)) id).holds (let h = at.held in omega (arith, h, was))) in
            let b = cond-true {A = ℕ} (is_live x.span) 1 0 (lt-ltb 0 x.span.holds live) in
            let c = t.counted in
            omega (arith, all, write, a, b, c, long));
        enough = (let e = t.enough in omega (arith, e, long));
      }

  -- the slot of a span that closes
  others_gone : (id p : ℕ) (x : SlotValue) (now : ℕ → Option ℕ) (q : ℕ) → places id ≡ Some p → ((k : ℕ) → now k ≡ (if id == k then None else places k)) → (q ≡ id → ⊥) → now q ≡ places q
  others_gone id p x now q is gone other = gone q ∙ cond-false {A = Option ℕ} (id == q) None (places q) (ne_eqb id q (λ e. other (sym e)))

  pub made_gone : (id p : ℕ) (x : SlotValue) (now : ℕ → Option ℕ) → places id ≡ Some p → ((k : ℕ) → now k ≡ (if id == k then None else places k))
      → spans_to count (span_in now (set slots p x)) ≡ set (spans_to count (span_in places slots)) id no_span
  made_gone id p x now is gone =
      let at = t.known id p is in
      set_to count (span_in places slots) (span_in now (set slots p x)) id no_span at.made
      (ap (span_in_slot (set slots p x)) (gone id ∙ cond-true {A = Option ℕ} (id == id) None (places id) (eq-eqb id id refl)))
      (λ q other. ap (span_in_slot (set slots p x)) (others_gone id p x now q is gone other) ∙ others_set id p x q is other (places q) refl)

  -- a live span's slot is one that isn't free
  pub some_room : (id p : ℕ) → places id ≡ Some p → length free < room
  some_room id p is =
      let at = t.known id p is in
      let within : id < length (spans_to count (span_in places slots)) = (let l = length_to count (span_in places slots) in let m = at.made in omega (arith, l, m)) in
      let one = get_or-le-sum_by (λ (s : Span). cond {A = ℕ} (is_live s) 1 0) (spans_to count (span_in places slots)) id no_span within in
      let was = ap (λ (s : Span). s.holds) (read_some id p is) in
      let a = cond-true {A = ℕ} (is_live (span_at (spans_to count (span_in places slots)) id)) 1 0 (lt-ltb 0 (span_at (spans_to count (span_in places slots)) id).holds (let h = at.held in omega (arith, h, was))) in
      let c = t.counted in
      let e = t.enough in
      omega (arith, one, a, c, e)

  pub tabled_gone : (id p : ℕ) (x : SlotValue) (now : ℕ → Option ℕ) → places id ≡ Some p → ((k : ℕ) → now k ≡ (if id == k then None else places k)) → x.span.holds ≡ 0
      → IsSlotTable count now (set slots p x) (free ++ p ∷ []) room
  tabled_gone id p x now is gone none =
      let at = t.known id p is in
      let long = length-set slots p x in
      let more = length_push free p in
      record {
        known = λ q s there. elim (cases_eq q id) [
          | inl here ↦ absurd (let no : None ≡ Some s = sym (ap now here ∙ gone id ∙ cond-true {A = Option ℕ} (id == id) None (places id) (eq-eqb id id refl)) ∙ there in cc no)
          | inr other ↦ (
              let there_before = sym (others_gone id p x now q is gone other) ∙ there in
              let was = t.known q s there_before in
              let same = get_or-set_other slots p s x no_slot (apart_from id p q s is other there_before) in
              record {
                made = was.made;
                within = (let w = was.within in omega (arith, w, long));
                is = ap (λ (y : SlotValue). y.id) same ∙ was.is;
                held = (let e = ap (λ (y : SlotValue). y.span.holds) same in let h = was.held in omega (arith, e, h));
              })
        ];
        freed = λ k within. elim (cases_lt k (length free)) [
          | inl below ↦ (
              let is_front = get_or_append_left free (p ∷ []) 0 k below in
              let was = t.freed k below in
              let same = ap (λ (y : SlotValue). y.span.holds) (get_or-set_other slots p (get_or free k 0) x no_slot (not_free id p k is below)) in
              subst (λ (f : ℕ). (f < length (set slots p x)) × ((slot_value_at (set slots p x) f).span.holds ≡ 0)) (sym is_front) ((let w = was.0 in omega (arith, w, long)), same ∙ was.1))
          | inr past ↦ (
              let is_last = get_or_push free p 0 k (omega (arith, within, past, more)) in
              subst (λ (f : ℕ). (f < length (set slots p x)) × ((slot_value_at (set slots p x) f).span.holds ≡ 0)) (sym is_last) ((let w = at.within in omega (arith, w, long)), ap (λ (y : SlotValue). y.span.holds) (get_or-set_same slots p x no_slot at.within) ∙ none))
        ];
        apart = λ j k before within same. elim (cases_lt k (length free)) [
          | inl below ↦ t.apart j k before below (sym (get_or_append_left free (p ∷ []) 0 j (omega (arith, before, below))) ∙ same ∙ get_or_append_left free (p ∷ []) 0 k below)
          | inr past ↦ (
              let j_below : j < length free = omega (arith, before, within, past, more) in
              not_free id p j is j_below (sym (get_or_append_left free (p ∷ []) 0 j j_below) ∙ same ∙ get_or_push free p 0 k (omega (arith, within, past, more))))
        ];
        counted = (
            let all = ap live_span_count (made_gone id p x now is gone) in
            let within : id < length (spans_to count (span_in places slots)) = (let l = length_to count (span_in places slots) in let m = at.made in omega (arith, l, m)) in
            let write = sum_by-set (λ (s : Span). cond {A = ℕ} (is_live s) 1 0) (spans_to count (span_in places slots)) id no_span no_span within in
            let was = ap (λ (s : Span). s.holds) (read_some id p is) in
            let a = cond-true {A = ℕ} (is_live (span_at (spans_to count (span_in places slots)) id)) 1 0 (lt-ltb 0 (span_at (spans_to count (span_in places slots)) id).holds (let h = at.held in omega (arith, h, was))) in
            let c = t.counted in
            omega (arith, all, write, a, c, long, more));
        enough = (let e = t.enough in omega (arith, e, long));
      }

-- a slot for one span more: one that was free, or a new one
pub record Placed (slots now : List SlotValue) (free left : List ℕ) (p : ℕ) (x : SlotValue) : Type 0 where
  within : p < length now
  longer : length slots ≤ length now
  here : slot_value_at now p ≡ x
  others : (s : ℕ) → s < length slots → (s ≡ p → ⊥) → slot_value_at now s ≡ slot_value_at slots s
  unused : (s : ℕ) → s < length slots → 0 < (slot_value_at slots s).span.holds → s ≡ p → ⊥
  fewer : length left ≤ length free
  front : (k : ℕ) → k < length left → get_or left k 0 ≡ get_or free k 0
  not_here : (k : ℕ) → k < length left → get_or free k 0 ≡ p → ⊥
  balance : length left + length slots + 1 ≡ length free + length now
  newer : (length now ≡ length slots) ⊎ (length left ≡ 0)

placed_new : (slots : List SlotValue) (free left : List ℕ) (x : SlotValue) → length free ≡ 0 → length left ≡ 0 → Placed slots (slots ++ x ∷ []) free left (length slots) x
placed_new slots free left x none still =
    let more = length_push slots x in
    record {
      within = omega (arith, more);
      longer = omega (arith, more);
      here = get_or_push slots x no_slot (length slots) refl;
      others = λ s within other. get_or_append_left slots (x ∷ []) no_slot s within;
      unused = λ s within held same. omega (arith, within, same);
      fewer = omega (arith, none, still);
      front = λ k within. absurd (omega (arith, within, still));
      not_here = λ k within same. omega (arith, within, still);
      balance = omega (arith, none, still, more);
      newer = inr still;
    }

module _ (count : ℕ) (places : ℕ → Option ℕ) (slots : List SlotValue) (free : List ℕ) (room : ℕ) (t : IsSlotTable count places slots free room) where
  placed_free : (left : List ℕ) (p : ℕ) (x : SlotValue) → 0 < length free → p ≡ get_or free (length free - 1) 0 → left ≡ take (length free - 1) free → Placed slots (set slots p x) free left p x
  placed_free left p x some is so =
      let last = t.freed (length free - 1) (omega (arith, some)) in
      let within : p < length slots = (let w = last.0 in omega (arith, w, is)) in
      let long = length-set slots p x in
      let cut : length left ≡ length free - 1 = ap (λ (l : List ℕ). length l) so ∙ length-take-le (length free - 1) free (omega (arith, some)) in
      let front : (k : ℕ) → k < length left → get_or left k 0 ≡ get_or free k 0 = λ k below. ap (λ (l : List ℕ). get_or l k 0) so ∙ get_or-take (length free - 1) free k 0 (omega (arith, below, cut)) in
      record {
        within = omega (arith, within, long);
        longer = omega (arith, long);
        here = get_or-set_same slots p x no_slot within;
        others = λ s below other. get_or-set_other slots p s x no_slot other;
        unused = λ s below held same. (let none = last.1 in let e = ap (λ (k : ℕ). (slot_value_at slots k).span.holds) (same ∙ is) in omega (arith, held, none, e));
        fewer = omega (arith, cut);
        front = front;
        not_here = λ k below same. t.apart k (length free - 1) (omega (arith, below, cut)) (omega (arith, some)) (same ∙ is);
        balance = omega (arith, cut, some, long);
        newer = inl long;
      }

  others_more : (p : ℕ) (now : ℕ → Option ℕ) (q : ℕ) → ((k : ℕ) → now k ≡ (if count == k then Some p else places k)) → (q ≡ count → ⊥) → now q ≡ places q
  others_more p now q put other = put q ∙ cond-false {A = Option ℕ} (count == q) (Some p) (places q) (ne_eqb count q (λ e. other (sym e)))

  here_more : (p : ℕ) (now : ℕ → Option ℕ) → ((k : ℕ) → now k ≡ (if count == k then Some p else places k)) → now count ≡ Some p
  here_more p now put = put count ∙ cond-true {A = Option ℕ} (count == count) (Some p) (places count) (eq-eqb count count refl)

  module _ (now_slots : List SlotValue) (left : List ℕ) (p : ℕ) (x : SlotValue) (now : ℕ → Option ℕ) (placed : Placed slots now_slots free left p x) (put : (k : ℕ) → now k ≡ (if count == k then Some p else places k)) where
    kept_more : (q : ℕ) → q < count → (o : Option ℕ) → places q ≡ o → span_in_slot now_slots o ≡ span_in_slot slots o
    kept_more q below None there = refl
    kept_more q below (Some s) there =
        let at = t.known q s there in
        ap (λ (y : SlotValue). y.span) (placed.others s at.within (placed.unused s at.within at.held))

    pub made_more : spans_to (count + 1) (span_in now now_slots) ≡ spans_to count (span_in places slots) ++ x.span ∷ []
    made_more =
        let front = agree_to count (span_in places slots) (span_in now now_slots) (λ k below. ap (span_in_slot now_slots) (others_more p now k put (λ e. omega (arith, e, below))) ∙ kept_more k below (places k) refl) in
        let last : span_in now now_slots count ≡ x.span = ap (span_in_slot now_slots) (here_more p now put) ∙ ap (λ (y : SlotValue). y.span) placed.here in
        one_more count (span_in now now_slots) ∙ ap (λ (l : List Span). l ++ span_in now now_slots count ∷ []) front ∙ ap (λ (s : Span). spans_to count (span_in places slots) ++ s ∷ []) last

    live_more : 0 < x.span.holds → live_span_count (spans_to (count + 1) (span_in now now_slots)) ≡ live_span_count (spans_to count (span_in places slots)) + 1
    live_more live =
        let all = ap live_span_count made_more in
        let pushed = count_push is_live (spans_to count (span_in places slots)) x.span in
        let one = cond-true {A = ℕ} (is_live x.span) 1 0 (lt-ltb 0 x.span.holds live) in
        omega (arith, all, pushed, one)

    pub tabled_more : (bigger : ℕ) → x.id ≡ count → 0 < x.span.holds → length now_slots ≤ bigger → IsSlotTable (count + 1) now now_slots left bigger
    tabled_more bigger named live enough = record {
      known = λ q s there. elim (cases_eq q count) [
        | inl here ↦ (
            let e : Some p ≡ Some s = sym (ap now here ∙ here_more p now put) ∙ there in
            let same : p ≡ s = cc e in
            let now_is : slot_value_at now_slots s ≡ x = ap (λ (k : ℕ). slot_value_at now_slots k) (sym same) ∙ placed.here in
            record {
              made = omega (arith, here);
              within = (let w = placed.within in omega (arith, w, same));
              is = ap (λ (y : SlotValue). y.id) now_is ∙ named ∙ sym here;
              held = (let h = ap (λ (y : SlotValue). y.span.holds) now_is in omega (arith, h, live));
            })
        | inr other ↦ (
            let was = t.known q s (sym (others_more p now q put other) ∙ there) in
            let same = placed.others s was.within (placed.unused s was.within was.held) in
            record {
              made = (let m = was.made in omega (arith, m));
              within = (let w = was.within in let l = placed.longer in omega (arith, w, l));
              is = ap (λ (y : SlotValue). y.id) same ∙ was.is;
              held = (let h = ap (λ (y : SlotValue). y.span.holds) same in let b = was.held in omega (arith, h, b));
            })
      ];
      freed = λ k within. (
          let f = placed.fewer in
          let was = t.freed k (omega (arith, within, f)) in
          let same = placed.others (get_or free k 0) was.0 (placed.not_here k within) in
          subst (λ (z : ℕ). (z < length now_slots) × ((slot_value_at now_slots z).span.holds ≡ 0)) (sym (placed.front k within)) ((let w = was.0 in let l = placed.longer in omega (arith, w, l)), ap (λ (y : SlotValue). y.span.holds) same ∙ was.1));
      apart = λ j k before within same. (
          let f = placed.fewer in
          t.apart j k before (omega (arith, within, f)) (sym (placed.front j (omega (arith, before, within))) ∙ same ∙ placed.front k within));
      counted = (let l = live_more live in let c = t.counted in let b = placed.balance in omega (arith, l, c, b));
      enough = enough;
    }

    pub slots_more : 0 < x.span.holds → length now_slots ≡ max (length slots) (live_span_count (spans_to (count + 1) (span_in now now_slots)))
    slots_more live =
        let l = live_more live in
        let c = t.counted in
        let b = placed.balance in
        elim placed.newer [
          | inl same ↦ sym (max-eq_left {n = length slots} {m = live_span_count (spans_to (count + 1) (span_in now now_slots))} (omega (arith, l, c, b, same)) ∙ sym same)
          | inr none ↦ (
              let is : live_span_count (spans_to (count + 1) (span_in now now_slots)) ≡ length now_slots = omega (arith, l, c, b, none) in
              sym (max-eq_right {n = length slots} {m = live_span_count (spans_to (count + 1) (span_in now now_slots))} (let g = placed.longer in omega (arith, is, g)) ∙ is))
        ]

-- what a table shows when its place of a live span is read or written
same_tabled : (a b : List Span) (m n : ℕ) → a ≡ b → m ≡ n → ◌≡◌ {A = SlotTableValue} (record { made = a; slots = m }) (record { made = b; slots = n })
same_tabled a b m n e f = ap (λ (x : List Span). let t : SlotTableValue = record { made = x; slots = m } in t) e ∙ ap (λ (k : ℕ). let t : SlotTableValue = record { made = b; slots = k } in t) f

module _ (count : ℕ) (places : ℕ → Option ℕ) (slots : List SlotValue) (free : List ℕ) (room : ℕ) (t : IsSlotTable count places slots free room) (v : SlotTableValue) (is_view : slot_table_value count places slots ≡ v) where
  pub shown_none : (id : ℕ) → places id ≡ None → span_at v.made id ≡ no_span
  shown_none id none = ap (λ (w : SlotTableValue). span_at w.made id) (sym is_view) ∙ read_none count places slots free room t id none

  pub no_place : (id : ℕ) → places id ≡ None → IsLive v.made id → ⊥
  no_place id none live = let e = ap (λ (s : Span). s.holds) (shown_none id none) in omega (arith, e, live)

  pub shown_some : (id p : ℕ) → places id ≡ Some p → span_at v.made id ≡ (slot_value_at slots p).span
  shown_some id p is = ap (λ (w : SlotTableValue). span_at w.made id) (sym is_view) ∙ read_some count places slots free room t id p is

  pub shown_count : length v.made ≡ count
  shown_count = ap (λ (w : SlotTableValue). length w.made) (sym is_view) ∙ length_to count (span_in places slots)

  pub shown_set : (id p : ℕ) (x : SlotValue) (y : Span) → places id ≡ Some p → x.span ≡ y → ◌≡◌ {A = SlotTableValue} (slot_table_value count places (set slots p x)) (record v { made = set v.made id y })
  shown_set id p x y is so =
      same_tabled (spans_to count (span_in places (set slots p x))) (set v.made id y) (length (set slots p x)) v.slots
      (made_set count places slots free room t id p x is ∙ ap (λ (s : Span). set (spans_to count (span_in places slots)) id s) so ∙ ap (λ (w : SlotTableValue). set w.made id y) is_view) (length-set slots p x ∙ ap (λ (w : SlotTableValue). w.slots) is_view)

  pub shown_gone : (id p : ℕ) (x : SlotValue) (now : ℕ → Option ℕ) (y : Span) → places id ≡ Some p → ((k : ℕ) → now k ≡ (if id == k then None else places k)) → no_span ≡ y → ◌≡◌ {A = SlotTableValue} (slot_table_value count now (set slots p x)) (record v { made = set v.made id y })
  shown_gone id p x now y is gone so =
      same_tabled (spans_to count (span_in now (set slots p x))) (set v.made id y) (length (set slots p x)) v.slots
      (made_gone count places slots free room t id p x now is gone ∙ ap (λ (s : Span). set (spans_to count (span_in places slots)) id s) so ∙ ap (λ (w : SlotTableValue). set w.made id y) is_view) (length-set slots p x ∙ ap (λ (w : SlotTableValue). w.slots) is_view)

-- the same places and slots, and room that has grown
pub tabled_same : (count : ℕ) (places now : ℕ → Option ℕ) (slots slots' : List SlotValue) (free free' : List ℕ) (room bigger : ℕ) → IsSlotTable count places slots free room → ((q : ℕ) → now q ≡ places q) → slots' ≡ slots → free' ≡ free → room ≤ bigger → IsSlotTable count now slots' free' bigger
tabled_same count places now slots slots' free free' room bigger t same es ef more =
    subst (λ (ss : List SlotValue). IsSlotTable count now ss free' bigger) (sym es) (subst (λ (fs : List ℕ). IsSlotTable count now slots fs bigger) (sym ef) (record {
      known = λ id p is. t.known id p (sym (same id) ∙ is);
      freed = t.freed;
      apart = t.apart;
      counted = ap (λ (l : List Span). length free + live_span_count l) (agree_to count (span_in places slots) (span_in now slots) (λ k below. ap (span_in_slot slots) (same k))) ∙ t.counted;
      enough = (let e = t.enough in omega (arith, e, more));
    }))

-- a span more, in the slot that was chosen and filled
pub filled : (count : ℕ) (places : ℕ → Option ℕ) (slots now : List SlotValue) (free left : List ℕ) (room : ℕ) (p : ℕ) (x : SlotValue) → IsSlotTable count places slots free room
    → (0 < length free → p ≡ get_or free (length free - 1) 0) → (length free ≡ 0 → p ≡ length slots) → (0 < length free → now ≡ set slots (get_or free (length free - 1) 0) x) → (length free ≡ 0 → now ≡ slots ++ x ∷ []) → left ≡ take (length free - 1) free
    → Placed slots now free left p x
filled count places slots now free left room p x t used new set_used pushed so =
    elim (cases_eq (length free) 0) [
      | inl none ↦ (
          let cut : length left ≡ 0 = ap (λ (l : List ℕ). length l) so ∙ length-take-le (length free - 1) free (omega (arith, none)) ∙ (let e : length free - 1 ≡ 0 = omega (arith, none) in e) in
          subst (λ (q : ℕ). Placed slots now free left q x) (sym (new none)) (subst (λ (ss : List SlotValue). Placed slots ss free left (length slots) x) (sym (pushed none)) (placed_new slots free left x none cut)))
      | inr some ↦ (
          let more : 0 < length free = omega (arith, some) in
          subst (λ (ss : List SlotValue). Placed slots ss free left p x) (sym (set_used more ∙ ap (λ (q : ℕ). set slots q x) (sym (used more)))) (placed_free count places slots free room t left p x more (used more) so))
    ]

-- a parent is held alike before and after its child is added
pub held_push : (made : List Span) (new : Span) (above : Option ℕ) → IfSome above (IsLive made) → with_hold_of_child (made ++ new ∷ []) above ≡ with_hold_of_child made above ++ new ∷ []
held_push made new None live = refl
held_push made new (Some p) live =
    let within = made_if_held made p live in
    ap (λ (s : Span). let now : Span = record s { holds = s.holds + 1 } in set (made ++ new ∷ []) p now) (get_or_append_left made (new ∷ []) no_span p within)
    ∙ set-append_left made (new ∷ []) p (record (span_at made p) { holds = (span_at made p).holds + 1 }) within

pub live_push : (made : List Span) (new : Span) (above : Option ℕ) → IfSome above (IsLive made) → IfSome above (IsLive (made ++ new ∷ []))
live_push made new None live = tt
live_push made new (Some p) live = (let e = ap (λ (s : Span). s.holds) (get_or_append_left made (new ∷ []) no_span p (made_if_held made p live)) in omega (arith, e, live))

pub few_push : (made : List Span) (new : Span) (above : Option ℕ) → IfSome above (IsLive made) → IfSome above (HasFewHolds made) → IfSome above (HasFewHolds (made ++ new ∷ []))
few_push made new None live few = tt
few_push made new (Some p) live few = (let e = ap (λ (s : Span). s.holds) (get_or_append_left made (new ∷ []) no_span p (made_if_held made p live)) in omega (arith, e, few))

-- a span more in the slot that was chosen and filled: the table, its spans and its slots
pub pushed : (count : ℕ) (places now : ℕ → Option ℕ) (slots now_slots : List SlotValue) (free left : List ℕ) (room r bigger p : ℕ) (x : SlotValue) (v : SlotTableValue) → IsSlotTable count places slots free room → slot_table_value count places slots ≡ v → Placed slots now_slots free left p x
    → ((k : ℕ) → now k ≡ (if count == k then Some p else places k)) → x.id ≡ count → 0 < x.span.holds → room ≤ r → (length free ≡ 0 → length slots + 1 ≤ r) → bigger ≡ r
    → IsSlotTable (count + 1) now now_slots left bigger × (spans_to (count + 1) (span_in now now_slots) ≡ v.made ++ x.span ∷ []) × (length now_slots ≡ max v.slots (live_span_count (spans_to (count + 1) (span_in now now_slots))))
pushed count places now slots now_slots free left room r bigger p x v t is_view placed put named live grown made_room is =
    let b = placed.balance in
    let l = placed.longer in
    let e = t.enough in
    let enough : length now_slots ≤ bigger = elim (cases_eq (length free) 0) [
      | inl none ↦ (let m = made_room none in omega (arith, b, m, none, is))
      | inr some ↦ elim placed.newer [
        | inl same ↦ omega (arith, same, e, grown, is)
        | inr empty ↦ omega (arith, b, l, empty, some, e, grown, is)
      ]
    ] in (
      tabled_more count places slots free room t now_slots left p x now placed put bigger named live enough,
      made_more count places slots free room t now_slots left p x now placed put ∙ ap (λ (w : SlotTableValue). w.made ++ x.span ∷ []) is_view,
      slots_more count places slots free room t now_slots left p x now placed put live ∙ ap (λ (w : SlotTableValue). max w.slots (live_span_count (spans_to (count + 1) (span_in now now_slots)))) is_view,
    )
