-- What one call on a subscriber makes of what is read of any.
use Rattle.std.proofs.Common.{◌≡◌, ℕ, zero, suc, List, [], ◌∷◌, length, false, Option, Some, None, refl, sym, ap, ◌∙◌, subst, arith, slice_get, slice_set, ◌==◌}
use Rattle.traced.proofs.Common.{option_map_or, cond-true, cond-false, Lane, Ghosts, AreAttached, TracksAttached, attached_count, WorldValue, Has, Replaced, KeepsPlainData, no_spans, spans_in, kept_in, HeldSpan, ReplacedOn, as_many, AreAtMost, HasDistinctId, AreServed, StandsReady}
use Rattle.std.proofs.lemmas.Bool.{eq-eqb, ne_eqb}

get_other : {X : Type 0} (xs : List X) (n m : ℕ) (y : X) → (m ≡ n → ⊥) → slice_get (slice_set xs n y) m ≡ slice_get xs m
get_other [] n m y apart = refl
get_other (x ∷ xs) zero zero y apart = absurd (apart refl)
get_other (x ∷ xs) zero (suc m) y apart = refl
get_other (x ∷ xs) (suc n) zero y apart = refl
get_other (x ∷ xs) (suc n) (suc m) y apart = get_other xs n m y (λ e. apart (ap suc e))

-- another subscriber is the same
module _ {S : Type 0} (R : S → S → Type 0) (old new : WorldValue S) (dispatch : ℕ) (r : Replaced R old new dispatch) where
  pub beside : (d : ℕ) → (d ≡ dispatch → ⊥) → slice_get new.subscribers d ≡ slice_get old.subscribers d
  beside d apart = ap (λ (w : WorldValue S). slice_get w.subscribers d) r.others ∙ get_other old.subscribers dispatch d r.later apart

  pub same_sites : new.sites ≡ old.sites
  same_sites = ap (λ (w : WorldValue S). w.sites) r.others

  pub same_global : new.global ≡ old.global
  same_global = ap (λ (w : WorldValue S). w.global) r.others

-- one call leaves as many subscribers
pub count_on : {S : Type 0} (R : ℕ → S → S → Type 0) (old new : WorldValue S) (held : HeldSpan) → ReplacedOn R old new held → length new.subscribers ≡ length old.subscribers
count_on {S} R old new None r = ap (λ (w : WorldValue S). length w.subscribers) r
count_on R old new (Some h) r = as_many (R h.1) old new h.0 r

-- what is read of a subscriber that is the same
pub alike_there : {S : Type 0} (sub : Ghosts S) (old new : WorldValue S) (d : ℕ) → slice_get new.subscribers d ≡ slice_get old.subscribers d → length new.subscribers ≡ length old.subscribers → KeepsPlainData sub.spans sub.attaches sub.kept sub.is_whole old new d
alike_there {S} sub old new d same count = record {
  spans_same = ap (λ (o : Option S). option_map_or sub.spans o no_spans) same;
  attaches_same = ap (λ (o : Option S). option_map_or sub.attaches o false) same;
  kept_same = ap (λ (o : Option S). option_map_or sub.kept o (λ lane number. 0)) same;
  count = count;
  whole = λ has s there. has s (sym same ∙ there);
}

-- what one lane's entries attach is nothing of the others
pub others_served : (global : Option ℕ) (kept now : ℕ → ℕ → ℕ) (dispatch : ℕ) (before left : Lane) (others : List Lane) → left.id ≡ before.id → TracksAttached kept before left now → HasDistinctId before others → AreServed global kept dispatch others → AreServed global now dispatch others
others_served global kept now dispatch before left [] same keeps apart served = tt
others_served global kept now dispatch before left (other ∷ others) same keeps apart served = (
  record {
    serves = served.0.serves;
    attached = λ number. (
        let k = keeps other.id number in
        let s = served.0.attached number in
        let x = cond-false {A = ℕ} (before.id == other.id) (attached_count number before) 0 (ne_eqb before.id other.id (λ e. apart.0 (sym e))) in
        let y = cond-false {A = ℕ} (left.id == other.id) (attached_count number left) 0 (ne_eqb left.id other.id (λ e. apart.0 (sym e ∙ same))) in
        omega (arith, k, s, x, y));
  },
  served.1,
  others_served global kept now dispatch before left others same keeps apart.1 served.2,
)

pub still_apart : (before left : Lane) (others : List Lane) → left.id ≡ before.id → HasDistinctId before others → HasDistinctId left others
still_apart before left [] same apart = tt
still_apart before left (other ∷ others) same apart = ((λ e. apart.0 (e ∙ same)), still_apart before left others same apart.1)

-- and what it attaches is attached to it
pub attached_on_lane : (kept now : ℕ → ℕ → ℕ) (before left : Lane) → left.id ≡ before.id → TracksAttached kept before left now → AreAttached kept before → AreAttached now left
attached_on_lane kept now before left same keeps still number =
    let k = keeps left.id number in
    let s = still number in
    let x = cond-true {A = ℕ} (before.id == left.id) (attached_count number before) 0 (eq-eqb before.id left.id (sym same)) in
    let y = cond-true {A = ℕ} (left.id == left.id) (attached_count number left) 0 (eq-eqb left.id left.id refl) in
    let z = ap (λ (l : ℕ). kept l number) same in
    omega (arith, k, s, x, y, z)

-- the world is another one, and the subscriber serves the same lanes
pub stands_after : {S : Type 0} (sub : Ghosts S) (n m dispatch sites : ℕ) (old new : WorldValue S) (lanes : List Lane) → length new.subscribers ≡ length old.subscribers → new.sites ≡ old.sites → new.global ≡ old.global → (Has sub.is_whole old dispatch → Has sub.is_whole new dispatch)
    → (AreAtMost n (spans_in sub.spans old dispatch) → AreAtMost m (spans_in sub.spans new dispatch)) → kept_in sub.kept new dispatch ≡ kept_in sub.kept old dispatch → StandsReady sub n dispatch sites old lanes → StandsReady sub m dispatch sites new lanes
stands_after {S} sub n m dispatch sites old new lanes count same global whole few kept stands = record {
  there = omega (arith, count, stands.there);
  whole = whole stands.whole;
  few = few stands.few;
  declared = (let e = ap (λ xs. length xs) same in omega (arith, e, stands.declared));
  served = subst (λ (o : Option ℕ). AreServed o (kept_in sub.kept new dispatch) dispatch lanes) (sym global)
      (subst (λ (k : ℕ → ℕ → ℕ). AreServed old.global k dispatch lanes) (sym kept) stands.served);
}
