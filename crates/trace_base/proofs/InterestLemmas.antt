-- The interests that are cached, and subscribers that took room.
use Rattle.std.proofs.Common.{◌≡◌, ℕ, zero, suc, ◌+◌, ◌<◌, List, [], ◌∷◌, ◌++◌, length, map, take, Bool, Option, Some, None, get_or, set, refl, subst, sym, ap, ◌∙◌, arith, inl, inr}
use Rattle.std.specs.Prelude.{slice_get}
use Rattle.std.proofs.lemmas.Bool.{cases_eq, cases_lt}
use Rattle.std.proofs.lemmas.List.{length-set, length-map, length-append, take-map, map_more, get_or_append_left}
use Rattle.std.proofs.Math.Seq.{get_or-append_seam}
use Rattle.std.proofs.lemmas.Option.{slice_get_within, slice_get-get_or, slice_get-map, get_or_from_slice_get}
use Rattle.trace_base.specs.declared.callsite.Callsite.{Callsite}
use Rattle.trace_base.specs.declared.level.LevelFilter.{LevelFilter}
use Rattle.trace_base.specs.declared.subscriber.Interest.{Interest}
use Rattle.trace_base.specs.declared.subscriber.Interest.TheVariants as interests
use Rattle.trace_base.specs.Gate.{WorldValue, gate, cached_at, Admits, AdmitsFresh, IsFresh, AreSame, HasRows, IsSoundWorld, interests_in, interests_of_sites}

-- what stands in a list after a write
get_set_same : {X : Type 0} (xs : List X) (i : ℕ) (y : X) → i < length xs → slice_get (set xs i y) i ≡ Some y
get_set_same [] i y within = absurd (omega (arith, within))
get_set_same (x ∷ xs) zero y within = refl
get_set_same (x ∷ xs) (suc i) y within = get_set_same xs i y (omega (arith, within))

get_set_other : {X : Type 0} (xs : List X) (i j : ℕ) (y : X) → (j ≡ i → ⊥) → slice_get (set xs i y) j ≡ slice_get xs j
get_set_other [] i j y apart = refl
get_set_other (x ∷ xs) zero zero y apart = absurd (apart refl)
get_set_other (x ∷ xs) zero (suc j) y apart = refl
get_set_other (x ∷ xs) (suc i) zero y apart = refl
get_set_other (x ∷ xs) (suc i) (suc j) y apart = get_set_other xs i j y (λ e. apart (ap suc e))

the_item : {X : Type 0} (x y : X) → Some x ≡ Some y → x ≡ y
the_item x y e = cc e

module _ {S : Type 0} (same : S → S → Type 0) (reflexive : (s : S) → same s s) (trans : (s t u : S) → same s t → same t u → same s u) where
  pub same_both : (old mid now : List S) → AreSame same old mid → AreSame same mid now → AreSame same old now
  same_both old mid now first second = record {
    count = second.count ∙ first.count;
    each = λ d s u hs hu. (
        let within : d < length mid = (let e = first.count in let w = slice_get_within old d s hs in omega (arith, e, w)) in
        let there = slice_get-get_or mid d s within in
        trans s (get_or mid d s) u (first.each d s (get_or mid d s) hs there) (second.each d (get_or mid d s) u there hu));
  }

  -- one of them took room
  pub same_one : (old now : List S) (at : ℕ) (s t : S) → AreSame same old now → at < length now → s ≡ get_or now at s → same s t → AreSame same old (set now at t)
  same_one old now at s t all within is step = record {
    count = length-set now at t ∙ all.count;
    each = λ d x y hx hy. elim (cases_eq d at) [
      | inl here ↦ (
          let there : slice_get now d ≡ Some s = ap (λ (k : ℕ). slice_get now k) here ∙ slice_get-get_or now at s within ∙ ap (λ (z : S). Some z) (sym is) in
          let last = the_item t y (sym (ap (λ (k : ℕ). slice_get (set now at t) k) here ∙ get_set_same now at t within) ∙ hy) in
          trans x s y (all.each d x s hx there) (subst (λ (z : S). same s z) last step))
      | inr other ↦ all.each d x y hx (sym (get_set_other now at d t other) ∙ hy)
    ];
  }

module _ {S : Type 0} (same : S → S → Type 0) where
  same_rest : (s t : S) (ss ts : List S) → AreSame same (s ∷ ss) (t ∷ ts) → AreSame same ss ts
  same_rest s t ss ts all = record { count = (let e = all.count in let k : length ts ≡ length ss = omega (arith, e) in k); each = λ d x y hx hy. all.each (suc d) x y hx hy }

  each_cons : (s t : S) (ss ts : List S) → same s t → AreSame same ss ts → (d : ℕ) (x y : S) → slice_get (s ∷ ss) d ≡ Some x → slice_get (t ∷ ts) d ≡ Some y → same x y
  each_cons s t ss ts first rest zero x y hx hy = subst (λ (z : S). same z y) (the_item s x hx) (subst (λ (z : S). same s z) (the_item t y hy) first)
  each_cons s t ss ts first rest (suc d) x y hx hy = rest.each d x y hx hy

  same_cons : (s t : S) (ss ts : List S) → same s t → AreSame same ss ts → AreSame same (s ∷ ss) (t ∷ ts)
  same_cons s t ss ts first rest = record { count = ap suc rest.count; each = each_cons s t ss ts first rest }

  -- what they have alike they have still
  pub same_values : {A : Type 0} (f : S → A) → ((s t : S) → same s t → f t ≡ f s) → (old now : List S) → AreSame same old now → map f now ≡ map f old
  same_values f like [] [] all = refl
  same_values f like [] (t ∷ ts) all = let e = all.count in absurd (omega (arith, e))
  same_values f like (s ∷ ss) [] all = let e = all.count in absurd (omega (arith, e))
  same_values {A} f like (s ∷ ss) (t ∷ ts) all =
      let first = like s t (all.each zero s t refl refl) in
      ap (λ (a : A). a ∷ map f ts) first ∙ ap (λ (l : List A). f s ∷ l) (same_values f like ss ts (same_rest s t ss ts all))

  -- the last one, and those before it
  pub same_last : (old front : List S) (s last : S) → AreSame same (old ++ s ∷ []) (front ++ last ∷ []) → AreSame same old front × same s last
  same_last [] [] s last all = (record { count = refl; each = λ d x y hx hy. absurd (cc hx) }, all.each zero s last refl refl)
  same_last [] (t ∷ ts) s last all = let e = all.count in let n = length-append ts (last ∷ []) in absurd (omega (arith, e, n))
  same_last (x ∷ xs) [] s last all = let e = all.count in let n = length-append xs (s ∷ []) in absurd (omega (arith, e, n))
  same_last (x ∷ xs) (t ∷ ts) s last all =
      let more = same_last xs ts s last (same_rest x t (xs ++ s ∷ []) (ts ++ last ∷ []) all) in
      (same_cons x t xs ts (all.each zero x t refl refl) more.0, more.1)

-- one answer more
pub asked_more : {S A : Type 0} (f : S → A) (old now : List S) (at : ℕ) (s : S) (a : A) (answers : List A) → map f now ≡ map f old → at < length now → s ≡ get_or now at s → a ≡ f s → answers ≡ map f (take at old) → answers ++ a ∷ [] ≡ map f (take (at + 1) old)
asked_more {S} {A} f old now at s a answers alike within is answer so =
    let front : map f (take at now) ≡ map f (take at old) = sym (take-map f at now) ∙ ap (take at) alike ∙ take-map f at old in
    let more : map f (take (at + 1) now) ≡ map f (take (at + 1) old) = sym (take-map f (at + 1) now) ∙ ap (take (at + 1)) alike ∙ take-map f (at + 1) old in
    ap (λ (l : List A). l ++ a ∷ []) (so ∙ sym front) ∙ ap (λ (x : A). map f (take at now) ++ x ∷ []) (answer ∙ ap f is) ∙ sym (map_more f now at s within) ∙ more

get_map : {X Y : Type 0} (f : X → Y) (xs : List X) (k : ℕ) (x : X) (d : Y) → slice_get xs k ≡ Some x → get_or (map f xs) k d ≡ f x
get_map {X} {Y} f xs k x d there = get_or_from_slice_get (map f xs) k (f x) d (slice_get-map f xs k ∙ ap (λ (o : Option X). elim o [ None ↦ None | Some z ↦ Some (f z) ]) there)

-- what is registered stands in a row for each callsite, with each subscriber
pub registered_at : {S : Type 0} (interest : S → Callsite → Interest) (subscribers : List S) (sites : List Callsite) (dispatch site : ℕ) (s : S) (c : Callsite) → slice_get subscribers dispatch ≡ Some s → slice_get sites site ≡ Some c
    → cached_at (interests_of_sites interest subscribers sites) dispatch site ≡ interest s c
registered_at interest subscribers sites dispatch site s c hs hc =
    ap (λ (row : List Interest). get_or row dispatch interests.Never) (get_map (interests_in interest subscribers) sites site c [] hc) ∙ get_map (λ z. interest z c) subscribers dispatch s interests.Never hs

pub fresh_admits : {S : Type 0} (interest : S → Callsite → Interest) (hint : S → Option LevelFilter) (enables : S → ℕ → Callsite → Bool) (world : WorldValue S) (lane site : ℕ) (own : Option ℕ) (answer : Bool)
    → Admits hint enables world lane site own answer → IsFresh interest world → AdmitsFresh interest hint enables world lane site own answer
fresh_admits interest hint enables world lane site None answer admits fresh = admits
fresh_admits interest hint enables world lane site (Some d) answer admits fresh =
    λ s c hs hc. admits s c hs hc ∙ ap (λ i. gate i (hint s) (enables s lane c) c.level) (ap (λ (rows : List (List Interest)). cached_at rows d site) fresh ∙ registered_at interest world.subscribers world.sites d site s c hs hc)

row_length : {S : Type 0} (interest : S → Callsite → Interest) (subscribers : List S) (sites : List Callsite) (k : ℕ) → k < length sites → length (get_or (interests_of_sites interest subscribers sites) k []) ≡ length subscribers
row_length interest subscribers [] k within = absurd (omega (arith, within))
row_length interest subscribers (c ∷ cs) zero within = length-map subscribers (λ s. interest s c)
row_length interest subscribers (c ∷ cs) (suc k) within = row_length interest subscribers cs k (omega (arith, within))

-- the rows of a world
pub registered_rows : {S : Type 0} (interest : S → Callsite → Interest) (subscribers : List S) (sites : List Callsite) → HasRows (length sites) (length subscribers) (interests_of_sites interest subscribers sites)
registered_rows interest subscribers sites = record {
  rows = length-map sites (interests_in interest subscribers);
  row = λ k within. row_length interest subscribers sites k within;
}

-- the interests of subscribers that took room
registered_alike : {S : Type 0} (interest : S → Callsite → Interest) (old now : List S) → ((c : Callsite) → map (λ s. interest s c) now ≡ map (λ s. interest s c) old) → (sites : List Callsite) → interests_of_sites interest now sites ≡ interests_of_sites interest old sites
registered_alike interest old now alike [] = refl
registered_alike interest old now alike (c ∷ cs) =
    ap (λ (row : List Interest). row ∷ interests_of_sites interest now cs) (alike c) ∙ ap (λ (rows : List (List Interest)). interests_in interest old c ∷ rows) (registered_alike interest old now alike cs)

module _ {S : Type 0} (same : S → S → Type 0) (interest : S → Callsite → Interest) (hint : S → Option LevelFilter) (like : (s t : S) → same s t → (interest t ≡ interest s) × (hint t ≡ hint s)) where
  pub interests_same : (old now : List S) (c : Callsite) → AreSame same old now → interests_in interest now c ≡ interests_in interest old c
  interests_same old now c all = same_values same (λ s. interest s c) (λ s t h. ap (λ (f : Callsite → Interest). f c) (like s t h).0) old now all

  pub registered_same : (old now : List S) (sites : List Callsite) → AreSame same old now → interests_of_sites interest now sites ≡ interests_of_sites interest old sites
  registered_same old now sites all = registered_alike interest old now (λ c. interests_same old now c all) sites

  -- all have answered for all callsites
  pub all_asked : (sites : List Callsite) (old now : List S) (rows : List (List Interest)) (global : Option ℕ) → rows ≡ interests_of_sites interest old sites → AreSame same old now → ((d : ℕ) → global ≡ Some d → d < length old) → IsSoundWorld (length sites) (length now) rows global
  all_asked sites old now rows global is all there = subst (λ (l : List (List Interest)). IsSoundWorld (length sites) (length now) l global) (registered_same old now sites all ∙ sym is) (record {
    has = registered_rows interest now sites;
    there = λ d e. let t = there d e in let n = all.count in omega (arith, t, n);
  })

  -- and for one callsite more
  pub asked_site : (sites : List Callsite) (c : Callsite) (old now : List S) (cached : List (List Interest)) (row : List Interest) (global : Option ℕ) → IsSoundWorld (length sites) (length old) cached global → row ≡ interests_in interest old c → AreSame same old now
      → IsSoundWorld (length (sites ++ c ∷ [])) (length now) (cached ++ row ∷ []) global
  asked_site sites c old now cached row global is so all =
      let n = all.count in
      let long : length row ≡ length now = ap (λ (l : List Interest). length l) so ∙ length-map old (λ s. interest s c) ∙ sym n in
      let count = length-append sites (c ∷ []) in
      record {
        has = record {
          rows = length-append cached (row ∷ []) ∙ ap (λ k. k + 1) is.has.rows ∙ sym count;
          row = λ k within. elim (cases_lt k (length cached)) [
            | inl front ↦ ap (λ (r : List Interest). length r) (get_or_append_left cached (row ∷ []) [] k front) ∙ is.has.row k (let r = is.has.rows in omega (arith, front, r)) ∙ sym n
            | inr past ↦ (
                let last : k ≡ length cached = (let r = is.has.rows in omega (arith, within, count, past, r)) in
                ap (λ (m : ℕ). length (get_or (cached ++ row ∷ []) m [])) last ∙ ap (λ (r : List Interest). length r) (get_or-append_seam cached row [] []) ∙ long)
          ];
        };
        there = λ d e. let t = is.there d e in omega (arith, t, n);
      }

-- one row more
pub row_more : {S : Type 0} (interest : S → Callsite → Interest) (subscribers : List S) (sites : List Callsite) (at : ℕ) (c : Callsite) (row : List Interest) (rows : List (List Interest)) → c ≡ get_or sites at c → at < length sites → row ≡ interests_in interest subscribers c
    → rows ≡ map (interests_in interest subscribers) (take at sites) → rows ++ row ∷ [] ≡ map (interests_in interest subscribers) (take (at + 1) sites)
row_more interest subscribers sites at c row rows is within so front = asked_more (interests_in interest subscribers) sites sites at c row rows refl within is so front

-- the one that was added last, taken off again
pub same_last_of : {S : Type 0} (same : S → S → Type 0) (old more now front : List S) (s last : S) → more ≡ old ++ s ∷ [] → now ≡ front ++ last ∷ [] → AreSame same more now → AreSame same old front × same s last
same_last_of {S} same old more now front s last is so all = same_last same old front s last (subst (λ (l : List S). AreSame same (old ++ s ∷ []) l) so (subst (λ (l : List S). AreSame same l now) is all))

pub within_more : {S : Type 0} (old more : List S) (s : S) (global : Option ℕ) → more ≡ old ++ s ∷ [] → ((d : ℕ) → global ≡ Some d → d < length old) → (d : ℕ) → global ≡ Some d → d < length more
within_more {S} old more s global is there d e = let n = ap (λ (l : List S). length l) is in let k = length-append old (s ∷ []) in let t = there d e in omega (arith, n, k, t)
