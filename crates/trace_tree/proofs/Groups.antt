-- Places put under their tree parents: each table is a filter of the places so far.
use Rattle.std.proofs.Common.{◌≡◌, ◌≢◌, ℕ, zero, suc, ◌-◌, ◌<◌, ◌⊎◌, ◌==◌, ◌||◌, Bool, true, false, cond, Option, Some, None, List, [], ◌∷◌, ◌++◌, length, get_or, set, filter, refl, ap, sym, ◌∙◌, subst, arith, eq-eqb, ne_eqb, eqb-true, true≢false, length-set, ⊎_elim}
use mathlib.Core.Logic.{inl, inr}
use Rattle.std.specs.List.{AllByRecursion}
use Rattle.std.specs.Ordering.{nat_cmp}
use Rattle.std.specs.BTreeMap.{BTreeMap, get, IsOrdered, is_at}
use Rattle.std.specs.Map.{keys_of, values_of, lookup}
use Rattle.std.proofs.lemmas.Bool.{cases_eq}
use Rattle.std.proofs.lemmas.List.{append-nil, get_or-set_same, get_or-set_other}
use Rattle.std.proofs.lemmas.List.Elements.{filter-append}
use Rattle.std.proofs.lemmas.Map.Keys.{below_from_sorted}
use Rattle.trace_tree.specs.declared.span.TreeSpan.{TreeSpan}
use Rattle.trace_tree.specs.declared.adjacency.Adjacency.{Adjacency}
use Rattle.trace_tree.specs.Paths.{path_at, tree_parent}
use Rattle.trace_tree.specs.Walking.{Ordered, is_among, parent_place_from, parent_place_at, id_at, AreChildren, AreRoots, IsAdjacency, IsIndex}
use Rattle.trace_tree.proofs.Parents.{up_within, up_parent, up_top, path_under, path_top, path_of_place}
use Rattle.trace_tree.proofs.Visits.{up_is, id_is}

-- ---- filters

module _ {X : Type 0} (p : X → Bool) where
  one_all : (Q : X → Type 0) (b : Bool) (x : X) (xs : List X) → (b ≡ true → Q x) → AllByRecursion Q xs → AllByRecursion Q (cond b (x ∷ xs) xs)
  one_all Q true x xs q a = (q refl, a)
  one_all Q false x xs q a = a

  pub filter_all : (P Q : X → Type 0) → ((x : X) → P x → p x ≡ true → Q x) → (xs : List X) → AllByRecursion P xs → AllByRecursion Q (filter p xs)
  filter_all P Q f [] a = tt
  filter_all P Q f (x ∷ xs) a = one_all Q (p x) x (filter p xs) (λ e. f x a.0 e) (filter_all P Q f xs a.1)

  one_ordered : (R : X → X → Type 0) (b : Bool) (x : X) (xs : List X) → AllByRecursion (R x) xs → Ordered R xs → Ordered R (cond b (x ∷ xs) xs)
  one_ordered R true x xs a o = (a, o)
  one_ordered R false x xs a o = o

  pub filter_ordered : (R : X → X → Type 0) (xs : List X) → Ordered R xs → Ordered R (filter p xs)
  filter_ordered R [] o = tt
  filter_ordered R (x ∷ xs) o = one_ordered R (p x) x (filter p xs) (filter_all (R x) (R x) (λ y r e. r) xs o.0) (filter_ordered R xs o.1)

pub or_true : (b : Bool) → (b || true) ≡ true
or_true true = refl
or_true false = refl

kept : (p : ℕ → Bool) (k x : ℕ) (c : Bool) (b : Bool) (xs ys : List ℕ) → (x == k) ≡ b → p x ≡ c → p k ≡ true → (is_among k xs ≡ true → is_among k ys ≡ true) → (b || is_among k xs) ≡ true → is_among k (cond c (x ∷ ys) ys) ≡ true
kept p k x true true xs ys e g h rest is = ap (λ b. b || is_among k ys) e
kept p k x false true xs ys e g h rest is = let s : x ≡ k = eqb-true x k e in absurd (true≢false (sym h ∙ ap p (sym s) ∙ g))
kept p k x true false xs ys e g h rest is = ap (λ b. (x == k) || b) (rest is) ∙ or_true (x == k)
kept p k x false false xs ys e g h rest is = rest is

filter_has : (p : ℕ → Bool) (k : ℕ) → p k ≡ true → (xs : List ℕ) → is_among k xs ≡ true → is_among k (filter p xs) ≡ true
filter_has p k h [] is = is
filter_has p k h (x ∷ xs) is = kept p k x (p x) (x == k) xs (filter p xs) refl refl h (λ e. filter_has p k h xs e) is

-- ---- a place goes to the roots or under its tree parent

abbrev pub is_none_up : Option ℕ → Bool
is_none_up None = true
is_none_up (Some q) = false

abbrev pub is_up : ℕ → Option ℕ → Bool
is_up p None = false
is_up p (Some q) = q == p

-- the tables after the places ps
pub record Grouped (rs : List TreeSpan) (roots : List ℕ) (under : List (List ℕ)) (ps : List ℕ) : Type 0 where
  pub size : length under ≡ length rs
  pub roots_are : roots ≡ filter (λ k. is_none_up (parent_place_at rs k)) ps
  pub kids : (p : ℕ) → p < length rs → get_or under p [] ≡ filter (λ k. is_up p (parent_place_at rs k)) ps

pub grouped_start : (rs : List TreeSpan) (under : List (List ℕ)) → length under ≡ length rs → ((p : ℕ) → get_or under p [] ≡ []) → Grouped rs [] under []
grouped_start rs under size empty = record { size = size; roots_are = refl; kids = λ p less. empty p }

-- an empty table more
pub empty_more : (under : List (List ℕ)) (p : ℕ) → get_or under p [] ≡ [] → get_or (under ++ [] ∷ []) p [] ≡ []
empty_more [] zero e = refl
empty_more [] (suc p) e = refl
empty_more (ks ∷ under) zero e = e
empty_more (ks ∷ under) (suc p) e = empty_more under p e

module _ (p : ℕ → Bool) (ps : List ℕ) (x : ℕ) where
  filter_with : p x ≡ true → filter p ps ++ x ∷ [] ≡ filter p (ps ++ x ∷ [])
  filter_with e = ap (λ b. filter p ps ++ cond b (x ∷ []) []) (sym e) ∙ sym (filter-append p ps (x ∷ []))

  filter_without : p x ≡ false → filter p ps ≡ filter p (ps ++ x ∷ [])
  filter_without e = sym (append-nil (filter p ps)) ∙ ap (λ b. filter p ps ++ cond b (x ∷ []) []) (sym e) ∙ sym (filter-append p ps (x ∷ []))

pub grouped_root : (rs : List TreeSpan) (roots : List ℕ) (under : List (List ℕ)) (ps : List ℕ) (x : ℕ) → Grouped rs roots under ps → parent_place_at rs x ≡ None → Grouped rs (roots ++ x ∷ []) under (ps ++ x ∷ [])
grouped_root rs roots under ps x g e = record {
  size = g.size;
  roots_are = ap (λ (l : List ℕ). l ++ x ∷ []) g.roots_are ∙ filter_with (λ k. is_none_up (parent_place_at rs k)) ps x (ap is_none_up e);
  kids = λ p less. g.kids p less ∙ filter_without (λ k. is_up p (parent_place_at rs k)) ps x (ap (is_up p) e);
}

pub grouped_under : (rs : List TreeSpan) (roots : List ℕ) (under : List (List ℕ)) (ps : List ℕ) (x q : ℕ) → Grouped rs roots under ps → parent_place_at rs x ≡ Some q → q < length rs
    → Grouped rs roots (set under q (get_or under q [] ++ x ∷ [])) (ps ++ x ∷ [])
grouped_under rs roots under ps x q g e less = record {
  size = length-set under q (get_or under q [] ++ x ∷ []) ∙ g.size;
  roots_are = g.roots_are ∙ filter_without (λ k. is_none_up (parent_place_at rs k)) ps x (ap is_none_up e);
  kids = λ p small. ⊎_elim
      (λ (h : p ≡ q).
      ap (λ n. get_or (set under q (get_or under q [] ++ x ∷ [])) n []) h
      ∙ get_or-set_same under q (get_or under q [] ++ x ∷ []) [] (let s = g.size in omega arith)
      ∙ ap (λ n. get_or under n [] ++ x ∷ []) (sym h)
      ∙ ap (λ (l : List ℕ). l ++ x ∷ []) (g.kids p small)
      ∙ filter_with (λ k. is_up p (parent_place_at rs k)) ps x (ap (is_up p) e ∙ eq-eqb q p (sym h)))
      (λ (h : p ≢ q).
      get_or-set_other under q p (get_or under q [] ++ x ∷ []) [] h
      ∙ g.kids p small
      ∙ filter_without (λ k. is_up p (parent_place_at rs k)) ps x (ap (is_up p) e ∙ ne_eqb q p (λ z. h (sym z))))
      (cases_eq p q);
}

-- ---- paths by places

under_by : (rs : List TreeSpan) (d : TreeSpan) (k x : ℕ) → k < length rs → parent_place_at rs k ≡ Some x → path_at rs k ≡ path_at rs x ++ id_at rs k ∷ []
under_by rs d k x less e =
    let u : parent_place_from 0 rs (get_or rs k d) ≡ Some x = sym (up_is rs rs k d less) ∙ e in
    let w = up_within 0 rs (get_or rs k d) x u in
    let z : x - 0 ≡ x = omega arith in
    let t : tree_parent rs (get_or rs k d) ≡ Some (get_or rs x d) = up_parent 0 rs (get_or rs k d) x d u ∙ ap (λ m. Some (get_or rs m d)) z in
    path_of_place rs rs k d less ∙ path_under rs (get_or rs k d) (get_or rs x d) t
    ∙ ap (λ (l : List ℕ). l ++ (get_or rs k d).span ∷ []) (sym (path_of_place rs rs x d (let h = w.1 in omega arith)))
    ∙ ap (λ n. path_at rs x ++ n ∷ []) (sym (id_is rs k d less))

under_at : (rs : List TreeSpan) (k x : ℕ) → k < length rs → parent_place_at rs k ≡ Some x → path_at rs k ≡ path_at rs x ++ id_at rs k ∷ []
under_at [] k x less e = absurd (omega arith)
under_at (r ∷ rs) k x less e = under_by (r ∷ rs) r k x less e

top_by : (rs : List TreeSpan) (d : TreeSpan) (k : ℕ) → k < length rs → parent_place_at rs k ≡ None → path_at rs k ≡ id_at rs k ∷ []
top_by rs d k less e =
    let u : parent_place_from 0 rs (get_or rs k d) ≡ None = sym (up_is rs rs k d less) ∙ e in
    path_of_place rs rs k d less ∙ path_top rs (get_or rs k d) (up_top 0 rs (get_or rs k d) u) ∙ ap (λ n. n ∷ []) (sym (id_is rs k d less))

top_at : (rs : List TreeSpan) (k : ℕ) → k < length rs → parent_place_at rs k ≡ None → path_at rs k ≡ id_at rs k ∷ []
top_at [] k less e = absurd (omega arith)
top_at (r ∷ rs) k less e = top_by (r ∷ rs) r k less e

is_none_from : (o : Option ℕ) → is_none_up o ≡ true → o ≡ None
is_none_from None e = refl
is_none_from (Some q) e = absurd (true≢false (sym e))

is_up_from : (p : ℕ) (o : Option ℕ) → is_up p o ≡ true → o ≡ Some p
is_up_from p None e = absurd (true≢false (sym e))
is_up_from p (Some q) e = ap (λ n. Some n) (eqb-true q p e)

-- ---- all places, in the order of their ids

pub record Places (rs : List TreeSpan) (ps : List ℕ) : Type 0 where
  pub within : AllByRecursion (λ k. k < length rs) ps
  pub ordered : Ordered (λ a b. id_at rs a < id_at rs b) ps
  pub whole : (k : ℕ) → k < length rs → is_among k ps ≡ true

top_or : (rs : List TreeSpan) (ps : List ℕ) (k : ℕ) (o : Option ℕ) → parent_place_at rs k ≡ o → is_among k ps ≡ true → (is_among k (filter (λ j. is_none_up (parent_place_at rs j)) ps) ≡ true) ⊎ ((p : ℕ) × (parent_place_at rs k ≡ Some p))
top_or rs ps k None e h = inl (filter_has (λ j. is_none_up (parent_place_at rs j)) k (ap is_none_up e) ps h)
top_or rs ps k (Some p) e h = inr (p, e)

pub roots_from : (rs : List TreeSpan) (ps : List ℕ) → Places rs ps → AreRoots (length rs) (path_at rs) (id_at rs) (parent_place_at rs) (filter (λ k. is_none_up (parent_place_at rs k)) ps)
roots_from rs ps a = record {
  single = filter_all (λ k. is_none_up (parent_place_at rs k)) (λ k. k < length rs) (λ c. (c < length rs) × (path_at rs c ≡ id_at rs c ∷ []))
      (λ k less e. (less, top_at rs k less (is_none_from (parent_place_at rs k) e))) ps a.within;
  ordered = filter_ordered (λ k. is_none_up (parent_place_at rs k)) (λ a b. id_at rs a < id_at rs b) ps a.ordered;
  whole = λ k less. top_or rs ps k (parent_place_at rs k) refl (a.whole k less);
}

pub kids_from : (rs : List TreeSpan) (ps : List ℕ) (x : ℕ) → Places rs ps → AreChildren (length rs) (path_at rs) (id_at rs) (parent_place_at rs) x (filter (λ k. is_up x (parent_place_at rs k)) ps)
kids_from rs ps x a = record {
  under = filter_all (λ k. is_up x (parent_place_at rs k)) (λ k. k < length rs) (λ c. (c < length rs) × (path_at rs c ≡ path_at rs x ++ id_at rs c ∷ []))
      (λ k less e. (less, under_at rs k x less (is_up_from x (parent_place_at rs k) e))) ps a.within;
  ordered = filter_ordered (λ k. is_up x (parent_place_at rs k)) (λ a b. id_at rs a < id_at rs b) ps a.ordered;
  whole = λ k less e. filter_has (λ j. is_up x (parent_place_at rs j)) k (ap (is_up x) e ∙ eq-eqb x x refl) ps (a.whole k less);
}

pub grouped_end : (rs : List TreeSpan) (f : Adjacency) (ps : List ℕ) → Grouped rs f.roots f.children.items ps → Places rs ps → IsAdjacency rs f
grouped_end rs f ps g a = record {
  size = g.size;
  roots = subst (λ (l : List ℕ). AreRoots (length rs) (path_at rs) (id_at rs) (parent_place_at rs) l) (sym g.roots_are) (roots_from rs ps a);
  children = λ p less. subst (λ (l : List ℕ). AreChildren (length rs) (path_at rs) (id_at rs) (parent_place_at rs) p l) (sym (g.kids p less)) (kids_from rs ps p a);
}

-- ---- the places of an index

-- each entry's place is that of the record with its id
abbrev Sound : List TreeSpan → ℕ × ℕ → Type 0
Sound rs e = (e.1 < length rs) × (id_at rs e.1 ≡ e.0)

entries_within : (rs : List TreeSpan) (es : List (ℕ × ℕ)) → AllByRecursion (Sound rs) es → AllByRecursion (λ k. k < length rs) (values_of es)
entries_within rs [] a = tt
entries_within rs (e ∷ es) a = (a.0.0, entries_within rs es a.1)

entries_above : (rs : List TreeSpan) (q : ℕ) (es : List (ℕ × ℕ)) → AllByRecursion (Sound rs) es → ((i : ℕ) → i < length (keys_of es) → q < get_or (keys_of es) i 0) → AllByRecursion (λ k. q < id_at rs k) (values_of es)
entries_above rs q [] a h = tt
entries_above rs q (e ∷ es) a h = ((let s = a.0.1 in let l = h 0 (omega arith) in omega arith), entries_above rs q es a.1 (λ i less. h (suc i) (omega arith)))

entries_ordered : (rs : List TreeSpan) (es : List (ℕ × ℕ)) → AllByRecursion (Sound rs) es → ((i j : ℕ) → i < j → j < length (keys_of es) → get_or (keys_of es) i 0 < get_or (keys_of es) j 0)
    → Ordered (λ a b. id_at rs a < id_at rs b) (values_of es)
entries_ordered rs [] a h = tt
entries_ordered rs (e ∷ es) a h = (
  entries_above rs (id_at rs e.1) es a.1 (λ i less. let s = a.0.1 in let l = h 0 (suc i) (omega arith) (omega arith) in omega arith),
  entries_ordered rs es a.1 (λ i j l m. h (suc i) (suc j) (omega arith) (omega arith)),
)

found_at : (k v : ℕ) (b : Bool) (o : Option ℕ) (vs : List ℕ) → (o ≡ Some k → is_among k vs ≡ true) → cond b (Some v) o ≡ Some k → is_among k (v ∷ vs) ≡ true
found_at k v true o vs rest e = let s : v ≡ k = cc in ap (λ b. b || is_among k vs) (eq-eqb v k s)
found_at k v false o vs rest e = ap (λ b. (v == k) || b) (rest e) ∙ or_true (v == k)

lookup_has : (test : ℕ → Bool) (k : ℕ) (es : List (ℕ × ℕ)) → lookup test es ≡ Some k → is_among k (values_of es) ≡ true
lookup_has test k [] e = cc
lookup_has test k (x ∷ es) e = found_at k x.1 (test x.0) (lookup test es) (values_of es) (λ h. lookup_has test k es h) e

sound_all : (rs : List TreeSpan) (m : BTreeMap ℕ ℕ) (es : List (ℕ × ℕ)) → IsIndex rs (length rs) m → AllByRecursion (λ e. get nat_cmp m e.0 ≡ Some e.1) es → AllByRecursion (Sound rs) es
sound_all rs m [] x a = tt
sound_all rs m (e ∷ es) x a = (x.sound e.0 e.1 a.0, sound_all rs m es x a.1)

pub places_from : (rs : List TreeSpan) (m : BTreeMap ℕ ℕ) → IsIndex rs (length rs) m → IsOrdered nat_cmp m → AllByRecursion (λ e. get nat_cmp m e.0 ≡ Some e.1) m.entries → Places rs (values_of m.entries)
places_from rs m x sorted found =
    let s = sound_all rs m m.entries x found in
    record {
      within = entries_within rs m.entries s;
      ordered = entries_ordered rs m.entries s (λ i j l h. below_from_sorted (keys_of m.entries) i j 0 sorted l h);
      whole = λ k less. lookup_has (is_at (nat_cmp (id_at rs k))) k m.entries (x.whole k less);
    }
