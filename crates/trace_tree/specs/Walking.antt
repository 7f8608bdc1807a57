-- What a walk over all spans needs: which stand under which, in the order of their ids.
use Rattle.std.specs.Prelude.{◌≡◌, ℕ, zero, suc, ◌<◌, ◌⊎◌, ◌==◌, Bool, true, cond, Option, Some, None, List, [], ◌∷◌, ◌++◌, length, get_or}
use Rattle.std.specs.List.{AllByRecursion, list_any}
use Rattle.std.specs.Ordering.{nat_cmp}
use Rattle.std.specs.BTreeMap.{BTreeMap, get}
use Rattle.trace_tree.specs.declared.span.TreeSpan.{TreeSpan}
use Rattle.trace_tree.specs.declared.node.Node.{Node}
use Rattle.trace_tree.specs.declared.adjacency.Adjacency.{Adjacency}
use Rattle.trace_tree.specs.Paths.{is_parent_of, path_at}

abbrev pub node_with : ℕ → ℕ → Node
node_with depth place = record { place = place; depth = depth }

-- each element and each later one
abbrev pub Ordered : {X : Type 0} → (X → X → Type 0) → List X → Type 0
Ordered R [] = Unit {0}
Ordered R (x ∷ xs) = AllByRecursion (R x) xs × Ordered R xs

abbrev pub is_among : ℕ → List ℕ → Bool
is_among k xs = list_any (λ x. x == k) xs

-- the place of the tree parent, in a list that begins at the place i
abbrev pub parent_place_from : ℕ → List TreeSpan → TreeSpan → Option ℕ
parent_place_from i [] r = None
parent_place_from i (q ∷ qs) r = cond (is_parent_of r q) (Some i) (parent_place_from (suc i) qs r)

abbrev pub parent_place_in : List TreeSpan → List TreeSpan → ℕ → Option ℕ
parent_place_in all [] k = None
parent_place_in all (r ∷ rs) zero = parent_place_from 0 all r
parent_place_in all (r ∷ rs) (suc k) = parent_place_in all rs k

-- the place of the tree parent of the span at a place
abbrev pub parent_place_at : List TreeSpan → ℕ → Option ℕ
parent_place_at rs k = parent_place_in rs rs k

-- the id of the span at a place
abbrev pub id_at : List TreeSpan → ℕ → ℕ
id_at [] k = 0
id_at (r ∷ rs) zero = r.span
id_at (r ∷ rs) (suc k) = id_at rs k

module _ (n : ℕ) (path : ℕ → List ℕ) (id : ℕ → ℕ) (up : ℕ → Option ℕ) where
  -- the children of a place, in the order of their ids
  pub record AreChildren (x : ℕ) (ks : List ℕ) : Type 0 where
    pub under : AllByRecursion (λ c. (c < n) × (path c ≡ path x ++ id c ∷ [])) ks
    pub ordered : Ordered (λ a b. id a < id b) ks
    pub whole : (k : ℕ) → k < n → up k ≡ Some x → is_among k ks ≡ true

  -- the places without a tree parent, in the order of their ids
  pub record AreRoots (ts : List ℕ) : Type 0 where
    pub single : AllByRecursion (λ c. (c < n) × (path c ≡ id c ∷ [])) ts
    pub ordered : Ordered (λ a b. id a < id b) ts
    pub whole : (k : ℕ) → k < n → (is_among k ts ≡ true) ⊎ ((p : ℕ) × (up k ≡ Some p))

pub record IsAdjacency (rs : List TreeSpan) (f : Adjacency) : Type 0 where
  pub size : length f.children.items ≡ length rs
  pub roots : AreRoots (length rs) (path_at rs) (id_at rs) (parent_place_at rs) f.roots
  pub children : (p : ℕ) → p < length rs → AreChildren (length rs) (path_at rs) (id_at rs) (parent_place_at rs) p (get_or f.children.items p [])

-- the places of the first spans by their ids
pub record IsIndex (rs : List TreeSpan) (n : ℕ) (m : BTreeMap ℕ ℕ) : Type 0 where
  pub sound : (q p : ℕ) → get nat_cmp m q ≡ Some p → (p < n) × (id_at rs p ≡ q)
  pub whole : (p : ℕ) → p < n → get nat_cmp m (id_at rs p) ≡ Some p
