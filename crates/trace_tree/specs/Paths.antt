-- The tree parents of finished spans, their paths, and the forest, which is the spans in the order of their paths.
use Rattle.std.specs.Prelude.{◌≡◌, ℕ, zero, suc, ◌<◌, ◌⊎◌, ◌==◌, ◌&&◌, ltb, Bool, cond, List, [], ◌∷◌, ◌++◌, length, Option, Some, None, get_or}
use Rattle.trace_tree.specs.declared.span.TreeSpan.{TreeSpan}
use Rattle.trace_tree.specs.declared.node.Node.{Node}

-- whether a span is of the same trace and has the span id that is the other's parent, and that id is less than the other's own
abbrev pub is_parent_of : TreeSpan → TreeSpan → Bool
is_parent_of r q = (q.trace == r.trace) && (q.span == r.parent) && ltb r.parent r.span

-- the tree parent among some spans
abbrev pub tree_parent : List TreeSpan → TreeSpan → Option TreeSpan
tree_parent [] r = None
tree_parent (q ∷ qs) r = cond (is_parent_of r q) (Some q) (tree_parent qs r)

-- the path by a function of the tree parent, if there is one
abbrev pub path_over : (TreeSpan → List ℕ) → Option TreeSpan → List ℕ
path_over f None = []
path_over f (Some q) = f q

-- The path of a span, up to so many steps. A parent's id is less, so that as many as the span's id are enough
abbrev pub path_within : ℕ → List TreeSpan → TreeSpan → List ℕ
path_within zero rs r = r.span ∷ []
path_within (suc n) rs r = path_over (path_within n rs) (tree_parent rs r) ++ r.span ∷ []

-- its tree parent's path and then its own span id
abbrev pub path : List TreeSpan → TreeSpan → List ℕ
path rs r = path_within r.span rs r

-- the path of the span at a place of the rest of a list
abbrev pub path_in : List TreeSpan → List TreeSpan → ℕ → List ℕ
path_in all [] k = []
path_in all (r ∷ rs) zero = path all r
path_in all (r ∷ rs) (suc k) = path_in all rs k

-- the path of the span at a place
abbrev pub path_at : List TreeSpan → ℕ → List ℕ
path_at rs k = path_in rs rs k

-- one list of numbers comes before another; a prefix first
abbrev pub ComesBefore : List ℕ → List ℕ → Type 0
ComesBefore [] [] = ⊥
ComesBefore [] (y ∷ ys) = Unit {0}
ComesBefore (x ∷ xs) [] = ⊥
ComesBefore (x ∷ xs) (y ∷ ys) = (x < y) ⊎ ((x ≡ y) × ComesBefore xs ys)

-- the ids of spans differ
abbrev pub AreDistinct : List TreeSpan → Type 0
AreDistinct rs = (i j : ℕ) (d : TreeSpan) → i < j → j < length rs → (get_or rs i d).span ≡ (get_or rs j d).span → ⊥

-- all spans, in the order of their paths, each with how deep it stands
pub record IsForest (rs : List TreeSpan) (nodes : List Node) : Type 0 where
  pub sorted : (i j : ℕ) (d : Node) → i < j → j < length nodes → ComesBefore (path_at rs (get_or nodes i d).place) (path_at rs (get_or nodes j d).place)
  pub within : (i : ℕ) (d : Node) → i < length nodes → (get_or nodes i d).place < length rs
  pub whole : (k : ℕ) → k < length rs → (i : ℕ) × (i < length nodes) × ((d : Node) → (get_or nodes i d).place ≡ k)
  pub depths : (i : ℕ) (d : Node) → i < length nodes → suc (get_or nodes i d).depth ≡ length (path_at rs (get_or nodes i d).place)
