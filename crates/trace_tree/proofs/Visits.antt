-- Nodes that were visited, and nodes that wait, the next one first.
use Rattle.std.proofs.Common.{◌≡◌, ℕ, zero, suc, ◌+◌, ◌-◌, ◌<◌, ◌≤◌, ◌==◌, eqb, Bool, true, false, ◌||◌, Some, List, [], ◌∷◌, ◌++◌, length, map, get_or, sym, refl, ap, ◌∙◌, subst, arith, eqb-true, ne_eqb, true≢false, length-append}
use Rattle.std.specs.List.{AllByRecursion, IsDistinct, list_any}
use Rattle.std.proofs.lemmas.List.{append-nil, map-append}
use Rattle.std.proofs.lemmas.Map.Keys.{IsDistinct-cons}
use Rattle.std.proofs.lemmas.Map.Steps.{length-le_from_distinct_below}
use Rattle.trace_tree.specs.declared.span.TreeSpan.{TreeSpan}
use Rattle.trace_tree.specs.declared.node.Node.{Node}
use Rattle.trace_tree.specs.declared.adjacency.Adjacency.{Adjacency}
use Rattle.trace_tree.specs.Paths.{ComesBefore, path_at, IsForest}
use Rattle.trace_tree.specs.Walking.{node_with, Ordered, is_among, parent_place_from, parent_place_in, parent_place_at, id_at, IsAdjacency}
use Rattle.trace_tree.proofs.Orders.{below_self}
use Rattle.trace_tree.proofs.Parents.{up_within, up_parent, parent_less}
use Rattle.trace_tree.proofs.Walks.{Walk, all_append, all_map, step, starts, all_done}

abbrev pub places : List Node → List ℕ
places ns = map (λ (v : Node). v.place) ns

-- the depth is the length of the path less 1
abbrev pub IsDeep : List TreeSpan → Node → Type 0
IsDeep rs v = suc v.depth ≡ length (path_at rs v.place)

pub record Visits (rs : List TreeSpan) (nodes waits : List Node) : Type 0 where
  pub walk : Walk (length rs) (path_at rs) (id_at rs) (parent_place_at rs) (places nodes) (places waits)
  pub deep : AllByRecursion (IsDeep rs) nodes
  pub deep_waits : AllByRecursion (IsDeep rs) waits
  pub shallow : AllByRecursion (λ (w : Node). w.depth ≤ length nodes) waits

places_of : (depth : ℕ) (ks : List ℕ) → places (map (node_with depth) ks) ≡ ks
places_of depth [] = refl
places_of depth (k ∷ ks) = ap (λ (l : List ℕ). k ∷ l) (places_of depth ks)

places_front : (depth : ℕ) (ks : List ℕ) (waits : List Node) → places (map (node_with depth) ks ++ waits) ≡ ks ++ places waits
places_front depth ks waits = map-append (λ (v : Node). v.place) (map (node_with depth) ks) waits ∙ ap (λ (l : List ℕ). l ++ places waits) (places_of depth ks)

roots_deep : (rs : List TreeSpan) (ts : List ℕ) → AllByRecursion (λ c. (c < length rs) × (path_at rs c ≡ id_at rs c ∷ [])) ts → AllByRecursion (IsDeep rs) (map (node_with 0) ts)
roots_deep rs [] a = tt
roots_deep rs (c ∷ ts) a = (sym (ap length a.0.1), roots_deep rs ts a.1)

roots_shallow : (n : ℕ) (ts : List ℕ) → AllByRecursion (λ (w : Node). w.depth ≤ n) (map (node_with 0) ts)
roots_shallow n [] = tt
roots_shallow n (c ∷ ts) = (omega arith, roots_shallow n ts)

pub visits_start : (rs : List TreeSpan) (f : Adjacency) → IsAdjacency rs f → Visits rs [] (map (node_with 0) f.roots)
visits_start rs f is = record {
  walk = subst (λ (l : List ℕ). Walk (length rs) (path_at rs) (id_at rs) (parent_place_at rs) [] l) (sym (places_of 0 f.roots)) (starts (length rs) (path_at rs) (id_at rs) (parent_place_at rs) f.roots is.roots);
  deep = tt;
  deep_waits = roots_deep rs f.roots is.roots.single;
  shallow = roots_shallow 0 f.roots;
}

kids_deep : (rs : List TreeSpan) (x : Node) (ks : List ℕ) → IsDeep rs x → AllByRecursion (λ c. (c < length rs) × (path_at rs c ≡ path_at rs x.place ++ id_at rs c ∷ [])) ks → AllByRecursion (IsDeep rs) (map (node_with (x.depth + 1)) ks)
kids_deep rs x [] e a = tt
kids_deep rs x (c ∷ ks) e a = (
  (let l = ap length a.0.1 ∙ length-append (path_at rs x.place) (id_at rs c ∷ []) in omega arith),
  kids_deep rs x ks e a.1,
)

kids_shallow : (depth n : ℕ) (ks : List ℕ) → depth ≤ n → AllByRecursion (λ (w : Node). w.depth ≤ n) (map (node_with depth) ks)
kids_shallow depth n [] h = tt
kids_shallow depth n (c ∷ ks) h = (h, kids_shallow depth n ks h)

pub next_within : (rs : List TreeSpan) (nodes : List Node) (x : Node) (waits : List Node) → Visits rs nodes (x ∷ waits) → x.place < length rs
next_within rs nodes x waits v = first (places nodes) v.walk.within where
  first : (ps : List ℕ) → AllByRecursion (λ a. a < length rs) (ps ++ x.place ∷ places waits) → x.place < length rs
  first [] a = a.0
  first (p ∷ ps) a = first ps a.1

pub visits_step : (rs : List TreeSpan) (f : Adjacency) (nodes : List Node) (x : Node) (waits : List Node) → IsAdjacency rs f → Visits rs nodes (x ∷ waits)
    → Visits rs (nodes ++ x ∷ []) (map (node_with (x.depth + 1)) (get_or f.children.items x.place []) ++ waits)
visits_step rs f nodes x waits is v =
    let ks : List ℕ = get_or f.children.items x.place [] in
    let kids = is.children x.place (next_within rs nodes x waits v) in
    let longer : length (nodes ++ x ∷ []) ≡ length nodes + 1 = length-append nodes (x ∷ []) in
    let W : List ℕ × List ℕ → Type 0 = λ p. Walk (length rs) (path_at rs) (id_at rs) (parent_place_at rs) p.0 p.1 in
    record {
      walk = subst W (λ i. (sym (map-append (λ (n : Node). n.place) nodes (x ∷ [])) i, sym (places_front (x.depth + 1) ks waits) i))
          (step (length rs) (path_at rs) (id_at rs) (parent_place_at rs) (places nodes) x.place ks (places waits) v.walk kids);
      deep = all_append (IsDeep rs) nodes (x ∷ []) v.deep (v.deep_waits.0, tt);
      deep_waits = all_append (IsDeep rs) (map (node_with (x.depth + 1)) ks) waits (kids_deep rs x ks v.deep_waits.0 kids.under) v.deep_waits.1;
      shallow = all_append (λ (w : Node). w.depth ≤ length (nodes ++ x ∷ [])) (map (node_with (x.depth + 1)) ks) waits
          (kids_shallow (x.depth + 1) (length (nodes ++ x ∷ [])) ks (let s = v.shallow.0 in omega arith))
          (all_map (λ (w : Node). w.depth ≤ length nodes) (λ (w : Node). w.depth ≤ length (nodes ++ x ∷ [])) (λ w h. omega arith) waits v.shallow.1);
    }

-- ---- no place is visited twice

distinct_of : (rs : List TreeSpan) (ps : List ℕ) → Ordered (λ a b. ComesBefore (path_at rs a) (path_at rs b)) ps → IsDistinct eqb ps
unfolding IsDistinct
distinct_of rs [] o = tt
distinct_of rs (p ∷ ps) o =
    IsDistinct-cons eqb p ps
    (all_map (λ b. ComesBefore (path_at rs p) (path_at rs b)) (λ b. eqb p b ≡ false)
    (λ b h. ne_eqb p b (λ e. below_self (path_at rs p) (subst (λ (q : ℕ). ComesBefore (path_at rs p) (path_at rs q)) (sym e) h))) ps o.0)
    (distinct_of rs ps o.1)

any_at : (n q p : ℕ) (rest : Bool) (b : Bool) → eqb q p ≡ b → p < n → (rest ≡ true → q < n) → (b || rest) ≡ true → q < n
any_at n q p rest true e less h is = let s = eqb-true q p e in omega arith
any_at n q p rest false e less h is = h is

any_below : (n q : ℕ) (ps : List ℕ) → AllByRecursion (λ a. a < n) ps → list_any (eqb q) ps ≡ true → q < n
any_below n q [] a e = absurd (true≢false (sym e))
any_below n q (p ∷ ps) a e = any_at n q p (list_any (eqb q) ps) (eqb q p) refl a.0 (λ h. any_below n q ps a.1 h) e

pub next_fits : (rs : List TreeSpan) (nodes : List Node) (x : Node) (waits : List Node) → Visits rs nodes (x ∷ waits) → length nodes < length rs
next_fits rs nodes x waits v =
    let ps : List ℕ = places nodes ++ x.place ∷ places waits in
    let most : length ps ≤ length rs = length-le_from_distinct_below ps (length rs) (distinct_of rs ps v.walk.sorted) (λ q h. any_below (length rs) q ps v.walk.within h) in
    let long : length ps ≡ length (places nodes) + suc (length (places waits)) = length-append (places nodes) (x.place ∷ places waits) in
    let same : length (places nodes) ≡ length nodes = length_places nodes in
    omega arith
  where
    length_places : (ns : List Node) → length (places ns) ≡ length ns
    length_places [] = refl
    length_places (y ∷ ns) = ap suc (length_places ns)

-- ---- when nothing waits

module _ {X : Type 0} where
  pub all_at : (P : X → Type 0) (xs : List X) → AllByRecursion P xs → (i : ℕ) (d : X) → i < length xs → P (get_or xs i d)
  all_at P [] a i d less = absurd (omega arith)
  all_at P (x ∷ xs) a zero d less = a.0
  all_at P (x ∷ xs) a (suc i) d less = all_at P xs a.1 i d (omega arith)

  pub ordered_at : (R : X → X → Type 0) (xs : List X) → Ordered R xs → (i j : ℕ) (d : X) → i < j → j < length xs → R (get_or xs i d) (get_or xs j d)
  ordered_at R [] o i j d less small = absurd (omega arith)
  ordered_at R (x ∷ xs) o i zero d less small = absurd (omega arith)
  ordered_at R (x ∷ xs) o zero (suc j) d less small = all_at (R x) xs o.0 j d (omega arith)
  ordered_at R (x ∷ xs) o (suc i) (suc j) d less small = ordered_at R xs o.1 i j d (omega arith) (omega arith)

all_places : (P : ℕ → Type 0) (ns : List Node) → AllByRecursion P (places ns) → AllByRecursion (λ (v : Node). P v.place) ns
all_places P [] a = tt
all_places P (x ∷ ns) a = (a.0, all_places P ns a.1)

ordered_places : (R : ℕ → ℕ → Type 0) (ns : List Node) → Ordered R (places ns) → Ordered (λ (a b : Node). R a.place b.place) ns
ordered_places R [] o = tt
ordered_places R (x ∷ ns) o = (all_places (R x.place) ns o.0, ordered_places R ns o.1)

unfoldable Found : ℕ → List Node → Type 0
Found k ns = (i : ℕ) × (i < length ns) × ((d : Node) → (get_or ns i d).place ≡ k)

found_at : (k : ℕ) (x : Node) (ns : List Node) (b : Bool) → (x.place == k) ≡ b → (is_among k (places ns) ≡ true → Found k ns) → (b || is_among k (places ns)) ≡ true → Found k (x ∷ ns)
unfolding Found
found_at k x ns true e rest h = (0, omega arith, λ d. eqb-true x.place k e)
found_at k x ns false e rest h = let f = rest h in (suc f.0, (let l = f.1 in omega arith), λ d. f.2 d)

found : (k : ℕ) (ns : List Node) → is_among k (places ns) ≡ true → Found k ns
unfolding Found
found k [] h = absurd (true≢false (sym h))
found k (x ∷ ns) h = found_at k x ns (x.place == k) refl (λ e. found k ns e) h

-- a tree parent has its place in the list, and its id is less
pub up_is : (all rs : List TreeSpan) (k : ℕ) (d : TreeSpan) → k < length rs → parent_place_in all rs k ≡ parent_place_from 0 all (get_or rs k d)
up_is all [] k d less = absurd (omega arith)
up_is all (r ∷ rs) zero d less = refl
up_is all (r ∷ rs) (suc k) d less = up_is all rs k d (omega arith)

pub id_is : (rs : List TreeSpan) (k : ℕ) (d : TreeSpan) → k < length rs → id_at rs k ≡ (get_or rs k d).span
id_is [] k d less = absurd (omega arith)
id_is (r ∷ rs) zero d less = refl
id_is (r ∷ rs) (suc k) d less = id_is rs k d (omega arith)

down_by : (rs : List TreeSpan) (d : TreeSpan) (k p : ℕ) → k < length rs → parent_place_at rs k ≡ Some p → (p < length rs) × (id_at rs p < id_at rs k)
down_by rs d k p less e =
    let u : parent_place_from 0 rs (get_or rs k d) ≡ Some p = sym (up_is rs rs k d less) ∙ e in
    let w = up_within 0 rs (get_or rs k d) p u in
    let in' : p < length rs = let h = w.1 in omega arith in
    let z : p - 0 ≡ p = omega arith in
    let l = parent_less rs (get_or rs k d) (get_or rs p d) (up_parent 0 rs (get_or rs k d) p d u ∙ ap (λ m. Some (get_or rs m d)) z) in
    let a = id_is rs k d less in
    let b = id_is rs p d in' in
    (in', omega arith)

down : (rs : List TreeSpan) (k p : ℕ) → k < length rs → parent_place_at rs k ≡ Some p → (p < length rs) × (id_at rs p < id_at rs k)
down [] k p less e = absurd (omega arith)
down (r ∷ rs) k p less e = down_by (r ∷ rs) r k p less e

pub visits_end : (rs : List TreeSpan) (nodes : List Node) → Visits rs nodes [] → IsForest rs nodes
unfolding Found
visits_end rs nodes v =
    let R : ℕ → ℕ → Type 0 = λ a b. ComesBefore (path_at rs a) (path_at rs b) in
    let sorted : Ordered R (places nodes) = subst (Ordered R) (append-nil (places nodes)) v.walk.sorted in
    let within : AllByRecursion (λ a. a < length rs) (places nodes) = subst (AllByRecursion (λ a. a < length rs)) (append-nil (places nodes)) v.walk.within in
    record {
      sorted = λ i j d less small. ordered_at (λ (a b : Node). R a.place b.place) nodes (ordered_places R nodes sorted) i j d less small;
      within = λ i d less. all_at (λ (n : Node). n.place < length rs) nodes (all_places (λ a. a < length rs) nodes within) i d less;
      whole = λ k less. found k nodes (all_done (length rs) (path_at rs) (id_at rs) (parent_place_at rs) (places nodes) v.walk (down rs) (suc (id_at rs k)) k (omega arith) less);
      depths = λ i d less. all_at (IsDeep rs) nodes v.deep i d less;
    }
