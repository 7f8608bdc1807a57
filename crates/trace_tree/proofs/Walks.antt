-- A walk with a stack of children: what was visited and what waits stand in the order of paths.
use Rattle.std.proofs.Common.{zero, suc, true≢false, eqb-true, ◌≡◌, ℕ, ◌==◌, ◌<◌, Bool, true, false, ◌||◌, Option, Some, List, [], ◌∷◌, ◌++◌, sym, refl, ap, ◌∙◌, subst, arith, append_assoc, ⊎_elim}
use Rattle.std.specs.List.{AllByRecursion}
use Rattle.std.proofs.lemmas.List.{append-nil}
use mathlib.Core.Logic.{◌⊎◌, inl, inr}
use Rattle.trace_tree.specs.Paths.{ComesBefore}
use Rattle.trace_tree.specs.Walking.{Ordered, is_among, AreChildren, AreRoots}
use Rattle.trace_tree.proofs.Orders.{IsBeside, below_trans, beside_below, beside_more, siblings, child_below}

module _ {X : Type 0} (P : X → Type 0) where
  pub all_append : (xs ys : List X) → AllByRecursion P xs → AllByRecursion P ys → AllByRecursion P (xs ++ ys)
  all_append [] ys a b = b
  all_append (x ∷ xs) ys a b = (a.0, all_append xs ys a.1 b)

  pub all_left : (xs ys : List X) → AllByRecursion P (xs ++ ys) → AllByRecursion P xs
  all_left [] ys a = tt
  all_left (x ∷ xs) ys a = (a.0, all_left xs ys a.1)

  pub all_right : (xs ys : List X) → AllByRecursion P (xs ++ ys) → AllByRecursion P ys
  all_right [] ys a = a
  all_right (x ∷ xs) ys a = all_right xs ys a.1

  pub all_map : (Q : X → Type 0) → ((x : X) → P x → Q x) → (xs : List X) → AllByRecursion P xs → AllByRecursion Q xs
  all_map Q f [] a = tt
  all_map Q f (x ∷ xs) a = (f x a.0, all_map Q f xs a.1)

module _ {X : Type 0} (R : X → X → Type 0) where
  -- two lists, each ordered, and each of the one before each of the other
  pub ordered_append : (xs ys : List X) → Ordered R xs → Ordered R ys → AllByRecursion (λ x. AllByRecursion (R x) ys) xs → Ordered R (xs ++ ys)
  ordered_append [] ys a b h = b
  ordered_append (x ∷ xs) ys a b h = (all_append (R x) xs ys a.0 h.0, ordered_append xs ys a.1 b h.1)

  -- other elements behind x, in front of the rest
  pub ordered_insert : (es : List X) (x : X) (ks ws : List X) → ((a b c : X) → R a b → R b c → R a c) → Ordered R (es ++ x ∷ ws) → Ordered R ks → AllByRecursion (R x) ks
      → AllByRecursion (λ c. AllByRecursion (R c) ws) ks → Ordered R (es ++ x ∷ (ks ++ ws))
  ordered_insert [] x ks ws trans o k after before = (all_append (R x) ks ws after o.0, ordered_append ks ws k o.1 before)
  ordered_insert (e ∷ es) x ks ws trans o k after before =
      let first : AllByRecursion (R e) (x ∷ ws) = all_right (R e) es (x ∷ ws) o.0 in (
        all_append (R e) es (x ∷ (ks ++ ws)) (all_left (R e) es (x ∷ ws) o.0)
            (first.0, all_append (R e) ks ws (all_map (R x) (R e) (λ c h. trans e x c first.0 h) ks after) first.1),
        ordered_insert es x ks ws trans o.1 k after before,
      )

module _ (n : ℕ) (path : ℕ → List ℕ) (id : ℕ → ℕ) (up : ℕ → Option ℕ) where
  abbrev pub Below : ℕ → ℕ → Type 0
  Below a b = ComesBefore (path a) (path b)

  abbrev pub Beside : ℕ → ℕ → Type 0
  Beside a b = IsBeside (path a) (path b)

  -- done: what was visited. waits: the stack, the next one first
  pub record Walk (done waits : List ℕ) : Type 0 where
    pub sorted : Ordered Below (done ++ waits)
    pub apart : Ordered Beside waits
    pub within : AllByRecursion (λ a. a < n) (done ++ waits)
    pub whole : (k : ℕ) → k < n → (is_among k (done ++ waits) ≡ true) ⊎ ((p : ℕ) × (up k ≡ Some p) × (is_among p done ≡ false))

  kids_ordered : (x : ℕ) (ks : List ℕ) → AllByRecursion (λ c. (c < n) × (path c ≡ path x ++ id c ∷ [])) ks → Ordered (λ a b. id a < id b) ks → Ordered Beside ks
  kids_ordered x [] u o = tt
  kids_ordered x (c ∷ ks) u o = (kids_beside c ks u.0.1 u.1 o.0, kids_ordered x ks u.1 o.1) where
    kids_beside : (c : ℕ) (ks : List ℕ) → path c ≡ path x ++ id c ∷ [] → AllByRecursion (λ c. (c < n) × (path c ≡ path x ++ id c ∷ [])) ks → AllByRecursion (λ b. id c < id b) ks → AllByRecursion (Beside c) ks
    kids_beside c [] e u o = tt
    kids_beside c (b ∷ ks) e u o =
        (subst (λ (p : List ℕ × List ℕ). IsBeside p.0 p.1) (λ i. (sym e i, sym u.0.1 i)) (siblings (path x) (id c) (id b) o.0), kids_beside c ks e u.1 o.1)

  beside_self : (a b : ℕ) → Beside a b → Below a b
  beside_self a b h = subst (λ (p : List ℕ × List ℕ). ComesBefore p.0 p.1) (λ i. (append-nil (path a) i, append-nil (path b) i)) (beside_below (path a) (path b) [] [] h)

  ordered_below : (ks : List ℕ) → Ordered Beside ks → Ordered Below ks
  ordered_below [] o = tt
  ordered_below (k ∷ ks) o = (all_map (Beside k) (Below k) (λ c h. beside_self k c h) ks o.0, ordered_below ks o.1)

  -- a child is beside what its parent is beside
  kid_apart : (x c : ℕ) → path c ≡ path x ++ id c ∷ [] → (ws : List ℕ) → AllByRecursion (Beside x) ws → AllByRecursion (Beside c) ws
  kid_apart x c e [] a = tt
  kid_apart x c e (y ∷ ws) a =
      (subst (λ (p : List ℕ × List ℕ). IsBeside p.0 p.1) (λ i. (sym e i, append-nil (path y) i)) (beside_more (path x) (path y) (id c ∷ []) [] a.0), kid_apart x c e ws a.1)

  kids_apart : (x : ℕ) (ks ws : List ℕ) → AllByRecursion (λ c. (c < n) × (path c ≡ path x ++ id c ∷ [])) ks → AllByRecursion (Beside x) ws → AllByRecursion (λ c. AllByRecursion (Beside c) ws) ks
  kids_apart x ks ws u a = all_map (λ c. (c < n) × (path c ≡ path x ++ id c ∷ [])) (λ c. AllByRecursion (Beside c) ws) (λ c h. kid_apart x c h.1 ws a) ks u

  all_below : (ks ws : List ℕ) → AllByRecursion (λ c. AllByRecursion (Beside c) ws) ks → AllByRecursion (λ c. AllByRecursion (Below c) ws) ks
  all_below ks ws a = all_map (λ c. AllByRecursion (Beside c) ws) (λ c. AllByRecursion (Below c) ws) (λ c h. all_map (Beside c) (Below c) (λ y g. beside_self c y g) ws h) ks a

  kids_after : (x : ℕ) (ks : List ℕ) → AllByRecursion (λ c. (c < n) × (path c ≡ path x ++ id c ∷ [])) ks → AllByRecursion (Below x) ks
  kids_after x ks u = all_map (λ c. (c < n) × (path c ≡ path x ++ id c ∷ [])) (Below x) (λ c h. subst (λ (p : List ℕ). ComesBefore (path x) p) (sym h.1) (child_below (path x) (id c))) ks u

  regroup : (done : List ℕ) (x : ℕ) (ks waits : List ℕ) → (done ++ x ∷ []) ++ (ks ++ waits) ≡ done ++ x ∷ (ks ++ waits)
  regroup done x ks waits = append_assoc done (x ∷ []) (ks ++ waits)

  has_append : (k : ℕ) (xs ys : List ℕ) → is_among k (xs ++ ys) ≡ is_among k xs || is_among k ys
  has_append k [] ys = refl
  has_append k (x ∷ xs) ys = elim (x == k) as (λ b. b || is_among k (xs ++ ys) ≡ (b || is_among k xs) || is_among k ys) [ true ↦ refl | false ↦ has_append k xs ys ]

  or_grows : (a b c d : Bool) → (a || (b || c)) ≡ true → ((a || (b || false)) || (d || c)) ≡ true
  or_grows true b c d h = refl
  or_grows false true c d h = refl
  or_grows false false true true h = refl
  or_grows false false true false h = refl
  or_grows false false false true h = refl
  or_grows false false false false h = h

  or_kid : (a b c : Bool) → ((a || (b || false)) || (true || c)) ≡ true
  or_kid true b c = refl
  or_kid false true c = refl
  or_kid false false c = refl

  step_has : (k : ℕ) (done : List ℕ) (x : ℕ) (ks waits : List ℕ) → is_among k ((done ++ x ∷ []) ++ (ks ++ waits)) ≡ (is_among k done || ((x == k) || false)) || (is_among k ks || is_among k waits)
  step_has k done x ks waits =
      has_append k (done ++ x ∷ []) (ks ++ waits) ∙ ap (λ b. b || is_among k (ks ++ waits)) (has_append k done (x ∷ [])) ∙ ap (λ b. (is_among k done || ((x == k) || false)) || b) (has_append k ks waits)

  step_parent : (k p x : ℕ) (done ks waits : List ℕ) → AreChildren n path id up x ks → k < n → up k ≡ Some p → is_among p done ≡ false → (b : Bool) → (x == p) ≡ b
      → (is_among k ((done ++ x ∷ []) ++ (ks ++ waits)) ≡ true) ⊎ ((q : ℕ) × (up k ≡ Some q) × (is_among q (done ++ x ∷ []) ≡ false))
  step_parent k p x done ks waits c less u not true e =
      let same : x ≡ p = eqb-true x p e in
      let kid : is_among k ks ≡ true = c.whole k less (u ∙ ap Some (sym same)) in
      inl (step_has k done x ks waits ∙ ap (λ b. (is_among k done || ((x == k) || false)) || (b || is_among k waits)) kid ∙ or_kid (is_among k done) (x == k) (is_among k waits))
  step_parent k p x done ks waits c less u not false e =
      inr (p, u, has_append p done (x ∷ []) ∙ ap (λ b. b || ((x == p) || false)) not ∙ ap (λ b. b || false) e)

  step_whole : (k x : ℕ) (done ks waits : List ℕ) → AreChildren n path id up x ks → k < n → (is_among k (done ++ x ∷ waits) ≡ true) ⊎ ((p : ℕ) × (up k ≡ Some p) × (is_among p done ≡ false))
      → (is_among k ((done ++ x ∷ []) ++ (ks ++ waits)) ≡ true) ⊎ ((p : ℕ) × (up k ≡ Some p) × (is_among p (done ++ x ∷ []) ≡ false))
  step_whole k x done ks waits c less h =
      ⊎_elim
      (λ (is : is_among k (done ++ x ∷ waits) ≡ true). inl (step_has k done x ks waits ∙ or_grows (is_among k done) (x == k) (is_among k waits) (is_among k ks) (sym (has_append k done (x ∷ waits)) ∙ is)))
      (λ (p : (p : ℕ) × (up k ≡ Some p) × (is_among p done ≡ false)). step_parent k p.0 x done ks waits c less p.1 p.2 (x == p.0) refl)
      h

  -- the next one is visited, and its children go onto the stack
  pub step : (done : List ℕ) (x : ℕ) (ks waits : List ℕ) → Walk done (x ∷ waits) → AreChildren n path id up x ks → Walk (done ++ x ∷ []) (ks ++ waits)
  step done x ks waits w c =
      let beside = kids_ordered x ks c.under c.ordered in
      let apart = kids_apart x ks waits c.under w.apart.0 in
      let same = sym (regroup done x ks waits) in
      let rest = all_right (λ a. a < n) done (x ∷ waits) w.within in
      record {
        sorted = subst (Ordered Below) same
            (ordered_insert Below done x ks waits (λ a b c. below_trans (path a) (path b) (path c)) w.sorted (ordered_below ks beside) (kids_after x ks c.under) (all_below ks waits apart));
        apart = ordered_append Beside ks waits beside w.apart.1 apart;
        within = subst (AllByRecursion (λ a. a < n)) same
            (all_append (λ a. a < n) done (x ∷ (ks ++ waits)) (all_left (λ a. a < n) done (x ∷ waits) w.within)
            (rest.0, all_append (λ a. a < n) ks waits (all_map (λ c. (c < n) × (path c ≡ path x ++ id c ∷ [])) (λ a. a < n) (λ c h. h.0) ks c.under) rest.1));
        whole = λ k less. step_whole k x done ks waits c less (w.whole k less);
      }

  roots_ordered : (ts : List ℕ) → AllByRecursion (λ c. (c < n) × (path c ≡ id c ∷ [])) ts → Ordered (λ a b. id a < id b) ts → Ordered Beside ts
  roots_ordered [] u o = tt
  roots_ordered (c ∷ ts) u o = (roots_beside c ts u.0.1 u.1 o.0, roots_ordered ts u.1 o.1) where
    roots_beside : (c : ℕ) (ks : List ℕ) → path c ≡ id c ∷ [] → AllByRecursion (λ c. (c < n) × (path c ≡ id c ∷ [])) ks → AllByRecursion (λ b. id c < id b) ks → AllByRecursion (Beside c) ks
    roots_beside c [] e u o = tt
    roots_beside c (b ∷ ks) e u o =
        (subst (λ (p : List ℕ × List ℕ). IsBeside p.0 p.1) (λ i. (sym e i, sym u.0.1 i)) (siblings [] (id c) (id b) o.0), roots_beside c ks e u.1 o.1)

  pub starts : (ts : List ℕ) → AreRoots n path id up ts → Walk [] ts
  starts ts t =
      let beside = roots_ordered ts t.single t.ordered in
      record {
        sorted = ordered_below ts beside;
        apart = beside;
        within = all_map (λ c. (c < n) × (path c ≡ id c ∷ [])) (λ a. a < n) (λ c h. h.0) ts t.single;
        whole = λ k less. ⊎_elim (λ (h : is_among k ts ≡ true). inl h) (λ (p : (p : ℕ) × (up k ≡ Some p)). inr (p.0, p.1, refl)) (t.whole k less);
      }

  -- once nothing waits, all were visited
  pub all_done : (done : List ℕ) → Walk done [] → ((k p : ℕ) → k < n → up k ≡ Some p → (p < n) × (id p < id k)) → (m k : ℕ) → id k < m → k < n → is_among k done ≡ true
  all_done done w down zero k less small = absurd (omega arith)
  all_done done w down (suc m) k less small =
      ⊎_elim
      (λ (h : is_among k (done ++ []) ≡ true). ap (is_among k) (sym (append-nil done)) ∙ h)
      (λ (p : (p : ℕ) × (up k ≡ Some p) × (is_among p done ≡ false)).
      let d = down k p.0 small p.1 in
      let a = d.1 in
      absurd (true≢false (sym (all_done done w down m p.0 (omega arith) d.0) ∙ p.2)))
      (w.whole k small)
