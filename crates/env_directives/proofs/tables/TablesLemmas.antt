-- Directives that are added in turn make the one table that keeps the last of each class.
use Rattle.std.specs.declared.cmp.Ordering.{Ordering}
use Rattle.std.specs.declared.cmp.Ordering.TheVariants.{Less, Equal, Greater}
use Rattle.env_directives.proofs.Common.{ordering_reverse, AllByRecursion, IsStrictlySortedBy, IsTotalOrder, Equal-is, tied_back, tied_itself, alike_right, reverse-append, map-append, sorted_head, sorted_tail, LevelFilter, greatest_verbosity, DirectiveTable, with_item_in_order, with_added, with_all_added, empty_table, more_verbose, greatest_of, IsTableOf}
use Rattle.std.specs.Ordering.{is_eq}
use Rattle.std.specs.List.{find}
use borrow.Author.Tests.{leb-true, leb-false}
use Rattle.std.proofs.Common.{refl, sym, ◌∙◌, ap, subst, arith, append_assoc, append-nil, ◌≡◌, ℕ, max, nat_le, List, [], ◌∷◌, ◌++◌, map, Bool, true, false, cond, None, Some, is_some}
use Rattle.std.proofs.lemmas.Bool.{true≢false}
use Rattle.env_directives.proofs.tables.PlacesLemmas.{sorted_placed, at_less, at_equal, at_greater, greater, implied}

more_verbose_max : (f g : LevelFilter) → greatest_verbosity (more_verbose f g) ≡ max (greatest_verbosity f) (greatest_verbosity g)
more_verbose_max f g = by (nat_le (greatest_verbosity g) (greatest_verbosity f)) refl
  where
    by : (b : Bool) → nat_le (greatest_verbosity g) (greatest_verbosity f) ≡ b
        → greatest_verbosity (more_verbose f g) ≡ max (greatest_verbosity f) (greatest_verbosity g)
    by true is = rw is (omega (arith, leb-true _ _ is))
    by false is = rw is (omega (arith, leb-false _ _ is))

greatest_push : (ns : List ℕ) (n : ℕ) → greatest_of (ns ++ n ∷ []) ≡ max (greatest_of ns) n
greatest_push [] n = omega arith
greatest_push (m ∷ ns) n = omega (arith, greatest_push ns n)

-- two tests one after the other, of which the second answers xs the first, or never both hold
second_test : {X : Type 0} (b c : Bool) (o p q : X) → c ≡ b → cond b o q ≡ cond b o (cond c p q)
second_test true c o p q same = refl
second_test false c o p q same = rw same refl

either_test : {X : Type 0} (b c : Bool) (o p q : X) → (b ≡ true → c ≡ true → ⊥) → cond c p (cond b o q) ≡ cond b o (cond c p q)
either_test true true o p q apart = absurd (apart refl refl)
either_test true false o p q apart = refl
either_test false true o p q apart = refl
either_test false false o p q apart = refl

module _ {T : Type 0} {cmp : T → T → Ordering} (order : IsTotalOrder cmp) where
  -- a directive that is equal by the order
  abbrev like : T → T → Bool
  like x e = is_eq (cmp e x)

  apart : (x d e : T) → cmp d e ≡ Greater → like x d ≡ true → like x e ≡ true → ⊥
  apart x d e is h k =
      let both : cmp d e ≡ Equal = sym (alike_right order x e d (tied_back order e x ((Equal-is (cmp e x)).0 k))) ∙ (Equal-is (cmp d x)).0 h in
      true≢false (sym (ap is_eq both) ∙ ap is_eq is)

  -- what is found once one directive more has its place
  find_placed : (x d : T) (es : List T) → find (like x) (with_item_in_order cmp d es) ≡ cond (like x d) (Some d) (find (like x) es)
  find_placed x d [] = refl
  find_placed x d (e ∷ es) = by (cmp d e) refl (find_placed x d es)
    where
      by : (r : Ordering) → cmp d e ≡ r → find (like x) (with_item_in_order cmp d es) ≡ cond (like x d) (Some d) (find (like x) es)
          → find (like x) (with_item_in_order cmp d (e ∷ es)) ≡ cond (like x d) (Some d) (find (like x) (e ∷ es))
      by Less is rest = ap (find (like x)) (at_less order d e es is)
      by Equal is rest = ap (find (like x)) (at_equal order d e es is)
          ∙ second_test (like x d) (like x e) (Some d) (Some e) (find (like x) es) (ap is_eq (sym (order.congr d e x is)))
      by Greater is rest = ap (find (like x)) (at_greater order d e es is) ∙ ap (cond (like x e) (Some e)) rest
          ∙ either_test (like x d) (like x e) (Some d) (Some e) (find (like x) es) (apart x d e is)

  no_directives : (level : T → LevelFilter) → IsTableOf cmp level [] empty_table
  unfolding IsStrictlySortedBy
  no_directives level = record { in_order = tt; lasts = λ x. refl; greatest = refl }

  one_more : (level : T → LevelFilter) (ds : List T) (d : T) (t : DirectiveTable T) → IsTableOf cmp level ds t → IsTableOf cmp level (ds ++ d ∷ []) (with_added cmp level d t)
  one_more level ds d t h = record {
    in_order = sorted_placed order d t.directives h.in_order;
    lasts = λ x. find_placed x d t.directives ∙ ap (cond (like x d) (Some d)) (h.lasts x) ∙ sym (ap (find (like x)) (reverse-append ds (d ∷ [])));
    greatest = more_verbose_max t.greatest (level d) ∙ ap (λ n. max n (greatest_verbosity (level d))) h.greatest
        ∙ sym (greatest_push (map (λ e. greatest_verbosity (level e)) ds) (greatest_verbosity (level d)))
        ∙ sym (ap greatest_of (map-append (λ e. greatest_verbosity (level e)) ds (d ∷ [])));
  }

  more_of_them : (level : T → LevelFilter) (ds done : List T) (t : DirectiveTable T) → IsTableOf cmp level done t
      → IsTableOf cmp level (done ++ ds) (with_all_added cmp level ds t)
  more_of_them level [] done t h = subst (λ all. IsTableOf cmp level all t) (sym (append-nil done)) h
  more_of_them level (d ∷ ds) done t h =
      subst (λ all. IsTableOf cmp level all (with_all_added cmp level ds (with_added cmp level d t))) (append_assoc done (d ∷ []) ds)
      (more_of_them level ds (done ++ d ∷ []) (with_added cmp level d t) (one_more level done d t h))

  pub kept : (level : T → LevelFilter) (ds : List T) → IsTableOf cmp level ds (with_all_added cmp level ds empty_table)
  kept level ds = more_of_them level ds [] empty_table (no_directives level)

  found_itself : (a : T) (xs : List T) → find (like a) (a ∷ xs) ≡ Some a
  found_itself a xs = ap (λ r. cond (is_eq r) (Some a) (find (like a) xs)) (tied_itself order a)

  not_below : (x : T) (xs : List T) → AllByRecursion (λ y. cmp x y ≡ Less) xs → find (like x) xs ≡ None
  not_below x [] h = refl
  not_below x (y ∷ xs) h = ap (λ r. cond (is_eq r) (Some y) (find (like x) xs)) (greater order y x h.0) ∙ not_below x xs h.1

  none_like : (a b : T) (bs : List T) → cmp a b ≡ Less → IsStrictlySortedBy cmp (b ∷ bs) → find (like a) (b ∷ bs) ≡ None
  none_like a b bs is s =
      not_below a (b ∷ bs) (is, implied order (λ y. cmp b y ≡ Less) (λ y. cmp a y ≡ Less) bs (λ y h. order.trans a b y is h) (sorted_head cmp b bs s))

  some_none : (x : T) → Some x ≡ None → ⊥
  some_none x is = true≢false (ap is_some is)

  inside : (x y : T) → Some x ≡ Some y → x ≡ y
  inside x y is = cc

  tails : (a : T) (xs bs : List T) → AllByRecursion (λ y. cmp a y ≡ Less) xs → AllByRecursion (λ y. cmp a y ≡ Less) bs
      → (x : T) → find (like x) (a ∷ xs) ≡ find (like x) (a ∷ bs) → find (like x) xs ≡ find (like x) bs
  tails a xs bs s t x same = by (cmp a x) refl
    where
      behind : (cs : List T) → cmp a x ≡ Equal → AllByRecursion (λ y. cmp a y ≡ Less) cs → find (like x) cs ≡ None
      behind cs is h = not_below x cs (implied order (λ y. cmp a y ≡ Less) (λ y. cmp x y ≡ Less) cs (λ y k. sym (order.congr a x y is) ∙ k) h)

      by : (r : Ordering) → cmp a x ≡ r → find (like x) xs ≡ find (like x) bs
      by Less is = rw is at same
      by Equal is = behind xs is s ∙ sym (behind bs is t)
      by Greater is = rw is at same

  pub same_found : (xs bs : List T) → IsStrictlySortedBy cmp xs → IsStrictlySortedBy cmp bs → ((x : T) → find (like x) xs ≡ find (like x) bs) → xs ≡ bs
  same_found [] [] s t f = refl
  same_found [] (b ∷ bs) s t f = absurd (some_none b (sym (found_itself b bs) ∙ sym (f b)))
  same_found (a ∷ xs) [] s t f = absurd (some_none a (sym (found_itself a xs) ∙ f a))
  same_found (a ∷ xs) (b ∷ bs) s t f = by (cmp a b) refl (λ same. same_found xs bs (sorted_tail cmp a xs s) (sorted_tail cmp b bs t) same)
    where
      by : (r : Ordering) → cmp a b ≡ r → (((x : T) → find (like x) xs ≡ find (like x) bs) → xs ≡ bs) → a ∷ xs ≡ b ∷ bs
      by Less is rest = absurd (some_none a (sym (found_itself a xs) ∙ f a ∙ none_like a b bs is t))
      by Equal is rest =
          let found_b : find (like a) (b ∷ bs) ≡ Some b = ap (λ r. cond (is_eq r) (Some b) (find (like a) bs)) (tied_back order a b is) in
          let head : a ≡ b = inside a b (sym (found_itself a xs) ∙ f a ∙ found_b) in
          let after_b = subst (λ y. AllByRecursion (λ z. cmp y z ≡ Less) bs) (sym head) (sorted_head cmp b bs t) in
          let others = rest (λ x. tails a xs bs (sorted_head cmp a xs s) after_b x (subst (λ y. find (like x) (a ∷ xs) ≡ find (like x) (y ∷ bs)) (sym head) (f x))) in
          ap (λ y. y ∷ xs) head ∙ ap (λ ys. b ∷ ys) others
      by Greater is rest = absurd (some_none b (sym (found_itself b bs) ∙ sym (f b) ∙ none_like b a xs (order.antisymm b a ∙ ap ordering_reverse is) s))

  pub one_table : (level : T → LevelFilter) (ds : List T) (s t : DirectiveTable T) → IsTableOf cmp level ds s → IsTableOf cmp level ds t → s.directives ≡ t.directives
  one_table level ds s t h k = same_found s.directives t.directives h.in_order k.in_order (λ x. h.lasts x ∙ sym (k.lasts x))
