-- In a table the first directive without field names that covers a target is the one with the longest target.
use Rattle.std.specs.declared.cmp.Ordering.{Ordering}
use Rattle.std.specs.declared.cmp.Ordering.TheVariants.{Less, Equal, Greater}
use Rattle.env_directives.proofs.Common.{ordering_then, AllByRecursion, starts_with, IsStrictlySortedBy, option_cmp, option_map_or, tied_itself, first_so, second_so, bytes_decides, nil_from_length, sorted_head, sorted_tail, StaticDirective, covers, cares_about_target, is_longer, with_longer_target, longest_from, longest_covering, lets_through, admits_target, target_length, most_specific_first, text_cmp, DirectiveTable, with_item_in_order, empty_table, with_static, with_statics}
use Rattle.std.specs.Ordering.{is_eq, is_gt, nat_cmp}
use Rattle.std.specs.List.{find, filter}
use Rattle.std.specs.Option.{option_map}
use borrow.Author.Tests.{eqb-true}
use Rattle.std.proofs.Common.{refl, sym, ◌∙◌, ap, ◌≡◌, ℕ, List, [], ◌∷◌, Bool, true, false, cond, ◌==◌, eqb, length, take, Option, None, Some}
use Rattle.std.proofs.lemmas.Bool.{true≢false}
use Rattle.std.proofs.lemmas.Map.Text.{is_eq-slice_cmp}
use Rattle.env_directives.specs.contracts.directive.StaticDirectiveOrd.TheImpl.Laws.{total-law}
use Rattle.trace_base.specs.declared.level.Level.{Level}
use Rattle.env_directives.proofs.tables.PlacesLemmas.{sorted_placed, at_less, at_equal, at_greater, implied}

-- the parts of an order that is put together answer for the whole
then_left : (r s : Ordering) → ordering_then r s ≡ Equal → r ≡ Equal
then_left Less s h = h
then_left Equal s h = refl
then_left Greater s h = h

then_right : (r s : Ordering) → ordering_then r s ≡ Equal → s ≡ Equal
then_right Less s h = absurd (true≢false (sym (ap is_eq h)))
then_right Equal s h = h
then_right Greater s h = absurd (true≢false (sym (ap is_eq h)))

not_greater : (r s : Ordering) → is_gt (ordering_then r s) ≡ false → is_gt r ≡ false
not_greater Less s h = refl
not_greater Equal s h = refl
not_greater Greater s h = h

less_first : (r s : Ordering) → r ≡ Less → ordering_then r s ≡ Less
less_first Less s h = refl
less_first Equal s h = absurd (true≢false (ap is_eq h))
less_first Greater s h = absurd (true≢false (ap is_gt h))

same_text : (xs ys : List ℕ) → text_cmp xs ys ≡ Equal → xs ≡ ys
same_text xs ys h = (bytes_decides xs ys).0 (sym (is_eq-slice_cmp xs ys) ∙ ap is_eq h)

first_byte : List ℕ → ℕ
first_byte [] = 0
first_byte (b ∷ bs) = b

same_number : (m n : ℕ) → nat_cmp m n ≡ Equal → m ≡ n
unfolding first_byte
same_number m n h = ap first_byte (same_text (m ∷ []) (n ∷ []) (ap (λ r. ordering_then r Equal) h))

same_texts : (s t : Option (List ℕ)) → option_cmp text_cmp s t ≡ Equal → s ≡ t
same_texts None None h = refl
same_texts None (Some t) h = absurd (true≢false (sym (ap is_eq h)))
same_texts (Some s) None h = absurd (true≢false (sym (ap is_eq h)))
same_texts (Some s) (Some t) h = ap Some (same_text s t h)

-- the first of two is more specific, so the second isn't longer
earlier_not_longer : (d f : StaticDirective) → most_specific_first d f ≡ Less → is_longer f d ≡ false
earlier_not_longer d f h = not_greater _ _ (not_greater _ _ (not_greater _ _ (ap is_gt h)))

equal_not_longer : (d f : StaticDirective) → most_specific_first d f ≡ Equal → is_longer f d ≡ false
equal_not_longer d f h = not_greater _ _ (not_greater _ _ (not_greater _ _ (ap is_gt h)))

-- equal directives speak of the same targets
equal_cares : (d f : StaticDirective) (target : List ℕ) → most_specific_first d f ≡ Equal → cares_about_target f target ≡ cares_about_target d target
equal_cares d f target h =
    let inner = then_left _ _ h in
    let targets : f.target ≡ d.target = same_texts f.target d.target (then_right _ _ inner) in
    let names : length f.field_names ≡ length d.field_names = same_number _ _ (then_right _ _ (then_left _ _ inner)) in
    rw (targets, names) refl

-- two beginnings of one target that are as long are the same
same_beginning : (s t : Option (List ℕ)) (target : List ℕ)
    → option_map_or (λ start. starts_with eqb target start) s true ≡ true → option_map_or (λ start. starts_with eqb target start) t true ≡ true
    → option_cmp nat_cmp (option_map length s) (option_map length t) ≡ Equal → s ≡ t
same_beginning None None target g h is = refl
same_beginning None (Some t) target g h is = absurd (true≢false (sym (ap is_eq is)))
same_beginning (Some s) None target g h is = absurd (true≢false (sym (ap is_eq is)))
same_beginning (Some s) (Some t) target g h is =
    ap Some ((bytes_decides s (take (length s) target)).0 g ∙ ap (λ n. take n target) (same_number (length s) (length t) is) ∙ sym ((bytes_decides t (take (length t) target)).0 h))

no_names : (names : List (List ℕ)) → (length names == 0) ≡ true → names ≡ []
no_names names h = nil_from_length names (eqb-true (length names) 0 h)

-- the second of two that speak of a target has the longer one where it is the more specific
later_longer : (d e : StaticDirective) (target : List ℕ) → cares_about_target d target ≡ true → cares_about_target e target ≡ true
    → most_specific_first d e ≡ Greater → is_longer e d ≡ true
later_longer d e target g h is = by (option_cmp nat_cmp (target_length e) (target_length d)) refl
  where
    by : (r : Ordering) → option_cmp nat_cmp (target_length e) (target_length d) ≡ r → is_longer e d ≡ true
    by Less lengths =
        let whole : most_specific_first d e ≡ Less = less_first _ _ (less_first _ _ (less_first _ _ lengths)) in
        absurd (true≢false (sym (ap is_gt is) ∙ ap is_gt whole))
    by Equal lengths =
        let targets : e.target ≡ d.target = same_beginning e.target d.target target (first_so _ _ h) (first_so _ _ g) lengths in
        let names : e.field_names ≡ d.field_names = no_names e.field_names (second_so (covers e target) _ h) ∙ sym (no_names d.field_names (second_so (covers d target) _ g)) in
        let same : most_specific_first d e ≡ Equal = rw (targets, names) (tied_itself total-law d) in
        absurd (true≢false (sym (ap is_eq same) ∙ ap is_eq is))
    by Greater lengths = ap is_gt lengths

module _ (target : List ℕ) where
  -- the directives that speak of the target by themselves
  abbrev speaks : StaticDirective → Bool
  speaks d = cares_about_target d target

  longer_at_true : (e d : StaticDirective) → is_longer e d ≡ true → with_longer_target (Some e) d ≡ Some e
  longer_at_true e d h = rw h refl

  longer_at_false : (e d : StaticDirective) → is_longer e d ≡ false → with_longer_target (Some e) d ≡ Some d
  longer_at_false e d h = rw h refl

  none_longer : (d : StaticDirective) (es : List StaticDirective) → AllByRecursion (λ y. most_specific_first d y ≡ Less) es
      → with_longer_target (find speaks es) d ≡ Some d
  none_longer d [] h = refl
  none_longer d (e ∷ es) h = by (speaks e) refl (none_longer d es h.1)
    where
      by : (b : Bool) → speaks e ≡ b → with_longer_target (find speaks es) d ≡ Some d → with_longer_target (find speaks (e ∷ es)) d ≡ Some d
      by true is rest = ap (λ b. with_longer_target (cond b (Some e) (find speaks es)) d) is ∙ longer_at_false e d (earlier_not_longer d e h.0)
      by false is rest = ap (λ b. with_longer_target (cond b (Some e) (find speaks es)) d) is ∙ rest

  -- what is found once one directive more has its place
  found_placed : (d : StaticDirective) (es : List StaticDirective) → IsStrictlySortedBy most_specific_first es
      → find speaks (with_item_in_order most_specific_first d es) ≡ cond (speaks d) (with_longer_target (find speaks es) d) (find speaks es)
  found_placed d [] s = refl
  found_placed d (e ∷ es) s = by (most_specific_first d e) refl (found_placed d es (sorted_tail most_specific_first e es s))
    where
      equal : (b : Bool) → most_specific_first d e ≡ Equal → speaks d ≡ b
          → cond (speaks d) (Some d) (find speaks es) ≡ cond (speaks d) (with_longer_target (cond (speaks e) (Some e) (find speaks es)) d) (cond (speaks e) (Some e) (find speaks es))
      equal true is own = rw (own, equal_cares d e target is ∙ own) (sym (longer_at_false e d (equal_not_longer d e is)))
      equal false is own = rw (own, equal_cares d e target is ∙ own) refl

      later : (b c : Bool) → most_specific_first d e ≡ Greater → speaks e ≡ b → speaks d ≡ c
          → cond (speaks e) (Some e) (cond (speaks d) (with_longer_target (find speaks es) d) (find speaks es))
          ≡ cond (speaks d) (with_longer_target (cond (speaks e) (Some e) (find speaks es)) d) (cond (speaks e) (Some e) (find speaks es))
      later true true is first own = rw (first, own) (sym (longer_at_true e d (later_longer d e target own first is)))
      later true false is first own = rw (first, own) refl
      later false true is first own = rw (first, own) refl
      later false false is first own = rw (first, own) refl

      by : (r : Ordering) → most_specific_first d e ≡ r
          → find speaks (with_item_in_order most_specific_first d es) ≡ cond (speaks d) (with_longer_target (find speaks es) d) (find speaks es)
          → find speaks (with_item_in_order most_specific_first d (e ∷ es)) ≡ cond (speaks d) (with_longer_target (find speaks (e ∷ es)) d) (find speaks (e ∷ es))
      by Less is rest =
          ap (find speaks) (at_less total-law d e es is)
          ∙ ap (λ o. cond (speaks d) o (find speaks (e ∷ es)))
          (sym (none_longer d (e ∷ es) (
            is,
            implied total-law (λ y. most_specific_first e y ≡ Less) (λ y. most_specific_first d y ≡ Less) es
                (λ y h. total-law.trans d e y is h) (sorted_head most_specific_first e es s),
          )))
      by Equal is rest = ap (find speaks) (at_equal total-law d e es is) ∙ equal (speaks d) is refl
      by Greater is rest = ap (find speaks) (at_greater total-law d e es is) ∙ ap (cond (speaks e) (Some e)) rest ∙ later (speaks e) (speaks d) is refl refl

  found_in_all : (ds : List StaticDirective) (t : DirectiveTable StaticDirective) → IsStrictlySortedBy most_specific_first t.directives
      → find speaks (with_statics ds t).directives ≡ longest_from (find speaks t.directives) (filter speaks ds)
  found_in_all [] t s = refl
  found_in_all (d ∷ ds) t s = by (speaks d) refl (found_in_all ds (with_static d t) (sorted_placed total-law d t.directives s))
    where
      by : (b : Bool) → speaks d ≡ b
          → find speaks (with_statics ds (with_static d t)).directives ≡ longest_from (find speaks (with_static d t).directives) (filter speaks ds)
          → find speaks (with_statics ds (with_static d t)).directives ≡ longest_from (find speaks t.directives) (filter speaks (d ∷ ds))
      by true is rest =
          rest ∙ ap (λ o. longest_from o (filter speaks ds)) (found_placed d t.directives s ∙ ap (λ b. cond b (with_longer_target (find speaks t.directives) d) (find speaks t.directives)) is)
          ∙ sym (ap (λ b. longest_from (find speaks t.directives) (cond b (d ∷ filter speaks ds) (filter speaks ds))) is)
      by false is rest =
          rest ∙ ap (λ o. longest_from o (filter speaks ds)) (found_placed d t.directives s ∙ ap (λ b. cond b (with_longer_target (find speaks t.directives) d) (find speaks t.directives)) is)
          ∙ sym (ap (λ b. longest_from (find speaks t.directives) (cond b (d ∷ filter speaks ds) (filter speaks ds))) is)

-- the longest prefix that was added decides
pub decides : (ds : List StaticDirective) (target : List ℕ) (level : Level)
    → admits_target (with_statics ds empty_table).directives target level ≡ lets_through level (longest_covering ds target)
unfolding IsStrictlySortedBy
decides ds target level = ap (lets_through level) (found_in_all target ds empty_table tt)
