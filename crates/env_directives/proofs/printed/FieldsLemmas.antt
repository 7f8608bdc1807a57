-- What a field prints is read as that field.
use Rattle.std.proofs.Common.{◌≡◌, ◌≢◌, ℕ, Bool, true, false, true≢false, List, [], ◌∷◌, ◌++◌, Some, None, Option, option_map, refl, sym, ap, ◌∙◌, pos, codes, subst, append-nil, append_assoc, map, flat_map, not, ◌&&◌}
use Rattle.env_directives.proofs.Common.{AllByRecursion, pieces_at, is_among, lacks, IsFieldText, fields_with_commas, value_text, match_text, fields_text, HasNoMinusZero, value_of, field_of, Match, I64}
use Rattle.env_directives.proofs.cuts.CutsLemmas.{cut_whole, cut_at, cut_joined, cut_front, cut_off}
use Rattle.env_directives.proofs.printed.ValuesLemmas.{value_again}

-- what a text lacks its parts lack, and what two texts lack they lack together
lacks_parts : (stops xs ys : List ℕ) → lacks stops (xs ++ ys) ≡ true → (lacks stops xs ≡ true) × (lacks stops ys ≡ true)
lacks_parts stops [] ys lacking = (refl, lacking)
lacks_parts stops (x ∷ xs) ys lacking = go (is_among stops x) refl lacking (lacks_parts stops xs ys)
  where
    go : (c : Bool) → is_among stops x ≡ c → (not c && lacks stops (xs ++ ys)) ≡ true →
        (lacks stops (xs ++ ys) ≡ true → (lacks stops xs ≡ true) × (lacks stops ys ≡ true)) → (lacks stops (x ∷ xs) ≡ true) × (lacks stops ys ≡ true)
    go true e lacking later = absurd (true≢false (sym lacking))
    go false e lacking later = (rw e (later lacking).0, (later lacking).1)

lacks_joined : (stops xs ys : List ℕ) → lacks stops xs ≡ true → lacks stops ys ≡ true → lacks stops (xs ++ ys) ≡ true
lacks_joined stops [] ys first second = second
lacks_joined stops (x ∷ xs) ys first second = go (is_among stops x) refl first (lacks_joined stops xs ys)
  where
    go : (c : Bool) → is_among stops x ≡ c → (not c && lacks stops xs) ≡ true →
        (lacks stops xs ≡ true → lacks stops ys ≡ true → lacks stops (xs ++ ys) ≡ true) → lacks stops (x ∷ (xs ++ ys)) ≡ true
    go true e first later = absurd (true≢false (sym first))
    go false e first later = rw e (later first second)

field_lacks : (field : List ℕ) → IsFieldText field → lacks (codes ",}") field ≡ true
field_lacks [] is = absurd is
field_lacks (b ∷ bs) is = is

-- a name and a value make a field
named_field : (name value : List ℕ) → lacks (codes ",}") name ≡ true → lacks (codes ",}") value ≡ true → IsFieldText (name ++ 61 ∷ value)
named_field [] value first second = second
named_field (b ∷ bs) value first second = lacks_joined (codes ",}") (b ∷ bs) (61 ∷ value) first second

-- the text of a field that was read
abbrev pub again : List ℕ → List ℕ
again field = match_text (field_of false field)

pub field_again : (field : List ℕ) → IsFieldText field → (field_of false field).value ≢ Some (I64 (pos 0)) → IsFieldText (again field) × (field_of false (again field) ≡ field_of false field)
unfolding field_of
field_again field is no_zero =
    by_stop (pieces_at (codes "=") field).front (pieces_at (codes "=") field).stop (pieces_at (codes "=") field).rest (cut_front (codes "=") field) (cut_joined (codes "=") field) no_zero
  where
    by_stop : (name : List ℕ) (stop : Option ℕ) (rest : List ℕ) → lacks (codes "=") name ≡ true → field ≡ name ++ cut_off stop rest →
        option_map (λ _. value_of false (pieces_at (codes "=") rest).front) stop ≢ Some (I64 (pos 0)) →
        let m : Match = record { name = name; value = option_map (λ _. value_of false (pieces_at (codes "=") rest).front) stop } in
        IsFieldText (match_text m) × (field_of false (match_text m) ≡ m)
    by_stop name None rest lacking joined no_zero =
        (subst IsFieldText joined is, rw (append-nil name, cut_whole (codes "=") name lacking) refl)
    by_stop name (Some s) rest lacking joined no_zero =
        let text = (pieces_at (codes "=") rest).front in
        let whole : lacks (codes ",}") (name ++ s ∷ rest) ≡ true = subst (λ (t : List ℕ). lacks (codes ",}") t ≡ true) joined (field_lacks field is) in
        let parts = lacks_parts (codes ",}") name (s ∷ rest) whole in
        let behind = lacks_parts (codes ",}") (s ∷ []) rest parts.1 in
        let so : lacks (codes ",}") (text ++ cut_off (pieces_at (codes "=") rest).stop (pieces_at (codes "=") rest).rest) ≡ true = subst (λ (t : List ℕ). lacks (codes ",}") t ≡ true) (cut_joined (codes "=") rest) behind.1 in
        let no_end : lacks (codes ",}") text ≡ true = (lacks_parts (codes ",}") text (cut_off (pieces_at (codes "=") rest).stop (pieces_at (codes "=") rest).rest) so).0 in
        let value = value_again text (cut_front (codes "=") rest) no_end (λ e. no_zero (ap Some e)) in (
          named_field name (value_text (value_of false text)) parts.0 value.no_end,
          rw (cut_at (codes "=") name 61 (value_text (value_of false text)) lacking refl, cut_whole (codes "=") (value_text (value_of false text)) value.no_equals, value.reads) refl,
        )

-- the same of some fields
pub fields_again : (fields : List (List ℕ)) → AllByRecursion IsFieldText fields → HasNoMinusZero (map (field_of false) fields) →
    AllByRecursion IsFieldText (map again fields) × (map (field_of false) (map again fields) ≡ map (field_of false) fields)
fields_again [] all no_zero = (tt, refl)
fields_again (f ∷ fs) all no_zero =
    let first = field_again f all.0 no_zero.0 in
    let later = fields_again fs all.1 no_zero.1 in
    ((first.0, later.0), ap (λ (m : Match). m ∷ map (field_of false) (map again fs)) first.1 ∙ ap (λ (ms : List Match). field_of false f ∷ ms) later.1)

-- fields joined by commas
joined_tail : (earlier : List (List ℕ)) (last : List ℕ) →
    flat_map (λ m. codes "," ++ match_text m) (map (field_of false) (earlier ++ last ∷ [])) ≡ codes "," ++ (fields_with_commas (map again earlier) ++ again last)
joined_tail [] last = append-nil (codes "," ++ again last)
joined_tail (e ∷ es) last = ap (λ (t : List ℕ). (codes "," ++ again e) ++ t) (joined_tail es last) ∙ simp append_assoc refl

pub fields_joined : (earlier : List (List ℕ)) (last : List ℕ) →
    fields_text (map (field_of false) (earlier ++ last ∷ [])) ≡ codes "{" ++ (fields_with_commas (map again earlier) ++ (again last ++ codes "}"))
fields_joined [] last = ap (λ (t : List ℕ). codes "{" ++ (t ++ codes "}")) (append-nil (again last))
fields_joined (e ∷ es) last = ap (λ (t : List ℕ). codes "{" ++ ((again e ++ t) ++ codes "}")) (joined_tail es last) ∙ simp append_assoc refl
