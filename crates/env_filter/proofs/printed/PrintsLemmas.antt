-- What a filter prints is read, piece by piece, as the directives that it prints.
use Rattle.std.proofs.Common.{◌≡◌, ℕ, ◌+◌, List, [], ◌∷◌, ◌++◌, length, map, flat_map, append_assoc, append-nil, Bool, true, false, true≢false, not, Option, Some, None, unwrap_or, codes, refl, sym, ap, subst, ◌∙◌, arith, ◌==◌, ◌||◌, if◌then◌else◌, eqb, is_some}
use Rattle.env_filter.proofs.Common.{join_by, onto_first, trim, trim_start, trim_end, and_parts, nat_tests, LevelFilter, is_among, lacks, begins_as_directive, IsDirective, directive_text, match_text, text_if_any, comma_pieces, comma_joined, static_text, StaticDirective, Directive, Each, ReadsPiece, ReadsAll, ReadsText, behind_commas, dynamics_text, bare_field, as_directive, printed_directives, IsReadBack}
use Rattle.std.specs.Str.{chars}
use Rattle.std.proofs.lemmas.List.Splits.{slice_split-cons_no}
use Rattle.trace_base.specs.words.Level.{level_filter_text as level_text}
use Rattle.env_filter.specs.texts.Printing.{filter_text}

-- ---- texts that commas are between

no_comma : (b : ℕ) (bs : List ℕ) → lacks (codes ",") (b ∷ bs) ≡ true → (eqb b 44 ≡ false) × (lacks (codes ",") bs ≡ true)
no_comma b bs is =
    let parts = and_parts (not (is_among (codes ",") b)) (lacks (codes ",") bs) is in
    let first = parts.0 in
    (grind (arith, nat_tests, first), parts.1)

cut_whole : (text : List ℕ) → lacks (codes ",") text ≡ true → comma_pieces text ≡ text ∷ []
cut_whole [] is = refl
cut_whole (b ∷ bs) is = let parts = no_comma b bs is in slice_split-cons_no (λ x. eqb x 44) b bs parts.0 ∙ ap (onto_first b) (cut_whole bs parts.1)

cut_first : (text rest : List ℕ) → lacks (codes ",") text ≡ true → comma_pieces (text ++ 44 ∷ rest) ≡ text ∷ comma_pieces rest
cut_first [] rest is = refl
cut_first (b ∷ bs) rest is = let parts = no_comma b bs is in slice_split-cons_no (λ x. eqb x 44) b (bs ++ 44 ∷ rest) parts.0 ∙ ap (onto_first b) (cut_first bs rest parts.1)

pieces_are : (d : Directive) (ds : List Directive) → Each IsReadBack (d ∷ ds) → comma_pieces (dynamics_text (d ∷ ds)) ≡ map directive_text (d ∷ ds)
pieces_are d [] all = ap comma_pieces (append-nil (directive_text d)) ∙ cut_whole (directive_text d) all.0.0
pieces_are d (e ∷ ds) all = cut_first (directive_text d) (dynamics_text (e ∷ ds)) all.0.0 ∙ ap (λ (ps : List (List ℕ)). directive_text d ∷ ps) (pieces_are e ds all.1)

-- ---- each piece is read

no_text : begins_as_directive (trim []) ≡ true → ⊥
unfolding trim_start trim_end chars
no_text is = true≢false (sym is)

reads_one : (n : ℕ) (text : List ℕ) (d : Directive) → IsDirective false (trim text) d → ReadsPiece false n text (d ∷ []) []
reads_one n [] d read = absurd (no_text read.start)
reads_one n (b ∷ bs) d read = read

reads_all : (n : ℕ) (ds : List Directive) → Each IsReadBack ds → ReadsAll false n (map directive_text ds) ds []
reads_all n [] all = (refl, refl)
reads_all n (d ∷ ds) all = record {
  directives = d ∷ [];
  ignored = [];
  later = ds;
  later_ignored = [];
  reads = reads_one n (directive_text d) d all.0.1;
  behind = reads_all (n + 1) ds all.1;
  all = refl;
  all_ignored = refl;
}

reads_joined : (ds : List Directive) → Each IsReadBack ds → ReadsText false (dynamics_text ds) ds []
reads_joined [] all = record { directives = []; ignored = []; later = []; later_ignored = []; reads = tt; behind = (refl, refl); all = refl; all_ignored = refl }
reads_joined (d ∷ ds) all = subst (λ (ps : List (List ℕ)). ReadsAll false 1 ps (d ∷ ds) []) (sym (pieces_are d ds all)) (reads_all 1 (d ∷ ds) all)

-- ---- static directives print as directives

names_behind : (ns : List (List ℕ)) → flat_map (λ other. 44 ∷ other) ns ≡ flat_map (λ y. codes "," ++ match_text y) (map bare_field ns)
names_behind [] = refl
names_behind (n ∷ ns) = ap (λ (t : List ℕ). 44 ∷ (t ++ flat_map (λ other. 44 ∷ other) ns)) (sym (append-nil n)) ∙ ap (λ (t : List ℕ). 44 ∷ ((n ++ []) ++ t)) (names_behind ns)

names_joined : (n : List ℕ) (ns : List (List ℕ)) → comma_joined (n ∷ ns) ≡ join_by match_text (codes ",") (map bare_field (n ∷ ns))
names_joined n ns = ap (λ (t : List ℕ). t ++ flat_map (λ other. 44 ∷ other) ns) (sym (append-nil n)) ∙ ap (λ (t : List ℕ). (n ++ []) ++ t) (names_behind ns)

-- a target, a bracket unless there are no fields, a sign, and the level
assembled : (t a b names c d sign level : List ℕ) → ((t ++ (((a ++ b) ++ names) ++ (c ++ d))) ++ sign) ++ level ≡ t ++ ((a ++ ((b ++ (names ++ c)) ++ d)) ++ (sign ++ level))
assembled t a b names c d sign level = simp append_assoc refl

parted : (target : Option (List ℕ)) (none no_more : Bool) (names fields level : List ℕ) → none ≡ false → no_more ≡ false → names ≡ fields
    → ((unwrap_or target [] ++ (if none then [] else (codes "[{" ++ names) ++ codes "}]")) ++ (if (is_some target || not none) then codes "=" else [])) ++ level
    ≡ text_if_any target ++ ((if not no_more then codes "[" ++ ([] ++ ((codes "{" ++ (fields ++ codes "}")) ++ codes "]")) else []) ++ ((if (is_some target || not no_more) then codes "=" else []) ++ level))
parted target true no_more names fields level is more same = absurd (true≢false is)
parted target false true names fields level is more same = absurd (true≢false more)
parted None false false names fields level is more same = rw same (assembled [] (codes "[") (codes "{") fields (codes "}") (codes "]") (codes "=") level)
parted (Some t) false false names fields level is more same = rw same (assembled t (codes "[") (codes "{") fields (codes "}") (codes "]") (codes "=") level)

static_is : (s : StaticDirective) → static_text s ≡ directive_text (as_directive s)
static_is s = by_names s.target s.field_names s.level
  where
    by_names : (target : Option (List ℕ)) (names : List (List ℕ)) (level : LevelFilter)
        → static_text (record { target = target; field_names = names; level = level }) ≡ directive_text (record { in_span = None; fields = map bare_field names; target = target; level = level })
    by_names None [] level = refl
    by_names (Some t) [] level = ap (λ (x : List ℕ). (x ++ codes "=") ++ level_text level) (append-nil t) ∙ append_assoc t (codes "=") (level_text level)
    by_names target (n ∷ ns) level =
        parted target (length (n ∷ ns) == 0) (length (map bare_field (n ∷ ns)) == 0) (comma_joined (n ∷ ns)) (join_by match_text (codes ",") (map bare_field (n ∷ ns))) (level_text level)
        (grind (arith, nat_tests)) (grind (arith, nat_tests)) (names_joined n ns)

behind_are : (ss : List StaticDirective) (ds : List Directive) → behind_commas static_text ss ++ behind_commas directive_text ds ≡ behind_commas directive_text (printed_directives ss ds)
behind_are [] ds = refl
behind_are (s ∷ ss) ds =
    append_assoc (codes "," ++ static_text s) (behind_commas static_text ss) (behind_commas directive_text ds)
    ∙ ap (λ (t : List ℕ). (codes "," ++ t) ++ (behind_commas static_text ss ++ behind_commas directive_text ds)) (static_is s)
    ∙ ap (λ (t : List ℕ). (codes "," ++ directive_text (as_directive s)) ++ t) (behind_are ss ds)

text_is : (ss : List StaticDirective) (ds : List Directive) → filter_text ss ds ≡ dynamics_text (printed_directives ss ds)
text_is [] ds = refl
text_is (s ∷ ss) ds =
    ap (λ (t : List ℕ). t ++ (behind_commas static_text ss ++ behind_commas directive_text ds)) (static_is s)
    ∙ ap (λ (t : List ℕ). directive_text (as_directive s) ++ t) (behind_are ss ds)

pub reads_printed : (ss : List StaticDirective) (ds : List Directive) → Each IsReadBack (printed_directives ss ds) → ReadsText false (filter_text ss ds) (printed_directives ss ds) []
reads_printed ss ds all = subst (λ (t : List ℕ). ReadsText false t (printed_directives ss ds) []) (sym (text_is ss ds)) (reads_joined (printed_directives ss ds) all)
