-- What is read has a form, and what is refused has the fault that is told.
use Rattle.std.proofs.Common.{◌≡◌, ℕ, Bool, true, false, List, [], ◌∷◌, ◌++◌, Some, None, Option, Result, Ok, Err, refl, sym, ap, ◌∙◌, arith, subst, append_assoc, append-nil, codes, ◌⊎◌, inl, inr, not, ◌&&◌, if◌then◌else◌, ◌==◌, IfSome, map}
use Rattle.env_directives.proofs.Common.{AllByRecursion, nat_tests, LevelFilter, pieces_at, is_among, lacks, IsEnd, unless_empty, IsFieldText, IsLevelText, fields_with_commas, level_behind, FieldsRead, at_level, read_nothing_more, read_behind, read_leveled, read_level, read_level_if_any, read_close, more_fields, field_ends, read_fields, field_of, ParseError, Shape, Level, Field, Pattern, Equals, Fields, Memory, Directive, Match}
use Rattle.std.proofs.lemmas.Bool.{eqb-true}
use Rattle.env_directives.proofs.cuts.CutsLemmas.{cut_joined, cut_front, cut_stop, cut_off}

-- what holds of what was read, and what holds where a level or a field is at fault; other faults are not told but `Shape`
abbrev pub Explained : {Y : Type 0} → (Y → Type 0) → Type 0 → Type 0 → Result Y ParseError → Type 0
Explained P L F (Ok y) = P y
Explained P L F (Err Shape) = Unit {0}
Explained P L F (Err Level) = L
Explained P L F (Err Field) = F
Explained P L F (Err Pattern) = ⊥
Explained P L F (Err Equals) = ⊥
Explained P L F (Err (Fields many)) = ⊥
Explained P L F (Err Memory) = ⊥

pub explained_map : {Y : Type 0} (P Q : Y → Type 0) (L K F G : Type 0) (r : Result Y ParseError) → Explained P L F r → ((y : Y) → P y → Q y) → (L → K) → (F → G) → Explained Q K G r
explained_map P Q L K F G (Ok y) h p l f = p y h
explained_map P Q L K F G (Err Shape) h p l f = tt
explained_map P Q L K F G (Err Level) h p l f = l h
explained_map P Q L K F G (Err Field) h p l f = f h
explained_map P Q L K F G (Err Pattern) h p l f = absurd h
explained_map P Q L K F G (Err Equals) h p l f = absurd h
explained_map P Q L K F G (Err (Fields many)) h p l f = absurd h
explained_map P Q L K F G (Err Memory) h p l f = absurd h

-- behind `=`: a level's text that reads, to the end or to a last comma
pub record LevelRead (d : Directive) (text : List ℕ) (result : Directive) : Type 0 where
  pub level : List ℕ
  pub found : LevelFilter
  pub part : IsLevelText level
  pub reads : level_behind level ≡ Some found
  pub whole : (text ≡ level) ⊎ (text ≡ level ++ codes ",")
  pub means : result ≡ at_level d found

-- or one that doesn't
pub record LevelUnread (text : List ℕ) : Type 0 where
  pub level : List ℕ
  pub more : List ℕ
  pub part : IsLevelText level
  pub ends : IsEnd more
  pub unread : level_behind level ≡ None
  pub whole : text ≡ level ++ more

comma_among : (s : ℕ) → is_among (codes ",") s ≡ true → s ≡ 44
comma_among s among = grind (arith, nat_tests)

pub level_explained : (d : Directive) (text : List ℕ) → Explained (LevelRead d text) (LevelUnread text) ⊥ (read_level d text)
unfolding read_level read_nothing_more
level_explained d text = by_pieces (pieces_at (codes ",") text).front (pieces_at (codes ",") text).stop (pieces_at (codes ",") text).rest (cut_front (codes ",") text) (cut_stop (codes ",") text) (cut_joined (codes ",") text)
  where
    by_stop : (level : List ℕ) (found : LevelFilter) (stop : Option ℕ) (rest : List ℕ) → IsLevelText level → IfSome stop (λ s. is_among (codes ",") s ≡ true) → text ≡ level ++ cut_off stop rest →
        level_behind level ≡ Some found → Explained (LevelRead d text) (LevelUnread text) ⊥ (read_behind (at_level d found) stop rest)
    by_stop level found None rest part among joined reads =
        record { level = level; found = found; part = part; reads = reads; whole = inl (joined ∙ append-nil level); means = refl }
    by_stop level found (Some s) [] part among joined reads =
        record { level = level; found = found; part = part; reads = reads; whole = inr (joined ∙ ap (λ (b : ℕ). level ++ b ∷ []) (comma_among s among)); means = refl }
    by_stop level found (Some s) (b ∷ bs) part among joined reads = tt

    end_of : (stop : Option ℕ) (rest : List ℕ) → IfSome stop (λ s. is_among (codes ",") s ≡ true) → IsEnd (cut_off stop rest)
    end_of None rest among = tt
    end_of (Some s) rest among = comma_among s among

    by_found : (level : List ℕ) (found : Option LevelFilter) (stop : Option ℕ) (rest : List ℕ) → IsLevelText level → IfSome stop (λ s. is_among (codes ",") s ≡ true) → text ≡ level ++ cut_off stop rest →
        level_behind level ≡ found → Explained (LevelRead d text) (LevelUnread text) ⊥ (read_leveled d found stop rest)
    by_found level None stop rest part among joined reads =
        record { level = level; more = cut_off stop rest; part = part; ends = end_of stop rest among; unread = reads; whole = joined }
    by_found level (Some found) stop rest part among joined reads = by_stop level found stop rest part among joined reads

    by_pieces : (level : List ℕ) (stop : Option ℕ) (rest : List ℕ) → IsLevelText level → IfSome stop (λ s. is_among (codes ",") s ≡ true) → text ≡ level ++ cut_off stop rest →
        Explained (LevelRead d text) (LevelUnread text) ⊥ (read_leveled d (level_behind level) stop rest)
    by_pieces level stop rest part among joined = by_found level (level_behind level) stop rest part among joined refl

-- behind a bracket: the end, or `=` and a level's text
abbrev pub EndRead : Directive → List ℕ → Directive → Type 0
EndRead d rest result = ((rest ≡ []) × (result ≡ d)) ⊎ ((text : List ℕ) × (rest ≡ 61 ∷ text) × LevelRead d text result)

abbrev pub EndUnread : List ℕ → Type 0
EndUnread rest = (text : List ℕ) × (rest ≡ 61 ∷ text) × LevelUnread text

pub end_explained : (d : Directive) (rest : List ℕ) → Explained (EndRead d rest) (EndUnread rest) ⊥ (read_level_if_any d rest)
unfolding read_level_if_any
end_explained d [] = inl (refl, refl)
end_explained d (b ∷ rest) = go (b == 61) refl (level_explained d rest)
  where
    go : (c : Bool) → (b == 61) ≡ c → Explained (LevelRead d rest) (LevelUnread rest) ⊥ (read_level d rest) →
        Explained (EndRead d (b ∷ rest)) (EndUnread (b ∷ rest)) ⊥ (if c then read_level d rest else Err Shape)
    go true e h =
        let same : b ∷ rest ≡ 61 ∷ rest = ap (λ (x : ℕ). x ∷ rest) (eqb-true b 61 e) in
        explained_map (LevelRead d rest) (EndRead d (b ∷ rest)) (LevelUnread rest) (EndUnread (b ∷ rest)) ⊥ ⊥ (read_level d rest) h
        (λ y read. inr (rest, same, read)) (λ unread. (rest, same, unread)) (λ none. none)
    go false e h = tt

-- behind a closing brace: a closing bracket
abbrev pub CloseRead : Directive → List ℕ → Directive → Type 0
CloseRead d text result = (rest : List ℕ) × (text ≡ 93 ∷ rest) × EndRead d rest result

abbrev pub CloseUnread : List ℕ → Type 0
CloseUnread text = (rest : List ℕ) × (text ≡ 93 ∷ rest) × EndUnread rest

pub close_explained : (d : Directive) (text : List ℕ) → Explained (CloseRead d text) (CloseUnread text) ⊥ (read_close d text)
unfolding read_close
close_explained d [] = tt
close_explained d (b ∷ rest) = go (b == 93) refl (end_explained d rest)
  where
    go : (c : Bool) → (b == 93) ≡ c → Explained (EndRead d rest) (EndUnread rest) ⊥ (read_level_if_any d rest) →
        Explained (CloseRead d (b ∷ rest)) (CloseUnread (b ∷ rest)) ⊥ (if c then read_level_if_any d rest else Err Shape)
    go true e h =
        let same : b ∷ rest ≡ 93 ∷ rest = ap (λ (x : ℕ). x ∷ rest) (eqb-true b 93 e) in
        explained_map (EndRead d rest) (CloseRead d (b ∷ rest)) (EndUnread rest) (CloseUnread (b ∷ rest)) ⊥ ⊥ (read_level_if_any d rest) h
        (λ y read. (rest, same, read)) (λ unread. (rest, same, unread)) (λ none. none)
    go false e h = tt

-- the fields of a text, and what stands behind their closing brace
pub record FieldsMade (patterns : Bool) (text : List ℕ) (read : List Match × List ℕ) : Type 0 where
  pub earlier : List (List ℕ)
  pub last : List ℕ
  pub parts : AllByRecursion IsFieldText earlier
  pub part : IsFieldText last
  pub whole : text ≡ fields_with_commas earlier ++ (last ++ 125 ∷ read.1)
  pub made : read.0 ≡ map (field_of patterns) (earlier ++ last ∷ [])

-- or one that is empty
pub record FieldsEmpty (text : List ℕ) : Type 0 where
  pub earlier : List (List ℕ)
  pub stop : ℕ
  pub more : List ℕ
  pub parts : AllByRecursion IsFieldText earlier
  pub stops : is_among (codes ",}") stop ≡ true
  pub whole : text ≡ fields_with_commas earlier ++ stop ∷ more

-- a field more in front
fields_with : (field text : List ℕ) → IsFieldText field → (patterns : Bool) (r : FieldsRead) → Explained (FieldsMade patterns text) ⊥ (FieldsEmpty text) r →
    Explained (FieldsMade patterns (field ++ 44 ∷ text)) ⊥ (FieldsEmpty (field ++ 44 ∷ text)) (more_fields (field_of patterns field) r)
fields_with field text part patterns (Ok read) h = record {
  earlier = field ∷ h.earlier;
  last = h.last;
  parts = (part, h.parts);
  part = h.part;
  whole = ap (λ (t : List ℕ). field ++ 44 ∷ t) h.whole ∙ simp append_assoc refl;
  made = ap (λ (fs : List Match). field_of patterns field ∷ fs) h.made;
}
fields_with field text part patterns (Err Shape) h = tt
fields_with field text part patterns (Err Field) h = record {
  earlier = field ∷ h.earlier;
  stop = h.stop;
  more = h.more;
  parts = (part, h.parts);
  stops = h.stops;
  whole = ap (λ (t : List ℕ). field ++ 44 ∷ t) h.whole ∙ simp append_assoc refl;
}
fields_with field text part patterns (Err Level) h = absurd h
fields_with field text part patterns (Err Pattern) h = absurd h
fields_with field text part patterns (Err Equals) h = absurd h
fields_with field text part patterns (Err (Fields many)) h = absurd h
fields_with field text part patterns (Err Memory) h = absurd h

lacks_more : (stops begun : List ℕ) (b : ℕ) → lacks stops begun ≡ true → is_among stops b ≡ false → lacks stops (begun ++ b ∷ []) ≡ true
lacks_more stops [] b lacking other = rw other refl
lacks_more stops (x ∷ xs) b lacking other = go (is_among stops x) refl lacking (lacks_more stops xs b)
  where
    go : (c : Bool) → is_among stops x ≡ c → (not c && lacks stops xs) ≡ true → (lacks stops xs ≡ true → is_among stops b ≡ false → lacks stops (xs ++ b ∷ []) ≡ true) →
        (not c && lacks stops (xs ++ b ∷ [])) ≡ true
    go true e lacking later = lacking
    go false e lacking later = later lacking other

pub fields_explained : (patterns : Bool) (begun text : List ℕ) → lacks (codes ",}") begun ≡ true →
    Explained (FieldsMade patterns (begun ++ text)) ⊥ (FieldsEmpty (begun ++ text)) (read_fields patterns begun text)
unfolding read_fields
fields_explained patterns begun [] lacking = tt
fields_explained patterns begun (b ∷ bs) lacking =
    go (is_among (codes ",}") b) refl (fields_explained patterns [] bs refl) (fields_explained patterns (begun ++ b ∷ []) bs)
  where
    by_stop : (x : ℕ) (xs : List ℕ) (c : Bool) → (b == 125) ≡ c → lacks (codes ",}") (x ∷ xs) ≡ true → is_among (codes ",}") b ≡ true →
        Explained (FieldsMade patterns bs) ⊥ (FieldsEmpty bs) (read_fields patterns [] bs) →
        Explained (FieldsMade patterns (x ∷ xs ++ b ∷ bs)) ⊥ (FieldsEmpty (x ∷ xs ++ b ∷ bs))
        (if c then Ok (field_of patterns (x ∷ xs) ∷ [], bs) else more_fields (field_of patterns (x ∷ xs)) (read_fields patterns [] bs))
    by_stop x xs true e lacking among later = record {
      earlier = [];
      last = x ∷ xs;
      parts = tt;
      part = lacking;
      whole = ap (λ (s : ℕ). x ∷ xs ++ s ∷ bs) (eqb-true b 125 e);
      made = refl;
    }
    by_stop x xs false e lacking among later =
        let comma : b ≡ 44 = grind (arith, nat_tests) in
        subst (λ (s : ℕ). Explained (FieldsMade patterns (x ∷ xs ++ s ∷ bs)) ⊥ (FieldsEmpty (x ∷ xs ++ s ∷ bs)) (more_fields (field_of patterns (x ∷ xs)) (read_fields patterns [] bs)))
        (sym comma) (fields_with (x ∷ xs) bs lacking patterns (read_fields patterns [] bs) later)

    by_begun : (begun : List ℕ) → lacks (codes ",}") begun ≡ true → is_among (codes ",}") b ≡ true → Explained (FieldsMade patterns bs) ⊥ (FieldsEmpty bs) (read_fields patterns [] bs) →
        Explained (FieldsMade patterns (begun ++ b ∷ bs)) ⊥ (FieldsEmpty (begun ++ b ∷ bs)) (field_ends patterns (unless_empty begun) b bs (read_fields patterns [] bs))
    by_begun [] lacking among later = record { earlier = []; stop = b; more = bs; parts = tt; stops = among; whole = refl }
    by_begun (x ∷ xs) lacking among later = by_stop x xs (b == 125) refl lacking among later

    go : (c : Bool) → is_among (codes ",}") b ≡ c → Explained (FieldsMade patterns bs) ⊥ (FieldsEmpty bs) (read_fields patterns [] bs) →
        (lacks (codes ",}") (begun ++ b ∷ []) ≡ true →
        Explained (FieldsMade patterns ((begun ++ b ∷ []) ++ bs)) ⊥ (FieldsEmpty ((begun ++ b ∷ []) ++ bs)) (read_fields patterns (begun ++ b ∷ []) bs)) →
        Explained (FieldsMade patterns (begun ++ b ∷ bs)) ⊥ (FieldsEmpty (begun ++ b ∷ bs))
        (if c then field_ends patterns (unless_empty begun) b bs (read_fields patterns [] bs) else read_fields patterns (begun ++ b ∷ []) bs)
    go true e later longer = by_begun begun lacking e later
    go false e later longer =
        subst (λ (t : List ℕ). Explained (FieldsMade patterns t) ⊥ (FieldsEmpty t) (read_fields patterns (begun ++ b ∷ []) bs)) (append_assoc begun (b ∷ []) bs)
        (longer (lacks_more (codes ",}") begun b lacking e))
