-- The directives that a filter prints make its tables again.
use Rattle.std.proofs.Common.{◌≡◌, ℕ, ◌≤◌, List, [], ◌∷◌, ◌++◌, length, map, Bool, true, false, true≢false, cond, not, Option, Some, None, option_map, filter, refl, sym, ap, subst, ◌∙◌, arith, ◌==◌, ◌&&◌, ◌||◌, if◌then◌else◌, is_some, max, reverse}
use Rattle.env_filter.proofs.Common.{AllByRecursion, list_any, option_or, option_cmp, ordering_then, and_parts, and_from, reverse-append, map-append, find-append, list_any-append, LevelFilter, greatest_verbosity, directive_cmp, target_length, most_specific_first, empty_table, with_all_added, greatest_of, IsTableOf, StaticDirective, Directive, Match, Each, asks_value, bare_field, as_directive, printed_directives, printed_of, HasOwnGreatest, is_static, is_dynamic, static_of, statics_of, dynamics_of, with_tables, filter_of}
use Rattle.std.specs.List.{find}
use Rattle.std.specs.List.Sorted.{IsStrictlySortedBy}
use Rattle.std.specs.Cmp.{IsTotalOrder, Equal-is, tied_back, tied_itself, alike_right, then_total, on_total, back_total, nat_cmp_total}
use Rattle.std.specs.Cmp.Lexicographic.{slice_cmp, options_total, lists_total}
use Rattle.std.specs.declared.cmp.Ordering.{Ordering}
use Rattle.std.specs.declared.cmp.Ordering.TheVariants.{Less, Equal, Greater}
use Rattle.std.specs.Ordering.{is_eq}
use Rattle.std.proofs.lemmas.Cmp.{ranked}
use Rattle.std.proofs.lemmas.List.Elements.{filter-append}
use Rattle.std.proofs.lemmas.Map.Keys.{sorted_head, sorted_tail}
use Rattle.trace_base.specs.declared.level.LevelFilter.TheVariants as filters
use Rattle.env_directives.specs.laws.DirectiveLemmas.{directive_total}
use Rattle.env_directives.specs.orders.FieldOrder.{text_cmp}
use Rattle.env_directives.specs.declared.env.field.ValueMatch.{ValueMatch}
use Rattle.env_directives.proofs.tables.TablesLemmas.{kept, same_found}
use Rattle.env_directives.proofs.tables.TiesLemmas.{directive_tie}
use Rattle.env_filter.proofs.printed.RefusalsLemmas.{both_each}

-- ---- what is found from the end

last_cons : {X : Type 0} (p : X → Bool) (x : X) (xs : List X) → find p (reverse (x ∷ xs)) ≡ option_or (find p (reverse xs)) (cond (p x) (Some x) None)
last_cons p x xs = ap (find p) (reverse-append (x ∷ []) xs) ∙ find-append p (reverse xs) (x ∷ [])

or_none : {X : Type 0} (o : Option X) → option_or o None ≡ o
or_none None = refl
or_none (Some x) = refl

find_alike : {X : Type 0} (p q : X → Bool) → ((x : X) → p x ≡ q x) → (xs : List X) → find p xs ≡ find q xs
find_alike p q same [] = refl
find_alike {X} p q same (x ∷ xs) = ap (λ (b : Bool). cond {A = Option X} b (Some x) (find p xs)) (same x) ∙ ap (λ (o : Option X). cond (q x) (Some x) o) (find_alike p q same xs)

find_passes : {X : Type 0} (p : X → Bool) (xs : List X) (x : X) → find p xs ≡ Some x → p x ≡ true
find_passes p [] x is = absurd (cc is)
find_passes {X} p (y ∷ xs) x is = by_test (p y) refl (find_passes p xs x) is
  where
    by_test : (b : Bool) → p y ≡ b → (find p xs ≡ Some x → p x ≡ true) → cond {A = Option X} b (Some y) (find p xs) ≡ Some x → p x ≡ true
    by_test true t rest is = (let same : y ≡ x = cc is in subst (λ (z : X). p z ≡ true) same t)
    by_test false t rest is = rest is

-- among those that pass a test, and through a map
last_filter : {X : Type 0} (q p : X → Bool) (xs : List X) → find p (reverse (filter q xs)) ≡ find (λ x. q x && p x) (reverse xs)
last_filter q p [] = refl
last_filter {X} q p (x ∷ xs) = by_test (q x) (last_filter q p xs) ∙ sym (last_cons (λ y. q y && p y) x xs)
  where
    by_test : (b : Bool) → find p (reverse (filter q xs)) ≡ find (λ y. q y && p y) (reverse xs)
        → find p (reverse (cond {A = List X} b (x ∷ filter q xs) (filter q xs))) ≡ option_or (find (λ y. q y && p y) (reverse xs)) (cond (b && p x) (Some x) None)
    by_test true rest = last_cons p x (filter q xs) ∙ ap (λ (o : Option X). option_or o (cond (p x) (Some x) None)) rest
    by_test false rest = rest ∙ sym (or_none (find (λ y. q y && p y) (reverse xs)))

last_map : {X Y : Type 0} (f : X → Y) (p : Y → Bool) (xs : List X) → find p (reverse (map f xs)) ≡ option_map f (find (λ x. p (f x)) (reverse xs))
last_map f p [] = refl
last_map {X} {Y} f p (x ∷ xs) =
    last_cons p (f x) (map f xs) ∙ ap (λ (o : Option Y). option_or o (cond (p (f x)) (Some (f x)) None)) (last_map f p xs)
    ∙ by_test (find (λ y. p (f y)) (reverse xs)) (p (f x)) ∙ sym (ap (option_map f) (last_cons (λ y. p (f y)) x xs))
  where
    by_test : (o : Option X) (b : Bool) → option_or (option_map f o) (cond b (Some (f x)) None) ≡ option_map f (option_or o (cond b (Some x) None))
    by_test (Some y) b = refl
    by_test None true = refl
    by_test None false = refl

none_last : {X : Type 0} (p : X → Bool) (xs : List X) → find p (reverse xs) ≡ None → list_any p xs ≡ false
none_last p [] is = refl
none_last {X} p (x ∷ xs) is = by_later (find p (reverse xs)) refl (p x) (none_last p xs) (sym (last_cons p x xs) ∙ is)
  where
    by_later : (o : Option X) → find p (reverse xs) ≡ o → (b : Bool) → (find p (reverse xs) ≡ None → list_any p xs ≡ false) → option_or o (cond b (Some x) None) ≡ None → (b || list_any p xs) ≡ false
    by_later (Some y) found b rest is = absurd (cc is)
    by_later None found true rest is = absurd (cc is)
    by_later None found false rest is = rest found

none_found : {X : Type 0} (p : X → Bool) (xs : List X) → list_any p xs ≡ false → find p xs ≡ None
none_found p [] is = refl
none_found {X} p (x ∷ xs) is = by_test (p x) (none_found p xs) is
  where
    by_test : (b : Bool) → (list_any p xs ≡ false → find p xs ≡ None) → (b || list_any p xs) ≡ false → cond {A = Option X} b (Some x) (find p xs) ≡ None
    by_test true rest is = absurd (true≢false is)
    by_test false rest is = rest is

-- ---- a table from its own directives, in any order and more than once

module _ {T : Type 0} {cmp : T → T → Ordering} (order : IsTotalOrder cmp) where
  abbrev like : T → T → Bool
  like x e = is_eq (cmp e x)

  -- it stands in a table
  abbrev In : List T → T → Type 0
  In table x = find (like x) table ≡ Some x

  like_same : (x m : T) (table : List T) → like x m ≡ true → find (like x) table ≡ find (like m) table
  like_same x m table is = find_alike (like x) (like m) (λ e. ap is_eq (alike_right order x m e (tied_back order m x ((Equal-is (cmp m x)).0 is)))) table

  of_last : (x : T) (table more : List T) (m : T) → Each (In table) more → find (like x) (reverse more) ≡ Some m → find (like x) table ≡ Some m
  of_last x table [] m all is = absurd (cc is)
  of_last x table (a ∷ more) m all is = by_later (find (like x) (reverse more)) refl (like x a) refl (of_last x table more m all.1) (sym (last_cons (like x) a more) ∙ is)
    where
      by_later : (o : Option T) → find (like x) (reverse more) ≡ o → (b : Bool) → like x a ≡ b → (find (like x) (reverse more) ≡ Some m → find (like x) table ≡ Some m) → option_or o (cond b (Some a) None) ≡ Some m → find (like x) table ≡ Some m
      by_later (Some y) found b t rest is = rest (found ∙ is)
      by_later None found true t rest is = like_same x a table t ∙ all.0 ∙ is
      by_later None found false t rest is = absurd (cc is)

  again : (level : T → LevelFilter) (table more : List T) → IsStrictlySortedBy cmp table → Each (In table) more → ((p : T → Bool) → list_any p more ≡ false → list_any p table ≡ false)
      → (with_all_added cmp level more empty_table).directives ≡ table
  again level table more sorted all within =
      let made = kept order level more in
      same_found order (with_all_added cmp level more empty_table).directives table made.in_order sorted (λ x. made.lasts x ∙ by_found x (find (like x) (reverse more)) refl)
    where
      by_found : (x : T) (o : Option T) → find (like x) (reverse more) ≡ o → find (like x) (reverse more) ≡ find (like x) table
      by_found x (Some m) found = found ∙ sym (of_last x table more m all found)
      by_found x None found = found ∙ sym (none_found (like x) table (within (like x) (none_last (like x) more found)))

  itself : (table : List T) → IsStrictlySortedBy cmp table → Each (In table) table
  itself [] sorted = tt
  itself (a ∷ xs) sorted = (
    ap (λ (r : Ordering). cond (is_eq r) (Some a) (find (like a) xs)) (tied_itself order a),
    behind xs (sorted_head cmp a xs sorted) (itself xs (sorted_tail cmp a xs sorted)),
  )
    where
      behind : (ls : List T) → AllByRecursion (λ y. cmp a y ≡ Less) ls → Each (In xs) ls → Each (In (a ∷ xs)) ls
      behind [] less all = tt
      behind (l ∷ ls) less all = (ap (λ (r : Ordering). cond (is_eq r) (Some a) (find (like l) xs)) less.0 ∙ all.0, behind ls less.1 all.1)

-- ---- static directives and directives

static_total : IsTotalOrder most_specific_first
static_total =
    back_total (then_total (then_total (then_total
    (on_total target_length (options_total nat_cmp_total))
    (on_total (λ (d : StaticDirective). length d.field_names) nat_cmp_total))
    (on_total (λ (d : StaticDirective). d.target) (options_total (lists_total nat_cmp_total))))
    (on_total (λ (d : StaticDirective). d.field_names) (lists_total (lists_total nat_cmp_total))))

untied : (o : Ordering) → is_eq o ≡ false → o ≡ Equal → ⊥
untied o other h = true≢false (ap is_eq (sym h) ∙ other)

both_equal : (o p : Ordering) → ordering_then o p ≡ Equal → (o ≡ Equal) × (p ≡ Equal)
both_equal Less p h = absurd (untied _ refl h)
both_equal Equal p h = (refl, h)
both_equal Greater p h = absurd (untied _ refl h)

list_tie : {X : Type 0} (R : X → X → Ordering) → ((x y : X) → R x y ≡ Equal → x ≡ y) → (xs ys : List X) → slice_cmp R xs ys ≡ Equal → xs ≡ ys
list_tie R tie [] [] h = refl
list_tie R tie [] (y ∷ ys) h = absurd (untied _ refl h)
list_tie R tie (x ∷ xs) [] h = absurd (untied _ refl h)
list_tie R tie (x ∷ xs) (y ∷ ys) h = let both = both_equal (R x y) (slice_cmp R xs ys) h in λ i. tie x y both.0 i ∷ list_tie R tie xs ys both.1 i

text_tie : (xs ys : List ℕ) → text_cmp xs ys ≡ Equal → xs ≡ ys
text_tie = list_tie _ (λ x y h. ranked x y Equal (sym h))

target_tie : (a b : Option (List ℕ)) → option_cmp text_cmp a b ≡ Equal → a ≡ b
target_tie None None h = refl
target_tie None (Some y) h = absurd (untied _ refl h)
target_tie (Some x) None h = absurd (untied _ refl h)
target_tie (Some x) (Some y) h = ap Some (text_tie x y h)

static_tie : (a b : StaticDirective) → most_specific_first a b ≡ Equal → (b.target ≡ a.target) × (b.field_names ≡ a.field_names)
static_tie a b h =
    let last = both_equal _ _ h in
    let targets = both_equal _ _ last.0 in
    (target_tie b.target a.target targets.1, list_tie text_cmp text_tie b.field_names a.field_names last.1)

-- a static directive is told by what it prints
no_value : (o : Option ValueMatch) → is_some o ≡ false → o ≡ None
no_value None is = refl
no_value (Some v) is = absurd (true≢false is)

no_span : (o : Option (List ℕ)) → not (is_some o) ≡ true → None ≡ o
no_span None is = refl
no_span (Some s) is = absurd (true≢false (sym is))

neither : (a b : Bool) → (a || b) ≡ false → (a ≡ false) × (b ≡ false)
neither true b is = absurd (true≢false is)
neither false b is = (refl, is)

fields_bare : (fs : List Match) → list_any asks_value fs ≡ false → map bare_field (map (λ field. field.name) fs) ≡ fs
fields_bare [] is = refl
fields_bare (f ∷ fs) is =
    let parts = neither (asks_value f) (list_any asks_value fs) is in
    let field : bare_field f.name ≡ f = sym (λ i. record { name = f.name; value = no_value f.value parts.0 i }) in
    λ i. field i ∷ fields_bare fs parts.1 i

not_true : (b : Bool) → not b ≡ true → b ≡ false
not_true true is = absurd (true≢false (sym is))
not_true false is = refl

static_again : (e : Directive) → is_static e ≡ true → as_directive (static_of e) ≡ e
static_again e is =
    let parts = and_parts (not (is_some e.in_span)) (not (list_any asks_value e.fields)) is in
    let span = no_span e.in_span parts.0 in
    let fields = fields_bare e.fields (not_true (list_any asks_value e.fields) parts.1) in
    λ i. record { in_span = span i; fields = fields i; target = e.target; level = e.level }

bare_asks : (names : List (List ℕ)) → list_any asks_value (map bare_field names) ≡ false
bare_asks [] = refl
bare_asks (n ∷ names) = bare_asks names

bare_names : (names : List (List ℕ)) → map (λ (field : Match). field.name) (map bare_field names) ≡ names
bare_names [] = refl
bare_names (n ∷ names) = ap (λ (ns : List (List ℕ)). n ∷ ns) (bare_names names)

is_static_again : (s : StaticDirective) → is_static (as_directive s) ≡ true
is_static_again s = ap not (bare_asks s.field_names)

same_static : (s : StaticDirective) → static_of (as_directive s) ≡ s
same_static s = λ i. record { target = s.target; field_names = bare_names s.field_names i; level = s.level }

statics_again : (ss : List StaticDirective) → map static_of (filter is_static (map as_directive ss)) ≡ ss
statics_again [] = refl
statics_again (s ∷ ss) =
    ap (λ (b : Bool). map static_of (cond {A = List Directive} b (as_directive s ∷ filter is_static (map as_directive ss)) (filter is_static (map as_directive ss)))) (is_static_again s)
    ∙ (λ i. same_static s i ∷ statics_again ss i)

one_truth : (a b : Bool) → (a ≡ true → b ≡ true) → (b ≡ true → a ≡ true) → a ≡ b
one_truth true b to back = sym (to refl)
one_truth false true to back = back refl
one_truth false false to back = refl

-- ---- one of both kinds is the last of its equals in both tables

module _ (d : Directive) (static : is_static d ≡ true) (dynamic : is_dynamic d ≡ true) where
  abbrev as_static : Directive → Bool
  as_static e = is_static e && is_eq (most_specific_first (static_of e) (static_of d))

  abbrev as_dynamic : Directive → Bool
  as_dynamic e = is_dynamic e && is_eq (directive_cmp e d)

  both_pass : (e : Directive) → e ≡ record d { level = e.level } → (as_static e ≡ true) × (as_dynamic e ≡ true)
  both_pass e is = (
    and_from (is_static e) (is_eq (most_specific_first (static_of e) (static_of d))) (ap is_static is ∙ static)
        (ap (λ (x : Directive). is_eq (most_specific_first (static_of x) (static_of d))) is ∙ ap is_eq (tied_itself static_total (static_of d))),
    and_from (is_dynamic e) (is_eq (directive_cmp e d)) (ap is_dynamic is ∙ dynamic)
        (ap (λ (x : Directive). is_eq (directive_cmp x d)) is ∙ ap is_eq (tied_itself directive_total d)),
  )

  by_static : (e : Directive) → as_static e ≡ true → e ≡ record d { level = e.level }
  by_static e is =
      let parts = and_parts (is_static e) (is_eq (most_specific_first (static_of e) (static_of d))) is in
      let tie = static_tie (static_of e) (static_of d) ((Equal-is (most_specific_first (static_of e) (static_of d))).0 parts.1) in
      let same : static_of e ≡ record (static_of d) { level = e.level } = λ i. record { target = sym tie.0 i; field_names = sym tie.1 i; level = e.level } in
      sym (static_again e parts.0) ∙ ap as_directive same ∙ ap (λ (x : Directive). record x { level = e.level }) (static_again d static)

  by_dynamic : (e : Directive) → as_dynamic e ≡ true → e ≡ record d { level = e.level }
  by_dynamic e is =
      let parts = and_parts (is_dynamic e) (is_eq (directive_cmp e d)) is in
      let tie = directive_tie e d ((Equal-is (directive_cmp e d)).0 parts.1) in
      λ i. record { in_span = tie.1 i; fields = tie.2 i; target = tie.0 i; level = e.level }

  pub same_test : (e : Directive) → as_static e ≡ as_dynamic e
  same_test e = one_truth (as_static e) (as_dynamic e) (λ is. (both_pass e (by_static e is)).1) (λ is. (both_pass e (by_dynamic e is)).0)

abbrev level_of_static : StaticDirective → LevelFilter
level_of_static s = s.level

abbrev level_of_dynamic : Directive → LevelFilter
level_of_dynamic d = d.level

module _ (ds : List Directive) where
  abbrev statics : List StaticDirective
  statics = (statics_of ds).directives

  abbrev dynamics : List Directive
  dynamics = (dynamics_of ds).directives

  table_of_statics : IsTableOf most_specific_first level_of_static (map static_of (filter is_static ds)) (statics_of ds)
  table_of_statics = kept static_total level_of_static (map static_of (filter is_static ds))

  table_of_dynamics : IsTableOf directive_cmp level_of_dynamic (filter is_dynamic ds) (dynamics_of ds)
  table_of_dynamics = kept directive_total level_of_dynamic (filter is_dynamic ds)

  found_static : (s : StaticDirective) → find (like static_total s) statics ≡ option_map static_of (find (λ e. is_static e && is_eq (most_specific_first (static_of e) s)) (reverse ds))
  found_static s = table_of_statics.lasts s ∙ last_map static_of (like static_total s) (filter is_static ds) ∙ ap (option_map static_of) (last_filter is_static (λ e. is_eq (most_specific_first (static_of e) s)) ds)

  found_dynamic : (d : Directive) → find (like directive_total d) dynamics ≡ find (λ e. is_dynamic e && is_eq (directive_cmp e d)) (reverse ds)
  found_dynamic d = table_of_dynamics.lasts d ∙ last_filter is_dynamic (like directive_total d) ds

  dynamic_passes : (d : Directive) → In directive_total dynamics d → is_dynamic d ≡ true
  dynamic_passes d is = (and_parts (is_dynamic d) (is_eq (directive_cmp d d)) (find_passes (λ e. is_dynamic e && is_eq (directive_cmp e d)) (reverse ds) d (sym (found_dynamic d) ∙ is))).0

  static_in : (d : Directive) → is_static d ≡ true → In directive_total dynamics d → In static_total statics (static_of d)
  static_in d static is =
      found_static (static_of d)
      ∙ ap (option_map static_of) (find_alike _ _ (same_test d static (dynamic_passes d is)) (reverse ds) ∙ sym (found_dynamic d) ∙ is)

  dynamic_in : (s : StaticDirective) → is_dynamic (as_directive s) ≡ true → In static_total statics s → In directive_total dynamics (as_directive s)
  dynamic_in s dynamic is = by_found (find (λ e. is_static e && is_eq (most_specific_first (static_of e) s)) (reverse ds)) refl (sym (found_static s) ∙ is)
    where
      by_found : (o : Option Directive) → find (λ e. is_static e && is_eq (most_specific_first (static_of e) s)) (reverse ds) ≡ o → option_map static_of o ≡ Some s → In directive_total dynamics (as_directive s)
      by_found None found is = absurd (cc is)
      by_found (Some e) found is =
          let same : static_of e ≡ s = cc is in
          let static = (and_parts (is_static e) (is_eq (most_specific_first (static_of e) s)) (find_passes (λ e. is_static e && is_eq (most_specific_first (static_of e) s)) (reverse ds) e found)).0 in
          let it : as_directive s ≡ e = ap as_directive (sym same) ∙ static_again e static in
          let here : find (λ x. is_static x && is_eq (most_specific_first (static_of x) (static_of e))) (reverse ds) ≡ Some e =
          subst (λ (y : StaticDirective). find (λ x. is_static x && is_eq (most_specific_first (static_of x) y)) (reverse ds) ≡ Some e) (sym same) found in
          subst (In directive_total dynamics) (sym it)
          (found_dynamic e ∙ sym (find_alike _ _ (same_test e static (ap is_dynamic (sym it) ∙ dynamic)) (reverse ds)) ∙ here)

  -- the static ones among the dynamic ones, and the dynamic ones among the static ones
  statics_in : (xs : List Directive) → Each (In directive_total dynamics) xs → Each (In static_total statics) (map static_of (filter is_static xs))
  statics_in [] all = tt
  statics_in (x ∷ xs) all = by_test (is_static x) refl (statics_in xs all.1)
    where
      by_test : (b : Bool) → is_static x ≡ b → Each (In static_total statics) (map static_of (filter is_static xs)) → Each (In static_total statics) (map static_of (cond {A = List Directive} b (x ∷ filter is_static xs) (filter is_static xs)))
      by_test true t rest = (static_in x t all.0, rest)
      by_test false t rest = rest

  dynamics_in : (ss : List StaticDirective) → Each (In static_total statics) ss → Each (In directive_total dynamics) (filter is_dynamic (map as_directive ss))
  dynamics_in [] all = tt
  dynamics_in (s ∷ ss) all = by_test (is_dynamic (as_directive s)) refl (dynamics_in ss all.1)
    where
      by_test : (b : Bool) → is_dynamic (as_directive s) ≡ b → Each (In directive_total dynamics) (filter is_dynamic (map as_directive ss))
          → Each (In directive_total dynamics) (cond {A = List Directive} b (as_directive s ∷ filter is_dynamic (map as_directive ss)) (filter is_dynamic (map as_directive ss)))
      by_test true t rest = (dynamic_in s t all.0, rest)
      by_test false t rest = rest

  all_dynamic : (xs : List Directive) → Each (In directive_total dynamics) xs → filter is_dynamic xs ≡ xs
  all_dynamic [] all = refl
  all_dynamic (x ∷ xs) all =
      ap (λ (b : Bool). cond {A = List Directive} b (x ∷ filter is_dynamic xs) (filter is_dynamic xs)) (dynamic_passes x all.0) ∙ ap (λ (ys : List Directive). x ∷ ys) (all_dynamic xs all.1)

  each_static : Each (In static_total statics) statics
  each_static = itself static_total statics table_of_statics.in_order

  each_dynamic : Each (In directive_total dynamics) dynamics
  each_dynamic = itself directive_total dynamics table_of_dynamics.in_order

  -- what is printed makes the tables again
  to_statics : map static_of (filter is_static (printed_directives statics dynamics)) ≡ statics ++ map static_of (filter is_static dynamics)
  to_statics =
      ap (map static_of) (filter-append is_static (map as_directive statics) dynamics) ∙ map-append static_of (filter is_static (map as_directive statics)) (filter is_static dynamics)
      ∙ ap (λ (ss : List StaticDirective). ss ++ map static_of (filter is_static dynamics)) (statics_again statics)

  to_dynamics : filter is_dynamic (printed_directives statics dynamics) ≡ filter is_dynamic (map as_directive statics) ++ dynamics
  to_dynamics = filter-append is_dynamic (map as_directive statics) dynamics ∙ ap (λ (xs : List Directive). filter is_dynamic (map as_directive statics) ++ xs) (all_dynamic dynamics each_dynamic)

  pub same_statics : (statics_of (printed_of ds)).directives ≡ statics
  same_statics =
      let more = statics ++ map static_of (filter is_static dynamics) in
      ap (λ (ss : List StaticDirective). (with_all_added most_specific_first level_of_static ss empty_table).directives) to_statics
      ∙ again static_total level_of_static statics more table_of_statics.in_order
      (both_each (In static_total statics) statics (map static_of (filter is_static dynamics)) each_static (statics_in dynamics each_dynamic))
      (λ p none. (neither (list_any p statics) (list_any p (map static_of (filter is_static dynamics))) (sym (list_any-append p statics (map static_of (filter is_static dynamics))) ∙ none)).0)

  pub same_dynamics : (dynamics_of (printed_of ds)).directives ≡ dynamics
  same_dynamics =
      let more = filter is_dynamic (map as_directive statics) ++ dynamics in
      ap (λ (xs : List Directive). (with_all_added directive_cmp level_of_dynamic xs empty_table).directives) to_dynamics
      ∙ again directive_total level_of_dynamic dynamics more table_of_dynamics.in_order
      (both_each (In directive_total dynamics) (filter is_dynamic (map as_directive statics)) dynamics (dynamics_in statics each_static) each_dynamic)
      (λ p none. (neither (list_any p (filter is_dynamic (map as_directive statics))) (list_any p dynamics) (sym (list_any-append p (filter is_dynamic (map as_directive statics)) dynamics) ∙ none)).1)

-- ---- what holds of the directives holds of those that are printed

found_each : {X : Type 0} (P : X → Type 0) (p : X → Bool) (xs : List X) → Each P xs → (x : X) → find p xs ≡ Some x → P x
found_each P p [] all x is = absurd (cc is)
found_each {X} P p (y ∷ xs) all x is = by_test (p y) (found_each P p xs all.1 x) is
  where
    by_test : (b : Bool) → (find p xs ≡ Some x → P x) → cond {A = Option X} b (Some y) (find p xs) ≡ Some x → P x
    by_test true rest is = (let same : y ≡ x = cc is in subst P same all.0)
    by_test false rest is = rest is

each_reverse : {X : Type 0} (P : X → Type 0) (xs : List X) → Each P xs → Each P (reverse xs)
each_reverse P [] all = tt
each_reverse P (x ∷ xs) all = subst (Each P) (sym (reverse-append (x ∷ []) xs)) (both_each P (reverse xs) (x ∷ []) (each_reverse P xs all.1) (all.0, tt))

module _ (ds : List Directive) (P : Directive → Type 0) (all : Each P ds) where
  dynamics_hold : (xs : List Directive) → Each (In directive_total (dynamics ds)) xs → Each P xs
  dynamics_hold [] inside = tt
  dynamics_hold (x ∷ xs) inside = (
    found_each P (λ e. is_dynamic e && is_eq (directive_cmp e x)) (reverse ds) (each_reverse P ds all) x (sym (found_dynamic ds x) ∙ inside.0),
    dynamics_hold xs inside.1,
  )

  static_holds : (s : StaticDirective) → In static_total (statics ds) s → P (as_directive s)
  static_holds s is = by_found (find (λ e. is_static e && is_eq (most_specific_first (static_of e) s)) (reverse ds)) refl (sym (found_static ds s) ∙ is)
    where
      by_found : (o : Option Directive) → find (λ e. is_static e && is_eq (most_specific_first (static_of e) s)) (reverse ds) ≡ o → option_map static_of o ≡ Some s → P (as_directive s)
      by_found None found is = absurd (cc is)
      by_found (Some e) found is =
          let same : static_of e ≡ s = cc is in
          let static = (and_parts (is_static e) (is_eq (most_specific_first (static_of e) s)) (find_passes (λ e. is_static e && is_eq (most_specific_first (static_of e) s)) (reverse ds) e found)).0 in
          subst P (sym (static_again e static) ∙ ap as_directive same)
          (found_each P (λ e. is_static e && is_eq (most_specific_first (static_of e) s)) (reverse ds) (each_reverse P ds all) e found)

  statics_hold : (ss : List StaticDirective) → Each (In static_total (statics ds)) ss → Each P (map as_directive ss)
  statics_hold [] inside = tt
  statics_hold (s ∷ ss) inside = (static_holds s inside.0, statics_hold ss inside.1)

  pub each_printed : Each P (printed_of ds)
  each_printed = both_each P (map as_directive (statics ds)) (dynamics ds) (statics_hold (statics ds) (each_static ds)) (dynamics_hold (dynamics ds) (each_dynamic ds))

-- ---- greatest levels

abbrev heights : {T : Type 0} → (T → LevelFilter) → List T → List ℕ
heights level xs = map (λ x. greatest_verbosity (level x)) xs

abbrev of_height : ℕ → LevelFilter
of_height n = if n == 0 then filters.OFF else if n == 1 then filters.ERROR else if n == 2 then filters.WARN else if n == 3 then filters.INFO else if n == 4 then filters.DEBUG else filters.TRACE

its_height : (f : LevelFilter) → of_height (greatest_verbosity f) ≡ f
its_height filters.OFF = refl
its_height filters.ERROR = refl
its_height filters.WARN = refl
its_height filters.INFO = refl
its_height filters.DEBUG = refl
its_height filters.TRACE = refl

same_height : (f g : LevelFilter) → greatest_verbosity f ≡ greatest_verbosity g → f ≡ g
same_height f g same = sym (its_height f) ∙ ap of_height same ∙ its_height g

greatest_append : (ms ns : List ℕ) → greatest_of (ms ++ ns) ≡ max (greatest_of ms) (greatest_of ns)
greatest_append [] ns = omega arith
greatest_append (m ∷ ms) ns = omega (arith, greatest_append ms ns)

found_below : {T : Type 0} (level : T → LevelFilter) (p : T → Bool) (xs : List T) (x : T) → find p xs ≡ Some x → greatest_verbosity (level x) ≤ greatest_of (heights level xs)
found_below level p [] x is = absurd (cc is)
found_below {T} level p (y ∷ xs) x is = by_test (p y) (found_below level p xs x) is
  where
    by_test : (b : Bool) → (find p xs ≡ Some x → greatest_verbosity (level x) ≤ greatest_of (heights level xs)) → cond {A = Option T} b (Some y) (find p xs) ≡ Some x → greatest_verbosity (level x) ≤ greatest_of (heights level (y ∷ xs))
    by_test true rest is = (let same : y ≡ x = cc is in let e = ap (λ (z : T). greatest_verbosity (level z)) same in omega (arith, e))
    by_test false rest is = let less = rest is in omega (arith, less)

all_below : {T : Type 0} {cmp : T → T → Ordering} (order : IsTotalOrder cmp) (level : T → LevelFilter) (table more : List T) → Each (In order table) more → greatest_of (heights level more) ≤ greatest_of (heights level table)
all_below order level table [] all = omega arith
all_below order level table (x ∷ more) all =
    let one = found_below level (like order x) table x all.0 in
    let rest = all_below order level table more all.1 in
    omega (arith, one, rest)

module _ (ds : List Directive) (own : HasOwnGreatest level_of_static (statics_of ds)) (own_too : HasOwnGreatest level_of_dynamic (dynamics_of ds)) where
  same_static_greatest : (statics_of (printed_of ds)).greatest ≡ (statics_of ds).greatest
  same_static_greatest =
      let more = map static_of (filter is_static (dynamics ds)) in
      let made = kept static_total level_of_static (map static_of (filter is_static (printed_of ds))) in
      let less = all_below static_total level_of_static (statics ds) more (statics_in ds (dynamics ds) (each_dynamic ds)) in
      let parts = ap (λ (ss : List StaticDirective). greatest_of (heights level_of_static ss)) (to_statics ds)
      ∙ ap greatest_of (map-append (λ (s : StaticDirective). greatest_verbosity s.level) (statics ds) more) ∙ greatest_append (heights level_of_static (statics ds)) (heights level_of_static more) in
      same_height (statics_of (printed_of ds)).greatest (statics_of ds).greatest (let e = made.greatest in omega (arith, e, parts, less, own))

  same_dynamic_greatest : (dynamics_of (printed_of ds)).greatest ≡ (dynamics_of ds).greatest
  same_dynamic_greatest =
      let more = filter is_dynamic (map as_directive (statics ds)) in
      let made = kept directive_total level_of_dynamic (filter is_dynamic (printed_of ds)) in
      let less = all_below directive_total level_of_dynamic (dynamics ds) more (dynamics_in ds (statics ds) (each_static ds)) in
      let parts = ap (λ (xs : List Directive). greatest_of (heights level_of_dynamic xs)) (to_dynamics ds)
      ∙ ap greatest_of (map-append (λ (d : Directive). greatest_verbosity d.level) more (dynamics ds)) ∙ greatest_append (heights level_of_dynamic more) (heights level_of_dynamic (dynamics ds)) in
      same_height (dynamics_of (printed_of ds)).greatest (dynamics_of ds).greatest (let e = made.greatest in omega (arith, e, parts, less, own_too))

  same_filter : (patterns : Bool) → filter_of patterns None (printed_of ds) ≡ filter_of patterns None ds
  same_filter patterns = λ i. with_tables patterns
      (record { directives = same_statics ds i; greatest = same_static_greatest i }) (record { directives = same_dynamics ds i; greatest = same_dynamic_greatest i })

pub filter_again : (patterns : Bool) (ds : List Directive) → HasOwnGreatest level_of_static (statics_of ds) → HasOwnGreatest level_of_dynamic (dynamics_of ds) → filter_of patterns None (printed_of ds) ≡ filter_of patterns None ds
filter_again patterns ds own own_too = same_filter ds own own_too patterns
