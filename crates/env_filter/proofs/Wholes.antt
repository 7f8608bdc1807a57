-- No level of a table that directives were added to is above its greatest.
use Rattle.std.proofs.Common.{◌≡◌, ℕ, ◌≤◌, List, [], ◌∷◌, length, map, Bool, Option, Some, None, refl, sym, ap, subst, ◌∙◌, arith, inl, inr, if◌then◌else◌, IfSome, is_some, count_by}
use Rattle.std.specs.List.{filter}
use Rattle.std.specs.declared.cmp.Ordering.{Ordering}
use Rattle.std.specs.declared.cmp.Ordering.TheVariants.{Less, Equal, Greater}
use Rattle.env_filter.proofs.Common.{match_ordering, cases_Bool, cond-true, cond-false, LevelFilter, OFF, greatest_verbosity, StaticDirective, Directive, directive_cmp, most_specific_first, DirectiveTable, empty_table, with_item_in_order, with_added, with_all_added, more_verbose, Care, OpenLevel, is_of_span, MatchState, FilterState, IsWholeFilter, IsNewFilter, Each, IsAtMostLevel, fresh_filter, first_below, second_below, is_static, is_dynamic, static_of, statics_of, dynamics_of, with_in_table, fixed_directive, with_tables, has_no_directives, or_default}

each_more : {X : Type 0} (level : X → LevelFilter) (most more : LevelFilter) → greatest_verbosity most ≤ greatest_verbosity more → (xs : List X) → Each (λ x. IsAtMostLevel most (level x)) xs → Each (λ x. IsAtMostLevel more (level x)) xs
each_more level most more up [] all = tt
each_more level most more up (x ∷ xs) all = (let here = all.0 in omega (arith, up, here), each_more level most more up xs all.1)

each_placed : {X : Type 0} (P : X → Type 0) (cmp : X → X → Ordering) (d : X) (xs : List X) → P d → Each P xs → Each P (with_item_in_order cmp d xs)
each_placed P cmp d [] one all = (one, tt)
each_placed {X} P cmp d (e ∷ es) one all = go (cmp d e) (each_placed P cmp d es one all.1)
  where
    go : (o : Ordering) → Each P (with_item_in_order cmp d es) → Each P (match_ordering o (d ∷ e ∷ es) (d ∷ es) (e ∷ with_item_in_order cmp d es))
    go Less rest = (one, all)
    go Equal rest = (one, all.1)
    go Greater rest = (all.0, rest)

some_placed : {X : Type 0} (cmp : X → X → Ordering) (d : X) (xs : List X) → length (with_item_in_order cmp d xs) ≡ 0 → ⊥
some_placed cmp d [] none = absurd (omega (arith, none))
some_placed {X} cmp d (e ∷ es) none = go (cmp d e) none
  where
    go : (o : Ordering) → length (match_ordering o (d ∷ e ∷ es) (d ∷ es) (e ∷ with_item_in_order cmp d es)) ≡ 0 → ⊥
    go Less zero = absurd (omega (arith, zero))
    go Equal zero = absurd (omega (arith, zero))
    go Greater zero = absurd (omega (arith, zero))

module _ {X : Type 0} (cmp : X → X → Ordering) (level : X → LevelFilter) where
  each_added : (d : X) (t : DirectiveTable X) → Each (λ e. IsAtMostLevel t.greatest (level e)) t.directives → Each (λ e. IsAtMostLevel (with_added cmp level d t).greatest (level e)) (with_added cmp level d t).directives
  each_added d t all =
      each_placed (λ e. IsAtMostLevel (more_verbose t.greatest (level d)) (level e)) cmp d t.directives (second_below t.greatest (level d))
      (each_more level t.greatest (more_verbose t.greatest (level d)) (first_below t.greatest (level d)) t.directives all)

  all_added : (ds : List X) (t : DirectiveTable X) → Each (λ e. IsAtMostLevel t.greatest (level e)) t.directives → Each (λ e. IsAtMostLevel (with_all_added cmp level ds t).greatest (level e)) (with_all_added cmp level ds t).directives
  all_added [] t all = all
  all_added (d ∷ ds) t all = all_added ds (with_added cmp level d t) (each_added d t all)

  off_added : (ds : List X) (t : DirectiveTable X) → (length t.directives ≡ 0 → t.greatest ≡ OFF) → length (with_all_added cmp level ds t).directives ≡ 0 → (with_all_added cmp level ds t).greatest ≡ OFF
  off_added [] t off none = off none
  off_added (d ∷ ds) t off none = off_added ds (with_added cmp level d t) (λ zero. absurd (some_placed cmp d t.directives zero)) none

whole_tables : (patterns : Bool) (ss : List StaticDirective) (ds : List Directive) → IsWholeFilter (with_tables patterns (with_all_added most_specific_first (λ d. d.level) ss empty_table) (with_all_added directive_cmp (λ d. d.level) ds empty_table))
whole_tables patterns ss ds = record {
  statics = all_added most_specific_first (λ (d : StaticDirective). d.level) ss empty_table tt;
  dynamics = all_added directive_cmp (λ (d : Directive). d.level) ds empty_table tt;
  spans = λ id. tt;
  lanes = λ lane. tt;
  none = off_added directive_cmp (λ (d : Directive). d.level) ds empty_table (λ zero. refl);
}

matches_more : (most more : LevelFilter) → greatest_verbosity most ≤ greatest_verbosity more → (o : Option MatchState) → IfSome o (λ w. Each (λ (care : Care). IsAtMostLevel most care.level) w.cares) → IfSome o (λ w. Each (λ (care : Care). IsAtMostLevel more care.level) w.cares)
matches_more most more up None all = tt
matches_more most more up (Some w) all = each_more (λ (care : Care). care.level) most more up w.cares all

pub whole_placed : (f : FilterState) (d : Directive) → IsWholeFilter f → IsWholeFilter (with_in_table f d)
whole_placed f d w = elim (cases_Bool (is_static d)) [
  | inl static ↦ subst IsWholeFilter (sym (cond-true {A = FilterState} (is_static d) _ _ static)) (record {
    statics = each_added most_specific_first (λ (e : StaticDirective). e.level) (static_of d) f.statics w.statics;
    dynamics = w.dynamics;
    spans = w.spans;
    lanes = w.lanes;
    none = w.none;
  })
  | inr dynamic ↦ (
      let up = first_below f.dynamics.greatest d.level in
      subst IsWholeFilter (sym (cond-false {A = FilterState} (is_static d) _ _ dynamic)) (record {
        statics = w.statics;
        dynamics = each_added directive_cmp (λ (e : Directive). e.level) d f.dynamics w.dynamics;
        spans = λ id. matches_more f.dynamics.greatest (more_verbose f.dynamics.greatest d.level) up (f.spans id) (w.spans id);
        lanes = λ lane. each_more (λ (e : OpenLevel). e.level) f.dynamics.greatest (more_verbose f.dynamics.greatest d.level) up (f.lanes lane) (w.lanes lane);
        none = λ zero. absurd (some_placed directive_cmp d f.dynamics.directives zero);
      }))
]

whole_fresh : (f : FilterState) → IsWholeFilter f → IsWholeFilter (fresh_filter f)
whole_fresh f w = record { statics = w.statics; dynamics = w.dynamics; spans = λ id. tt; lanes = λ lane. tt; none = w.none }

-- a filter with no span and no level
pub new_fresh : (f : FilterState) → IsWholeFilter f → IsNewFilter (fresh_filter f)
new_fresh f w = record { whole = whole_fresh f w; none = record { none = λ id. refl; no_entries = λ lane id. refl }; alone = refl }

new_as : (f g : FilterState) → IsNewFilter f → IsWholeFilter g → g.spans ≡ f.spans → g.lanes ≡ f.lanes → IsNewFilter g
new_as f g n w spans lanes = record {
  whole = w;
  none = record {
    none = λ id. ap (λ (h : ℕ → Option MatchState). is_some (h id)) spans ∙ n.none.none id;
    no_entries = λ lane id. ap (λ (h : ℕ → List OpenLevel). count_by (is_of_span id) (h lane)) lanes ∙ n.none.no_entries lane id;
  };
  alone =
      ap (λ (h : ℕ → Option MatchState). let k : FilterState = record g { spans = h } in k) (spans ∙ ap (λ (h : FilterState). h.spans) n.alone)
      ∙ ap (λ (h : ℕ → List OpenLevel). let k : FilterState = record g { spans = λ id. None; lanes = h } in k) (lanes ∙ ap (λ (h : FilterState). h.lanes) n.alone);
}

pub new_placed : (f : FilterState) (d : Directive) → IsNewFilter f → IsNewFilter (with_in_table f d)
new_placed f d n = elim (cases_Bool (is_static d)) [
  | inl static ↦ (
      let is = cond-true {A = FilterState} (is_static d) _ _ static in
      new_as f (with_in_table f d) n (whole_placed f d n.whole) (ap (λ (g : FilterState). g.spans) is) (ap (λ (g : FilterState). g.lanes) is))
  | inr dynamic ↦ (
      let is = cond-false {A = FilterState} (is_static d) _ _ dynamic in
      new_as f (with_in_table f d) n (whole_placed f d n.whole) (ap (λ (g : FilterState). g.spans) is) (ap (λ (g : FilterState). g.lanes) is))
]

pub new_of : (f : FilterState) (patterns : Bool) (statics : DirectiveTable StaticDirective) (dynamics : DirectiveTable Directive) (ds es : List Directive) → f ≡ with_tables patterns statics dynamics → statics ≡ statics_of ds → dynamics ≡ dynamics_of es → IsNewFilter f
new_of f patterns statics dynamics ds es is static dynamic =
    let tables : f ≡ with_tables patterns (statics_of ds) (dynamics_of es) = is ∙ ap (λ (t : DirectiveTable StaticDirective). with_tables patterns t dynamics) static ∙ ap (λ (t : DirectiveTable Directive). with_tables patterns (statics_of ds) t) dynamic in
    subst IsNewFilter (sym tables) (new_fresh (with_tables patterns (statics_of ds) (dynamics_of es)) (whole_tables patterns (map static_of (filter is_static ds)) (filter is_dynamic es)))

pub new_or_default : (default : Option Directive) (f : FilterState) → IsNewFilter f → IsNewFilter (or_default default f)
new_or_default None f n = n
new_or_default (Some d) f n = elim (cases_Bool (has_no_directives f)) [
  | inl none ↦ subst IsNewFilter (sym (cond-true {A = FilterState} (has_no_directives f) _ _ none)) (new_placed f (if f.patterns then d else fixed_directive d) n)
  | inr some ↦ subst IsNewFilter (sym (cond-false {A = FilterState} (has_no_directives f) _ _ some)) n
]

pub new_default : (patterns : Bool) → IsNewFilter (with_tables patterns empty_table empty_table)
new_default patterns = new_fresh (with_tables patterns empty_table empty_table) (whole_tables patterns [] [])
