-- A table of directives: what it keeps of those that were added.
use Rattle.std.specs.Prelude.{◌≡◌, ℕ, max, map, reverse, List, [], ◌∷◌, ◌++◌, nat_le, if◌then◌else◌}
use Rattle.std.specs.declared.cmp.Ordering.{Ordering}
use Rattle.std.specs.Ordering.{match_ordering, is_eq}
use Rattle.std.specs.List.{find}
use Rattle.std.specs.List.Sorted.{IsStrictlySortedBy}
use Rattle.trace_base.specs.declared.level.LevelFilter.{LevelFilter}
use Rattle.trace_base.specs.declared.level.LevelFilter.TheVariants.{OFF}
use Rattle.trace_base.specs.words.Level.{greatest_verbosity}

-- what a set stands for
pub record DirectiveTable (T : Type 0) : Type 0 where
  -- the directives in their order, the most specific first
  pub directives : List T
  -- the greatest level that was ever added
  pub greatest : LevelFilter

abbrev pub empty_table : {T : Type 0} → DirectiveTable T
empty_table = record { directives = []; greatest = OFF }

-- the more verbose of two
abbrev pub more_verbose : LevelFilter → LevelFilter → LevelFilter
more_verbose f g = if nat_le (greatest_verbosity g) (greatest_verbosity f) then f else g

-- the directives with one at its place in the order, where it replaces its equal
abbrev pub with_item_in_order : {T : Type 0} → (T → T → Ordering) → T → List T → List T
with_item_in_order cmp d [] = d ∷ []
with_item_in_order cmp d (e ∷ es) = match_ordering (cmp d e) (d ∷ e ∷ es) (d ∷ es) (e ∷ with_item_in_order cmp d es)

-- the table after one directive more
abbrev pub with_added : {T : Type 0} → (T → T → Ordering) → (T → LevelFilter) → T → DirectiveTable T → DirectiveTable T
with_added cmp level d t =
    record { directives = with_item_in_order cmp d t.directives; greatest = more_verbose t.greatest (level d) }

-- the table after several directives more, the first of them added first
abbrev pub with_all_added : {T : Type 0} → (T → T → Ordering) → (T → LevelFilter) → List T → DirectiveTable T → DirectiveTable T
with_all_added cmp level [] t = t
with_all_added cmp level (d ∷ ds) t = with_all_added cmp level ds (with_added cmp level d t)

-- directives were added in turn until one of them was refused
pub record AddsSome {T : Type 0} (cmp : T → T → Ordering) (level : T → LevelFilter) (ds : List T) (old new : DirectiveTable T) : Type 0 where
  pub added : List T
  pub refused : T
  pub others : List T
  pub all : ds ≡ added ++ refused ∷ others
  pub table : new ≡ with_all_added cmp level added old

-- the greatest of numbers, 0 where there is none
abbrev pub greatest_of : List ℕ → ℕ
greatest_of [] = 0
greatest_of (n ∷ ns) = max n (greatest_of ns)

-- a table is that of directives which were added in turn: it is in order without equals; under each directive it has the
-- last that was added of those equal to it, if there was one; and its greatest level is the greatest that was added, OFF
-- where there was none
pub record IsTableOf {T : Type 0} (cmp : T → T → Ordering) (level : T → LevelFilter) (ds : List T) (t : DirectiveTable T) : Type 0 where
  pub in_order : IsStrictlySortedBy cmp t.directives
  pub lasts : (d : T) → find (λ e. is_eq (cmp e d)) t.directives ≡ find (λ e. is_eq (cmp e d)) (reverse ds)
  pub greatest : greatest_verbosity t.greatest ≡ greatest_of (map (λ d. greatest_verbosity (level d)) ds)
