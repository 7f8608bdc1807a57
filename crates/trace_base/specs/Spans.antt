-- What every subscriber knows of its spans.
use Rattle.std.specs.Prelude.{ℕ, ◌+◌, ◌-◌, ◌==◌, if◌then◌else◌, Bool, List, [], ◌∷◌, ◌++◌, Option, Some, None, option_map, count_by, slice_index_or, slice_set, false}
use Rattle.std.specs.List.{list_any}
use Rattle.trace_base.specs.declared.span.Parent.{Parent}
use Rattle.trace_base.specs.declared.span.Parent.TheVariants as parent

-- a span: how many holds it has, its parent and its callsite's site
pub record Span : Type 0 where
  pub holds : ℕ
  pub parent : Option ℕ
  pub site : ℕ

-- the entries that are open on a lane, in order
pub record Entries : Type 0 where
  pub lane : ℕ
  pub ids : List ℕ

-- all spans that were made, by id, and the lanes that something was entered on
pub record Spans : Type 0 where
  pub made : List Span
  pub lanes : List Entries

-- what stands for a span that closed, and past those that were made
abbrev pub no_span : Span
no_span = record { holds = 0; parent = None; site = 0 }

-- the span of an id
abbrev pub span_at : List Span → ℕ → Span
span_at made id = slice_index_or made id no_span

-- the entries on a lane, none where nothing was entered
abbrev pub entries_on : ℕ → List Entries → List ℕ
entries_on lane [] = []
entries_on lane (e ∷ es) = if e.lane == lane then e.ids else entries_on lane es

-- the lanes with these entries on one of them
abbrev pub with_entries : ℕ → List ℕ → List Entries → List Entries
with_entries lane ids [] = record { lane = lane; ids = ids } ∷ []
with_entries lane ids (e ∷ es) = if e.lane == lane then record { lane = lane; ids = ids } ∷ es else e ∷ with_entries lane ids es

-- one of the entries is of the span
abbrev pub is_in : ℕ → List ℕ → Bool
is_in id ids = list_any (λ x. x == id) ids

-- how many entries are of the span
abbrev pub times_in : ℕ → List ℕ → ℕ
times_in id ids = count_by (λ x. x == id) ids

-- the lane has an entry of the span
abbrev pub has_entry : ℕ → Entries → Bool
has_entry id e = is_in id e.ids

-- on how many lanes a span is entered: each has a first entry of it
abbrev pub entered_lane_count : List Entries → ℕ → ℕ
entered_lane_count lanes id = count_by (has_entry id) lanes

-- that parent is the span
abbrev pub is_child_of : ℕ → Option ℕ → Bool
is_child_of id None = false
is_child_of id (Some p) = p == id

-- a child of the span that has a hold
abbrev pub is_open_child : ℕ → Span → Bool
is_open_child id span = if 0 == span.holds then false else is_child_of id span.parent

-- how many open children a span has
abbrev pub open_child_count : List Span → ℕ → ℕ
open_child_count made id = count_by (is_open_child id) made

-- how many holds of a span are those of its entries and its open children
abbrev pub bound_holds : Spans → ℕ → ℕ
bound_holds spans id = entered_lane_count spans.lanes id + open_child_count spans.made id

-- the list without the last of its items that passes
abbrev pub without_last : {X : Type 0} → (X → Bool) → List X → List X
without_last p [] = []
without_last p (x ∷ xs) = if list_any p xs then x ∷ without_last p xs else if p x then xs else x ∷ xs

-- of some entries the last whose span stands nowhere earlier
abbrev pub current_from : List ℕ → Option ℕ → List ℕ → Option ℕ
current_from before now [] = now
current_from before now (s ∷ ids) = current_from (before ++ s ∷ []) (if is_in s before then now else Some s) ids

-- the current span of a lane with these entries: that of the last entry that doesn't repeat
abbrev pub current_of : List ℕ → Option ℕ
current_of ids = current_from [] None ids

-- the span that a parent names where this one is current
abbrev pub span_of_parent : Option ℕ → Parent → Option ℕ
span_of_parent current parent.Root = None
span_of_parent current parent.Current = current
span_of_parent current (parent.Of id) = Some id

-- the same on a lane with these entries
abbrev pub parent_on : List ℕ → Parent → Option ℕ
parent_on ids parent = span_of_parent (current_of ids) parent

-- a span with one hold less; of one that closes nothing is kept
abbrev pub span_without_hold : Span → Span
span_without_hold span = if span.holds == 1 then no_span else record span { holds = span.holds - 1 }

-- the spans with one hold more, or less, of one of them
abbrev pub with_hold : List Span → ℕ → List Span
with_hold made id = slice_set made id (record (span_at made id) { holds = (span_at made id).holds + 1 })

abbrev pub without_hold : List Span → ℕ → List Span
without_hold made id = slice_set made id (span_without_hold (span_at made id))

-- the same of the parent of a new span, if it has one
abbrev pub with_hold_of_child : List Span → Option ℕ → List Span
with_hold_of_child made None = made
with_hold_of_child made (Some p) = with_hold made p

-- the current span of a lane, with its callsite's site
abbrev pub current_on : ℕ → Spans → Option (ℕ × ℕ)
current_on lane spans = option_map (λ id. (id, (span_at spans.made id).site)) (current_of (entries_on lane spans.lanes))

-- the parent that is to be released after a close
abbrev pub parent_to_release : List Span → ℕ → Option ℕ
parent_to_release made id = if (span_at made id).holds == 1 then (span_at made id).parent else None
