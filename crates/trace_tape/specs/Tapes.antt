-- What a tape keeps, and what each call of a subscriber spells on it.
use Rattle.std.specs.Prelude.{◌≡◌, ◌+◌, ◌-◌, ◌==◌, ◌&&◌, ◌^◌, if◌then◌else◌, ℕ, Bool, false, List, [], ◌∷◌, ◌++◌, map, length, nat_lt, Option, Some, None, count_by, slice_index_or, slice_set}
use Rattle.otel_state.specs.Stack.{last_passing}
use Rattle.trace_base.specs.declared.callsite.Callsite.{Callsite}
use Rattle.trace_base.specs.declared.field.Value.{Value}
use Rattle.trace_base.specs.declared.field.ValueSet.{ValueSet}
use Rattle.trace_base.specs.declared.span.Parent.{Parent}
use Rattle.trace_base.specs.declared.span.Parent.TheVariants as parent
use Rattle.trace_base.specs.Spans.{without_last, parent_to_release}
use Rattle.trace_base.specs.Calls.{SubscriberCall, NewSpan, Records, Follows, Event, Enter, Exit, CloneSpan, TryClose}
use Rattle.span_registry.specs.Registering.{RegistryValue, DoesRegistry}
use Rattle.trace_tape.specs.declared.opened.OpenEntry.{OpenEntry}
use Rattle.span_script.specs.declared.request.Call.{Call}
use Rattle.span_script.specs.declared.request.Call.TheVariants as call
use Rattle.span_script.specs.declared.request.RequestParent.{RequestParent}
use Rattle.span_script.specs.declared.request.RequestParent.TheVariants as request_parent
use Rattle.span_script.specs.declared.request.Request.{Request}

-- requests, and for how many more there is room
pub record RequestsWithRoom : Type 0 where
  pub spare : ℕ
  pub requests : List Request

-- a tape: what its registry stands for, how many handles each span has, the parent that is to be released next since its
-- child closed, the open entries, how many guards were made, and the requests that were spelled
pub record TapeValue : Type 0 where
  pub below : RegistryValue
  pub handle_counts : List ℕ
  pub due : Option ℕ
  pub entries : List OpenEntry
  pub made_guard_count : ℕ
  pub requests : List Request

-- ---- what is spelled

-- a request on lane 0
abbrev pub on_first_lane : ℕ → Call → Request
on_first_lane at call = record { at = at; lane_place = 0; call = call }

-- where a span or an event is put
abbrev pub spelled_parent : Parent → RequestParent
spelled_parent parent.Root = request_parent.Root
spelled_parent parent.Current = request_parent.Contextual
spelled_parent (parent.Of id) = request_parent.Under id

-- the name of a callsite's field, and values by the names of their fields
abbrev pub field_name_at : Callsite → ℕ → List ℕ
field_name_at callsite place = slice_index_or callsite.fields place []

abbrev pub named_values : Callsite → ValueSet → List (List ℕ × Value)
named_values callsite values = map (λ pair. (field_name_at callsite pair.0, pair.1)) values.pairs

-- a count that stands still at the end of its type
abbrev pub one_more : ℕ → ℕ
one_more n = if nat_lt n (2 ^ 64 - 1) then n + 1 else n

-- one handle more; of a span whose handles are all gone nothing can be named any more
abbrev pub one_more_handle : ℕ → ℕ
one_more_handle n = if nat_lt 0 n then one_more n else 0

-- how many handles a span has
abbrev pub handle_count_of : List ℕ → ℕ → ℕ
handle_count_of handles id = slice_index_or handles id 0

-- the entry is of the span on the lane
abbrev pub is_entry_of : ℕ → ℕ → OpenEntry → Bool
is_entry_of lane id opened = opened.lane == lane && opened.id == id

-- an exit of the guard of an entry, if there is one
abbrev pub exit_requests : ℕ → Option OpenEntry → List Request
exit_requests at None = []
exit_requests at (Some opened) = on_first_lane at (call.Exit opened.guard) ∷ []

-- the last handle of a span goes
abbrev pub drop_requests : ℕ → ℕ → ℕ → List Request
drop_requests at id handles = if handles == 1 then on_first_lane at (call.Drop id) ∷ [] else []

-- a handle of a span goes
abbrev pub without_handle : TapeValue → ℕ → ℕ → TapeValue
without_handle s id at = record s {
  handle_counts = slice_set s.handle_counts id (handle_count_of s.handle_counts id - 1);
  requests = s.requests ++ drop_requests at id (handle_count_of s.handle_counts id);
}

-- a hold is released: that of a child that closed, or else a handle's
abbrev pub is_due : Option ℕ → ℕ → Bool
is_due None id = false
is_due (Some due) id = due == id

abbrev pub after_release : TapeValue → ℕ → ℕ → TapeValue
after_release s id at = if is_due s.due id then s else without_handle s id at

-- what a call makes of a tape, beside its registry
abbrev pub tape_after : TapeValue → SubscriberCall → TapeValue
tape_after s (NewSpan lane at parent site callsite values) = record s {
  handle_counts = s.handle_counts ++ 1 ∷ [];
  requests = s.requests ++ on_first_lane at (call.New site (spelled_parent parent) (named_values callsite values)) ∷ [];
}
tape_after s (Records id at callsite values) = record s { requests = s.requests ++ on_first_lane at (call.Record id (named_values callsite values)) ∷ [] }
tape_after s (Follows id from at) = record s { requests = s.requests ++ on_first_lane at (call.Follows id from) ∷ [] }
tape_after s (Event lane at parent site callsite values) = record s {
  requests = s.requests ++ on_first_lane at (call.Event site (spelled_parent parent) (named_values callsite values)) ∷ [];
}
tape_after s (Enter id at before later) = record s {
  entries = s.entries ++ record { lane = before.id; id = id; guard = s.made_guard_count } ∷ [];
  made_guard_count = one_more s.made_guard_count;
  requests = s.requests ++ on_first_lane at (call.Enter id) ∷ [];
}
tape_after s (Exit id at before later) = record s {
  entries = without_last (is_entry_of before.id id) s.entries;
  requests = s.requests ++ exit_requests at (last_passing (is_entry_of before.id id) s.entries);
}
tape_after s (CloneSpan id) = record s { handle_counts = slice_set s.handle_counts id (one_more_handle (handle_count_of s.handle_counts id)) }
tape_after s (TryClose id at) = record (after_release s id at) { due = parent_to_release s.below.spans.made id }

-- a call is the registry's, and spells its requests
pub record DoesTape (old : TapeValue) (call : SubscriberCall) (new : TapeValue) : Type 0 where
  pub below : DoesRegistry old.below call new.below
  pub tape : new ≡ record (tape_after old call) { below = new.below }

-- ---- the room that requests may need which take none

abbrev pub has_handles : ℕ → Bool
has_handles n = nat_lt 0 n

-- an exit for each open entry, and a drop for each span with a handle
abbrev pub owed_request_count : List ℕ → List OpenEntry → ℕ
owed_request_count handles entries = length entries + count_by has_handles handles

-- no span was made and nothing spelled
abbrev pub blank_tape : RegistryValue → TapeValue
blank_tape below = record { below = below; handle_counts = []; due = None; entries = []; made_guard_count = 0; requests = [] }
