-- Handles of spans: making, cloning, dropping and exchanging them.
use Rattle.std.specs.Prelude.{ℕ, List, [], ◌∷◌, length, filter, map, count_by, Bool, true, false, not, if◌then◌else◌, ◌==◌, is_some, Option, Some, None, Ok, slice_set}
use Rattle.std.specs.List.{list_any, range_with_len}
use Rattle.std.specs.Option.{option_to_list}
use Rattle.otel_base.specs.declared.context.Context.{Context}
use Rattle.otel_base.specs.Stack.{empty_context}
use Rattle.otel_state.specs.States.{SpanData}
use Rattle.otel_layer.specs.Recording.{id_if_on, with_start_if_some}
use Rattle.otel_layer.specs.Steps.{parent_source, context_from, new_span_data}
use Rattle.trace_base.specs.Spans.{is_in, current_of}
use Rattle.trace_base.specs.declared.callsite.Callsite.{Callsite}
use Rattle.trace_base.specs.declared.field.ValueSet.{ValueSet}
use Rattle.trace_base.specs.declared.lane.Lane.{Lane}
use Rattle.trace_base.specs.declared.span.Parent.{Parent}
use Rattle.trace_base.specs.declared.span.Parent.TheVariants as parent
use Rattle.span_script.specs.declared.reply.Reply.TheVariants as reply
use Rattle.span_script.specs.declared.reply.Refusal.TheVariants as refusal
use Rattle.span_script.specs.declared.reply.What.TheVariants as what
use Rattle.span_script.specs.declared.request.RequestParent.{RequestParent}
use Rattle.span_script.specs.declared.request.RequestParent.TheVariants as request_parent
use Rattle.span_script.specs.Fields.{Fields, all_values}
use Rattle.span_script.specs.calls.Here.{Here, Resolved, ◌>>=◌, need, refuse_if, answer_effect}
use Rattle.span_script.specs.Setups.{name_at, span_site}
use Rattle.span_script.specs.Tables.{Attached, Effect, ScopeGuard, HookNew, HookClose, Scope, Tables, span_of_scope, scope_of, slot_at}
use Rattle.span_script.specs.calls.Filter.{admits_on, bare_lane}

-- ---- spans that are open

-- an unspent handle holds the span that it names and each span above it
abbrev pub holds_span : ℕ → Option Scope → Bool
holds_span s None = false
holds_span s (Some scope) = is_in s scope

-- a span stays open as long as a handle that isn't spent yet is its own or that of a span below it
abbrev pub is_open : List (Option Scope) → ℕ → Bool
is_open slots s = list_any (holds_span s) slots

-- the spans of a scope that are open no more, each before its parent
abbrev pub closed_of : List (Option Scope) → Scope → List ℕ
closed_of slots scope = filter (λ s. not (is_open slots s)) scope

-- how many spans are open
abbrev pub open_spans : Tables → ℕ
open_spans t = count_by (is_open t.handles) (range_with_len 0 (length t.spans))

-- a guard borrows its handle
abbrev pub borrows : ℕ → Option ScopeGuard → Bool
borrows handle None = false
borrows handle (Some guarded) = guarded.handle == handle

-- as long as one of its guards isn't spent, a handle is lent
abbrev pub is_borrowed : List (Option ScopeGuard) → ℕ → Bool
is_borrowed slots handle = list_any (borrows handle) slots

-- ---- makings

-- the scope that a new span is put under: that of a handle, of the lane's current span, or none
abbrev pub parent_scope : Tables → ℕ → RequestParent → Option Scope
parent_scope t lane request_parent.Root = Some []
parent_scope t lane request_parent.Contextual = Some (scope_of t.spans (current_of (t.entries lane)))
parent_scope t lane (request_parent.Under handle) = slot_at t.handles handle

-- a disabled handle
abbrev pub disabled_effect : Here → Effect
disabled_effect here = record (answer_effect here (reply.Made false (length here.tables.handles))) { new_handle = Some [] }

-- the place of a new span, by what the request names
abbrev pub parent_under : RequestParent → Scope → Parent
parent_under request_parent.Root up = parent.Root
parent_under request_parent.Contextual up = parent.Current
parent_under (request_parent.Under handle) [] = parent.Root
parent_under (request_parent.Under handle) (s ∷ up) = parent.Of s

-- the context that was attached last, the empty one where none is
abbrev pub last_attached : Context → List Attached → Context
last_attached context [] = context
last_attached context (a ∷ items) = last_attached a.context items

-- where no span gives the parent's context: for a contextual span the lane's last one
abbrev pub context_around : List Attached → Parent → Context
context_around items parent.Root = empty_context
context_around items (parent.Of s) = empty_context
context_around items parent.Current = last_attached empty_context items

-- the lane of a request, as a new span tells it
abbrev pub lane_in : Here → Lane
lane_in here = record (bare_lane here.lane) { name = name_at here.setup.names here.place }

-- the span that gives a new one the context that it is put under, if one does
abbrev pub context_source : Here → Parent → Option ℕ
context_source here p = parent_source here.setup.layer.activation p (current_of (here.tables.entries here.lane))

-- a new span at a place with some values: what gives its parent's context starts before
abbrev pub new_span_data_at : Here → Callsite → ValueSet → Parent → SpanData
new_span_data_at here callsite values p =
    let source = context_source here p in
    let r = with_start_if_some source here.at here.tables.recording in
    new_span_data callsite (lane_in here) values
    (context_from r.spans (context_around (here.tables.contexts here.lane) p) source) here.at r.settings r.counting

-- a span of a callsite under a scope, which starts at once where spans start early
abbrev pub span_effect : Here → ℕ → Callsite → ValueSet → RequestParent → Scope → Effect
span_effect here site callsite values under up =
    let span = length here.tables.spans in
    let scope : Scope = span ∷ up in
    record (answer_effect here (reply.Made true (length here.tables.handles))) {
      new_handle = Some scope;
      new_span = Some (record { site = site; scope = scope; made_with = new_span_data_at here callsite values (parent_under under up) });
      starts = option_to_list (context_source here (parent_under under up));
      new_span_start = id_if_on here.setup.layer.eager span;
      hooks = HookNew span callsite values ∷ [];
    }

-- a callsite that is let through gives a span, any other a disabled handle
abbrev pub new_effect : Here → ℕ → Callsite → ValueSet → RequestParent → Scope → Effect
new_effect here site callsite values under up =
    if admits_on here.setup here.tables here.lane callsite then span_effect here site callsite values under up else disabled_effect here

abbrev pub new_call : Here → ℕ → RequestParent → Fields → Resolved
new_call here site under fields = do
  callsite ← need what.Site (span_site here.setup.sites site)
  up ← need what.Handle (parent_scope here.tables here.lane under)
  values ← need what.Field (all_values callsite fields)
  Ok (new_effect here site callsite values under up)

-- ---- clones and drops

-- another handle of a scope: enabled if the scope has a span
abbrev pub clone_effect : Here → Scope → Effect
clone_effect here scope = record (answer_effect here (reply.Made (is_some (span_of_scope scope)) (length here.tables.handles))) { new_handle = Some scope }

abbrev pub clone_call : Here → ℕ → Resolved
clone_call here handle = do
  scope ← need what.Handle (slot_at here.tables.handles handle)
  Ok (clone_effect here scope)

-- the spans that close are those that no unspent handle holds any more
abbrev pub drop_effect : Here → ℕ → Scope → Effect
drop_effect here handle scope =
    let closed = closed_of (slice_set here.tables.handles handle None) scope in
    record (answer_effect here reply.Done) {
      spent_handle = Some handle;
      closes = closed;
      hooks = map HookClose closed;
    }

abbrev pub drop_call : Here → ℕ → Resolved
drop_call here handle = do
  scope ← need what.Handle (slot_at here.tables.handles handle)
  refuse_if (is_borrowed here.tables.guards handle) refusal.InUse (Ok (drop_effect here handle scope))

-- ---- the current span

-- the scope of a lane's current span, the empty one where there is none
abbrev pub current_scope : Tables → ℕ → Scope
current_scope t lane = scope_of t.spans (current_of (t.entries lane))

abbrev pub current_call : Here → Resolved
current_call here = Ok (clone_effect here (current_scope here.tables here.lane))

-- an enabled handle's own scope, else that of the lane's current span
abbrev pub scope_or_current : Tables → ℕ → Scope → Scope
scope_or_current t lane [] = current_scope t lane
scope_or_current t lane (s ∷ up) = s ∷ up

-- a handle of a scope in place of one that is spent, which has a number of its own
abbrev pub exchange_effect : Here → ℕ → Scope → Effect
exchange_effect here handle scope = record (clone_effect here scope) { spent_handle = Some handle }

abbrev pub or_current_call : Here → ℕ → Resolved
or_current_call here handle = do
  scope ← need what.Handle (slot_at here.tables.handles handle)
  refuse_if (is_borrowed here.tables.guards handle) refusal.InUse
      (Ok (exchange_effect here handle (scope_or_current here.tables here.lane scope)))
