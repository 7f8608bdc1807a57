-- A history: for each request what it changed; and its tables. Spans are named by their numbers in the order of making.
use Rattle.std.specs.Prelude.{ℕ, List, [], ◌∷◌, ◌++◌, fold, length, Bool, false, if◌then◌else◌, ◌==◌, Option, Some, None, option_map, is_some, slice_index_or, slice_set}
use Rattle.otel_base.specs.declared.context.Context.{Context}
use Rattle.otel_base.specs.declared.record.Record.{Record}
use Rattle.otel_state.specs.declared.op.Op.{Op}
use Rattle.otel_metrics.specs.declared.measure.Measure.{Measure}
use Rattle.otel_state.specs.States.{SpanData, data_at_making}
use Rattle.otel_layer.specs.Table.{with_span_data}
use Rattle.otel_layer.specs.Recording.{Recording, no_recording, with_start, with_start_if_some, with_applied, with_close}
use Rattle.trace_base.specs.Spans.{without_last}
use Rattle.trace_base.specs.declared.callsite.Callsite.{Callsite}
use Rattle.trace_base.specs.declared.field.ValueSet.{ValueSet}
use Rattle.span_script.specs.declared.reply.Reply.{Reply}
use Rattle.span_script.specs.Setups.{Setup}

-- The scope of a span: the span, its parent, and so on up. A disabled handle has the empty scope.
abbrev pub Scope : Type 0
Scope = List ℕ

-- a span that was made: the place of its callsite, its scope, and what it was made with
pub record MadeSpan : Type 0 where
  pub site : ℕ
  pub scope : Scope
  pub made_with : SpanData

abbrev pub no_span_data : SpanData
no_span_data = data_at_making (record { name = []; parent = record { span = None }; made_at = 0; first = []; counting = false; inactivity = false })

abbrev pub no_made_span : MadeSpan
no_made_span = record { site = 0; scope = []; made_with = no_span_data }

-- an op on a span
pub record SpanOp : Type 0 where
  pub span : ℕ
  pub op : Op

-- who attached a context: an entry of a span, or an attach, by the number of its guard
pub data Owner : Type 0 where
  EntryOf : (span : ℕ) → Owner
  GuardOf : (guard : ℕ) → Owner

abbrev pub is_same_owner : Owner → Owner → Bool
is_same_owner (EntryOf s) (EntryOf q) = s == q
is_same_owner (EntryOf s) (GuardOf m) = false
is_same_owner (GuardOf n) (EntryOf q) = false
is_same_owner (GuardOf n) (GuardOf m) = n == m

-- a context that is attached to a lane, and who attached it
pub record Attached : Type 0 where
  pub owner : Owner
  pub context : Context

abbrev pub is_attached_by : Owner → Attached → Bool
is_attached_by owner = λ a. is_same_owner a.owner owner

-- what the guard of an entry keeps: its handle, the place of the lane that it was made on, whether it owns the handle, and the scope
-- that the handle had
pub record ScopeGuard : Type 0 where
  pub handle : ℕ
  pub place : ℕ
  pub owns : Bool
  pub scope : Scope

-- what a filter hears: that a callsite makes a span with some values, that a span is given some, that it is entered or exited
-- on the lane of an id, and that it closes
pub data FilterHook : Type 0 where
  HookNew : (span : ℕ) → (callsite : Callsite) → (values : ValueSet) → FilterHook
  HookRecord : (span : ℕ) → (callsite : Callsite) → (values : ValueSet) → FilterHook
  HookEnter : (span lane : ℕ) → FilterHook
  HookExit : (span lane : ℕ) → FilterHook
  HookClose : (span : ℕ) → FilterHook

-- What a request changed, at a moment on the lane of an id. Of the names that it makes and spends each is one at most.
pub record Effect : Type 0 where
  pub at : ℕ
  pub lane : ℕ
  -- the scope of the handle that it made, and the handle that it spent
  pub new_handle : Option Scope
  pub spent_handle : Option ℕ
  -- what the guard of an entry that it made keeps, and the one that it spent
  pub new_guard : Option ScopeGuard
  pub spent_guard : Option ℕ
  -- the place of the lane that the guard of an attach was made on, and the one that it spent
  pub new_attach : Option ℕ
  pub spent_attach : Option ℕ
  -- the context that it made
  pub new_context : Option Context
  -- the span that it made
  pub new_span : Option MadeSpan
  -- the spans that it starts unless they have started, before it makes one; the one that it starts after that; and what else
  -- it does to spans, in order
  pub starts : List ℕ
  pub new_span_start : Option ℕ
  pub ops : List SpanOp
  -- what it measured
  pub measures : List Measure
  -- the spans that it closed, each before its parent
  pub closes : List ℕ
  -- the entry that it added to its lane, and the span whose last entry it took off
  pub entry : Option ℕ
  pub exit : Option ℕ
  -- the context that it attached to its lane, and whose last context it detached there
  pub attach : Option Attached
  pub detach : Option Owner
  -- the text of the filter that it put in force, and what the filter in force heard of it
  pub filter : Option (List ℕ)
  pub hooks : List FilterHook
  pub reply : Reply

-- what changes nothing
abbrev pub quiet_effect : ℕ → ℕ → Reply → Effect
quiet_effect at lane answer = record {
  at = at;
  lane = lane;
  new_handle = None;
  spent_handle = None;
  new_guard = None;
  spent_guard = None;
  new_attach = None;
  spent_attach = None;
  new_context = None;
  new_span = None;
  starts = [];
  new_span_start = None;
  ops = [];
  measures = [];
  closes = [];
  entry = None;
  exit = None;
  attach = None;
  detach = None;
  filter = None;
  hooks = [];
  reply = answer;
}

abbrev pub History : Type 0
History = List Effect

-- The tables: handles and guards in the order of making, none where one is spent; spans in the order of making and in
-- the order of closing; the entries and the contexts of each lane, by its id; what was recorded of the open spans; and
-- the moment of the last request, 0 before the first. The guards of entries and those of attaches, each by the place of
-- its lane, are numbered together: at a number of the one kind there is none of the other. The contexts that a script
-- names are never spent. The text of the filter in force is that of the settings before the first reload; of what it heard
-- nothing from before it was put in force.
pub record Tables : Type 0 where
  pub handles : List (Option Scope)
  pub guards : List (Option ScopeGuard)
  pub attaches : List (Option ℕ)
  pub named_contexts : List Context
  pub spans : List MadeSpan
  pub closed : List ℕ
  pub entries : ℕ → List ℕ
  pub contexts : ℕ → List Attached
  pub recording : Recording
  pub filter : Option (List ℕ)
  pub hooks : List FilterHook
  pub moment : ℕ

-- nothing recorded by the layer of a setup
abbrev pub nothing_recorded : Setup → Recording
nothing_recorded setup = record no_recording { settings = setup.layer; counting = is_some setup.counting }

abbrev pub no_tables : Setup → Tables
no_tables setup = record {
  handles = [];
  guards = [];
  attaches = [];
  named_contexts = [];
  spans = [];
  closed = [];
  entries = λ lane. [];
  contexts = λ lane. [];
  recording = nothing_recorded setup;
  filter = None;
  hooks = [];
  moment = 0;
}

-- a list with one more item, if there is one
abbrev pub with_item : {A : Type 0} → List A → Option A → List A
with_item xs None = xs
with_item xs (Some x) = xs ++ x ∷ []

-- names without one that is spent, if there is one
abbrev pub spend : {A : Type 0} → List (Option A) → Option ℕ → List (Option A)
spend slots None = slots
spend slots (Some n) = slice_set slots n None

-- first the new name, then the spent one
abbrev pub slots_after : {A : Type 0} → List (Option A) → Option A → Option ℕ → List (Option A)
slots_after slots new spent = spend (with_item slots (option_map Some new)) spent

-- names that share their numbers with those of another kind: one more of these, or of those
abbrev pub with_either : {A B : Type 0} → List (Option A) → Option A → Option B → List (Option A)
with_either slots (Some x) other = slots ++ Some x ∷ []
with_either slots None (Some y) = slots ++ None ∷ []
with_either slots None None = slots

abbrev pub either_after : {A B : Type 0} → List (Option A) → Option A → Option B → Option ℕ → List (Option A)
either_after slots new other spent = spend (with_either slots new other) spent

-- what stands at a number, none past the end
abbrev pub slot_at : {A : Type 0} → List (Option A) → ℕ → Option A
slot_at slots n = slice_index_or slots n None

-- the entries of all lanes with those of one of them changed
abbrev pub with_lane_entries : (ℕ → List ℕ) → ℕ → List ℕ → ℕ → List ℕ
with_lane_entries es lane ids = λ l. if lane == l then ids else es l

abbrev pub with_entry_on : (ℕ → List ℕ) → ℕ → Option ℕ → ℕ → List ℕ
with_entry_on es lane None = es
with_entry_on es lane (Some s) = with_lane_entries es lane (es lane ++ s ∷ [])

abbrev pub with_exit_on : (ℕ → List ℕ) → ℕ → Option ℕ → ℕ → List ℕ
with_exit_on es lane None = es
with_exit_on es lane (Some s) = with_lane_entries es lane (without_last (λ x. x == s) (es lane))

-- the contexts of all lanes with one more on one of them, and without the last one of an owner
abbrev pub with_attached : (ℕ → List Attached) → ℕ → Option Attached → ℕ → List Attached
with_attached cs lane None = cs
with_attached cs lane (Some a) = λ l. if lane == l then cs lane ++ a ∷ [] else cs l

abbrev pub with_detached : (ℕ → List Attached) → ℕ → Option Owner → ℕ → List Attached
with_detached cs lane None = cs
with_detached cs lane (Some owner) = λ l. if lane == l then without_last (is_attached_by owner) (cs lane) else cs l

-- What an effect makes of what was recorded: spans start, one is made, and may start, ops are done, and spans close.
abbrev pub with_span_made : ℕ → Option MadeSpan → Recording → Recording
with_span_made s None r = r
with_span_made s (Some m) r = record r { spans = with_span_data s m.made_with r.spans }

abbrev pub with_starts_of : ℕ → Effect → Recording → Recording
with_starts_of s e r = with_start_if_some e.new_span_start e.at (with_span_made s e.new_span (fold (λ r s. with_start s e.at r) r e.starts))

abbrev pub with_ops_of : ℕ → Effect → Recording → Recording
with_ops_of s e r = fold (λ r d. with_applied d.span e.at d.op r) (with_starts_of s e r) e.ops

abbrev pub recording_after : ℕ → Effect → Recording → Recording
recording_after s e r = fold (λ r s. with_close s e.at r) (with_ops_of s e r) e.closes

-- what is recorded but open entries and records
abbrev pub open_part : Recording → Recording
open_part r = record r { tokens = []; finished = [] }

-- the records of the spans that an effect closes, in order
abbrev pub records_of : Tables → Effect → List Record
records_of t e = (recording_after (length t.spans) e t.recording).finished

-- the newer of two texts, and what was heard since
abbrev pub newer_text : Option (List ℕ) → Option (List ℕ) → Option (List ℕ)
newer_text old None = old
newer_text old (Some text) = Some text

abbrev pub hooks_since : List FilterHook → Option (List ℕ) → List FilterHook
hooks_since past None = past
hooks_since past (Some text) = []

-- the tables after one effect more
abbrev pub after_effect : Tables → Effect → Tables
after_effect t e = record {
  handles = slots_after t.handles e.new_handle e.spent_handle;
  guards = either_after t.guards e.new_guard e.new_attach e.spent_guard;
  attaches = either_after t.attaches e.new_attach e.new_guard e.spent_attach;
  named_contexts = with_item t.named_contexts e.new_context;
  spans = with_item t.spans e.new_span;
  closed = t.closed ++ e.closes;
  entries = with_exit_on (with_entry_on t.entries e.lane e.entry) e.lane e.exit;
  contexts = with_detached (with_attached t.contexts e.lane e.attach) e.lane e.detach;
  recording = open_part (recording_after (length t.spans) e t.recording);
  filter = newer_text t.filter e.filter;
  hooks = hooks_since t.hooks e.filter ++ e.hooks;
  moment = e.at;
}

abbrev pub tables : Setup → History → Tables
tables setup h = fold after_effect (no_tables setup) h

-- a scope's own span, if it has one
abbrev pub span_of_scope : Scope → Option ℕ
span_of_scope [] = None
span_of_scope (s ∷ up) = Some s

abbrev pub made_span_at : List MadeSpan → ℕ → MadeSpan
made_span_at makings s = slice_index_or makings s no_made_span

-- the place of the callsite of a scope's own span, if it has one
abbrev pub site_of : List MadeSpan → Scope → Option ℕ
site_of makings [] = None
site_of makings (s ∷ up) = Some (made_span_at makings s).site

-- the scope of a span, if there is one
abbrev pub scope_of : List MadeSpan → Option ℕ → Scope
scope_of makings None = []
scope_of makings (Some s) = (made_span_at makings s).scope
