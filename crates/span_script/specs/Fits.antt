-- What a pipeline keeps, and when it fits the tables of a history.
use Rattle.std.specs.Prelude.{◌≡◌, ℕ, zero, suc, ◌+◌, ◌<◌, ◌≤◌, ◌==◌, ◌≢◌, Bool, true, false, List, [], ◌∷◌, ◌++◌, length, drop, map, filter, if◌then◌else◌, count_by, Option, Some, None, option_map, IfSome, IfOk, IfErr, OnErr, Result, Ok, Err, slice_index_or}
use Rattle.otel_base.specs.declared.context.Context.{Context}
use Rattle.trace_base.specs.declared.lane.Lane.{Lane}
use Rattle.trace_base.specs.declared.callsite.Callsite.{Callsite}
use Rattle.trace_base.specs.declared.subscriber.Interest.{Interest}
use Rattle.trace_base.specs.Gate.{WorldValue}
use Rattle.trace_base.specs.Spans.{Spans, Span, span_at}
use Rattle.trace_base.specs.Sound.{OneEach}
use Rattle.otel_base.specs.Stack.{has_number}
use Rattle.otel_state.specs.declared.settings.LayerSettings.{LayerSettings}
use Rattle.otel_layer.specs.declared.layer.tokens.Token.{Token}
use Rattle.otel_layer.specs.Core.{is_token}
use Rattle.otel_layer.specs.Table.{data_at}
use Rattle.otel_layer.specs.Recording.{Recording, no_recording}
use Rattle.env_directives.specs.orders.Table.{DirectiveTable}
use Rattle.env_directives.specs.declared.directive.StaticDirective.{StaticDirective}
use Rattle.env_directives.specs.declared.env.directive.Directive.{Directive}
use Rattle.env_filter.specs.Filtering.{FilterState, IsNewFilter, interest_in}
use Rattle.env_filter.specs.spans.Levels.{OpenLevel}
use Rattle.env_filter.specs.spans.Watching.{MatchState}
use Rattle.span_handles.specs.Worlds.{Has, read_subscriber, spans_in, kept_in}
use Rattle.span_handles.specs.Handles.{Handle, HeldSpan}
use Rattle.otel_metrics.specs.declared.measure.Measure.{Measure}
use Rattle.span_stack.specs.Reading.{SubscriberStack, stack_recording, filter_in_place, stack_counting_filter, stack_measures}
use Rattle.span_script.specs.declared.slots.Guard.{Guard}
use Rattle.span_script.specs.declared.contexts.AttachGuard.{AttachGuard}
use Rattle.span_script.specs.declared.reply.Reply.{Reply}
use Rattle.span_script.specs.declared.reply.Refusal.{Refusal}
use Rattle.span_script.specs.declared.reply.Refusal.TheVariants as refusal
use Rattle.span_script.specs.declared.request.Call.{Call}
use Rattle.span_script.specs.declared.settings.FilterTexts.{FilterTexts}
use Rattle.span_script.specs.Admission.{text_filter}
use Rattle.span_script.specs.Setups.{Setup}
use Rattle.span_script.specs.Balance.{Balanced, span_of_handle, open_guard_by}
use Rattle.span_script.specs.Tables.{Scope, MadeSpan, Owner, EntryOf, GuardOf, Attached, is_attached_by, ScopeGuard, Effect, Tables, History, tables, after_effect, open_part, records_of, slot_at, span_of_scope, site_of, made_span_at}
use Rattle.span_script.specs.calls.Here.{Resolved}
use Rattle.span_script.specs.Effects.{effect_of_call}
use Rattle.span_script.specs.calls.Filter.{filter_in_force}
use Rattle.span_script.specs.calls.Refusals.{takes_no_memory}

-- a lane, without its room: its id, the subscriber of its own, and the contexts that are live
pub record LaneValue : Type 0 where
  pub id : ℕ
  pub default : Option ℕ
  pub live : List (ℕ × Context)

abbrev pub lane_value : Lane → LaneValue
lane_value lane = record { id = lane.id; default = lane.default; live = lane.contexts.live }

abbrev pub no_lane_value : LaneValue
no_lane_value = record { id = 0; default = None; live = [] }

abbrev pub lane_at : List LaneValue → ℕ → LaneValue
lane_at lanes n = slice_index_or lanes n no_lane_value

-- the contexts that a script names, and the guards of its attaches
pub record ContextSlots : Type 0 where
  pub contexts : List Context
  pub attaches : List (Option AttachGuard)

-- how what was recorded, the filter that is in place, the filter that counts and the measures that wait are read of a subscriber
pub record Views (S : Type 0) : Type 0 where
  pub recording : S → Recording
  pub filter : S → Option FilterState
  pub counting_filter : S → Option FilterState
  pub measures : S → List Measure

-- those of the stack that pipelines run on
abbrev pub stack_views : Views SubscriberStack
stack_views = record { recording = stack_recording; filter = filter_in_place; counting_filter = stack_counting_filter; measures = stack_measures }

-- What is seen of a filter at the spans of the first ids, from the last one on, and at the lanes of some ids.
pub record ShownFilter : Type 0 where
  pub statics : DirectiveTable StaticDirective
  pub dynamics : DirectiveTable Directive
  pub spans : List (Option MatchState)
  pub lanes : List (List OpenLevel)

abbrev pub values_below : {X : Type 0} → (ℕ → X) → ℕ → List X
values_below f zero = []
values_below f (suc n) = f n ∷ values_below f n

abbrev pub shown_of : ℕ → List ℕ → FilterState → ShownFilter
shown_of many ids f = record { statics = f.statics; dynamics = f.dynamics; spans = values_below f.spans many; lanes = map f.lanes ids }

-- what is kept, without spare room; the interests that are cached; and the measures that weren't taken
pub record PipelineState : Type 0 where
  pub setup : Setup
  pub spans : Spans
  pub lanes : List LaneValue
  pub recording : Recording
  pub filter : Option ShownFilter
  pub cached : List (List Interest)
  pub counting_filter : Option ShownFilter
  pub measures : List Measure
  pub dispatch : ℕ
  pub handles : List (Option HeldSpan)
  pub handle_sites : List (Option (Option ℕ))
  pub guards : List (Option Guard)
  pub contexts : ContextSlots
  pub moment : ℕ

-- what an unspent handle stands for
abbrev pub held_by : Option Handle → Option HeldSpan
held_by slot = option_map (λ h. h.held) slot

-- the place of its callsite, if it has one
abbrev pub site_by : Option Handle → Option (Option ℕ)
site_by slot = option_map (λ h. h.site) slot

abbrev pub setup_of : List Callsite → List Lane → FilterTexts → LayerSettings → Setup
setup_of sites lanes opening layer = record { sites = sites; ids = map (λ l. l.id) lanes; names = map (λ l. l.name) lanes; filter = opening.filter; counting = opening.counting; layer = layer }

-- what a pipeline is made of
pub record Parts (S : Type 0) : Type 0 where
  pub world : WorldValue S
  pub dispatch : ℕ
  pub filter_texts : FilterTexts
  pub lanes : List Lane
  pub handles : List (Option Handle)
  pub guards : List (Option Guard)
  pub contexts : ContextSlots
  pub moment : ℕ

-- what it keeps, read off its parts
abbrev pub state_of : {S : Type 0} → (S → Spans) → Views S → Parts S → PipelineState
state_of spans views parts = record {
  setup = setup_of parts.world.sites parts.lanes parts.filter_texts (read_subscriber views.recording no_recording parts.world parts.dispatch).settings;
  spans = spans_in spans parts.world parts.dispatch;
  lanes = map lane_value parts.lanes;
  recording = read_subscriber views.recording no_recording parts.world parts.dispatch;
  filter = option_map (shown_of (length (spans_in spans parts.world parts.dispatch).made) (map (λ l. l.id) parts.lanes)) (read_subscriber views.filter None parts.world parts.dispatch);
  cached = parts.world.cached;
  counting_filter = option_map (shown_of 0 (map (λ l. l.id) parts.lanes)) (read_subscriber views.counting_filter None parts.world parts.dispatch);
  measures = read_subscriber views.measures [] parts.world parts.dispatch;
  dispatch = parts.dispatch;
  handles = map held_by parts.handles;
  handle_sites = map site_by parts.handles;
  guards = parts.guards;
  contexts = parts.contexts;
  moment = parts.moment;
}

-- what a handle of a scope stands for, and what a guard keeps
abbrev pub held_of : ℕ → Scope → HeldSpan
held_of dispatch [] = None
held_of dispatch (s ∷ up) = Some (dispatch, s)

abbrev pub guard_of : ℕ → ScopeGuard → Guard
guard_of dispatch g = record { handle = g.handle; place = g.place; owns = g.owns; entry = held_of dispatch g.scope }

-- the place of the lane of an attach's guard
abbrev pub lane_place_of : AttachGuard → ℕ
lane_place_of = λ a. a.place

-- a scope is of spans that were made, each under the next
abbrev pub IsLaterThanParent : ℕ → Scope → Type 0
IsLaterThanParent s [] = Unit {0}
IsLaterThanParent s (p ∷ up) = p < s

abbrev pub IsScope : List MadeSpan → Scope → Type 0
IsScope made [] = Unit {0}
IsScope made (s ∷ up) = (s < length made) × ((made_span_at made s).scope ≡ s ∷ up) × IsLaterThanParent s up × IsScope made up

-- the parent that a scope gives to its own span
abbrev pub parent_in : Scope → Option ℕ
parent_in [] = None
parent_in (s ∷ up) = span_of_scope up

-- the spans are those that were made; of those that closed nothing is kept
pub record SpansFit (spans : List Span) (made : List MadeSpan) : Type 0 where
  pub count : length spans ≡ length made
  pub parent : (s : ℕ) → 0 < (span_at spans s).holds → (span_at spans s).parent ≡ parent_in (made_span_at made s).scope
  pub site : (s : ℕ) → 0 < (span_at spans s).holds → (span_at spans s).site ≡ (made_span_at made s).site

-- what is kept attached is live on its lane, lanes have ids of their own, and one subscriber serves all
pub record LanesFit (dispatch : ℕ) (kept : ℕ → ℕ → ℕ) (lanes : List LaneValue) : Type 0 where
  pub differ : (n m : ℕ) → n < length lanes → m < length lanes → (lane_at lanes n).id ≡ (lane_at lanes m).id → n ≡ m
  pub attached : (n number : ℕ) → n < length lanes
      → kept (lane_at lanes n).id number ≤ count_by (λ item. item.0 == number) (lane_at lanes n).live
  pub served : (n : ℕ) → n < length lanes → (lane_at lanes n).default ≡ Some dispatch

-- ---- what was recorded, and the contexts of lanes

-- the numbers of what an owner attached, by the contexts that are live
abbrev pub live_numbers_of : Owner → List (ℕ × Context) → List Attached → List (Option ℕ)
live_numbers_of o [] items = []
live_numbers_of o (x ∷ live) [] = []
live_numbers_of o (x ∷ live) (a ∷ items) = if is_attached_by o a then Some x.0 ∷ live_numbers_of o live items else live_numbers_of o live items

-- the same of a span by the layer's open entries, and of an attach on the lane at a place by its guard
abbrev pub token_numbers_of : ℕ → ℕ → List Token → List (Option ℕ)
token_numbers_of lane s tokens = map (λ k. k.attached) (filter (is_token lane s) tokens)

abbrev pub attach_numbers_on : ℕ → Option AttachGuard → List (Option ℕ)
attach_numbers_on place None = []
attach_numbers_on place (Some a) = if a.place == place then Some a.attached ∷ [] else []

-- without activation entries attach nothing
abbrev pub owner_numbers : Bool → ℕ → ℕ → List Token → List (Option AttachGuard) → Owner → List (Option ℕ)
owner_numbers activation place lane tokens attaches (EntryOf s) = if activation then token_numbers_of lane s tokens else []
owner_numbers activation place lane tokens attaches (GuardOf n) = attach_numbers_on place (slot_at attaches n)

-- each live context has a number of its own
abbrev pub HaveDistinctNumbers : List (ℕ × Context) → Type 0
HaveDistinctNumbers [] = Unit {0}
HaveDistinctNumbers (x ∷ live) = (has_number x.0 live ≡ false) × HaveDistinctNumbers live

-- a lane's contexts are those that the history attached, and each owner keeps the numbers of its own
pub record ContextsFit (numbers : Owner → List (Option ℕ)) (live : List (ℕ × Context)) (items : List Attached) : Type 0 where
  pub contexts : map (λ x. x.1) live ≡ map (λ a. a.context) items
  pub distinct : HaveDistinctNumbers live
  pub numbers_are : (o : Owner) → live_numbers_of o live items ≡ numbers o

-- so do those of all lanes
abbrev pub AllContextsFit : Bool → List LaneValue → List Token → List (Option AttachGuard) → (ℕ → List Attached) → Type 0
AllContextsFit activation lanes tokens attaches contexts = (n : ℕ) → n < length lanes
    → ContextsFit (owner_numbers activation n (lane_at lanes n).id tokens attaches) (lane_at lanes n).live (contexts (lane_at lanes n).id)

pub record RecordingFits (k : PipelineState) (t : Tables) : Type 0 where
  pub recorded : open_part k.recording ≡ t.recording
  pub known : (s : ℕ) → 0 < (span_at k.spans.made s).holds → data_at s k.recording.spans ≢ None
  pub attached : AllContextsFit k.setup.layer.activation k.lanes k.recording.tokens k.contexts.attaches t.contexts

-- what is seen of the filter that counts: that of the text for counting, where there is one
abbrev pub counting_filter_by : Setup → Option ShownFilter
counting_filter_by setup = option_map (shown_of 0 setup.ids) (option_map text_filter setup.counting)

-- The filter is the one in force, for each callsite its interest is cached, and events are counted by the filter of the text
-- for that, which hears nothing.
pub record FilteringFits (k : PipelineState) (t : Tables) : Type 0 where
  pub in_place : k.filter ≡ Some (shown_of (length t.spans) k.setup.ids (filter_in_force k.setup t))
  pub fresh : k.cached ≡ map (λ c. interest_in (filter_in_force k.setup t) c ∷ []) k.setup.sites
  pub counting_filter : k.counting_filter ≡ counting_filter_by k.setup
  pub new : IfSome (option_map text_filter k.setup.counting) IsNewFilter

-- What is kept fits the tables of a history.
pub record Fits (k : PipelineState) (t : Tables) : Type 0 where
  pub handle_slots : k.handles ≡ map (option_map (held_of k.dispatch)) t.handles
  pub site_slots : k.handle_sites ≡ map (option_map (site_of t.spans)) t.handles
  pub guard_slots : k.guards ≡ map (option_map (guard_of k.dispatch)) t.guards
  pub attach_slots : map (option_map lane_place_of) k.contexts.attaches ≡ t.attaches
  pub paired : length t.attaches ≡ length t.guards
  pub named_contexts : k.contexts.contexts ≡ t.named_contexts
  pub latest : k.moment ≡ t.moment
  pub balanced : Balanced k.spans (map span_of_handle t.handles) (map (open_guard_by k.setup.ids) t.guards) t.entries
  pub made : SpansFit k.spans.made t.spans
  pub one_row : OneEach k.spans.lanes
  -- facts of each history that leads here
  pub scopes : (n : ℕ) (scope : Scope) → slot_at t.handles n ≡ Some scope → IsScope t.spans scope
  pub still : (n : ℕ) (g : ScopeGuard) → slot_at t.guards n ≡ Some g → slot_at t.handles g.handle ≡ Some g.scope
  pub own_scopes : (s : ℕ) → s < length t.spans
      → (span_of_scope (made_span_at t.spans s).scope ≡ Some s) × IsScope t.spans (made_span_at t.spans s).scope
  pub sited : (s : ℕ) → s < length t.spans → (made_span_at t.spans s).site < length k.setup.sites
  pub few : length t.spans ≤ length t.handles
  pub few_holds : (s : ℕ) → (span_at k.spans.made s).holds ≤ length t.handles + length t.guards

-- What is kept stands for a history with these tables: it fits them, and so do what was recorded, the lanes' contexts,
-- and the filter.
pub record StandsFor (k : PipelineState) (t : Tables) : Type 0 where
  pub fits : Fits k t
  pub recording : RecordingFits k t
  pub filtering : FilteringFits k t

-- the same but for the oldest record
abbrev pub without_oldest_record : PipelineState → PipelineState
without_oldest_record k = record k { recording = record k.recording { finished = drop 1 k.recording.finished } }

-- and but for the oldest measure
abbrev pub without_oldest_measure : PipelineState → PipelineState
without_oldest_measure k = record k { measures = drop 1 k.measures }

-- What every pipeline keeps: it is alone in its world, whole, and stands for a history with some tables.
pub record PipelineInvariant {S : Type 0} (spans : S → Spans) (views : Views S) (kept : S → ℕ → ℕ → ℕ) (is_whole : S → Type 0) (parts : Parts S) : Type 0 where
  pub there : parts.dispatch < length parts.world.subscribers
  pub alone : length parts.world.subscribers ≡ 1
  pub whole : Has is_whole parts.world parts.dispatch
  pub lanes : LanesFit parts.dispatch (kept_in kept parts.world parts.dispatch) (map lane_value parts.lanes)
  pub tables : Tables
  pub stands : StandsFor (state_of spans views parts) tables

-- A reply is served where the request has an effect: the reply is the effect's, the records
-- are those of the spans that close, the measures are the effect's, and what is kept stands for one effect more.
pub record IsServed (resolved : Resolved) (t : Tables) (old new : PipelineState) (reply : Reply) : Type 0 where
  pub effect : Effect
  pub is : resolved ≡ Ok effect
  pub reply_is : reply ≡ effect.reply
  pub setup : new.setup ≡ old.setup
  pub records : new.recording.finished ≡ old.recording.finished ++ records_of t effect
  pub measures : new.measures ≡ old.measures ++ effect.measures
  pub stands : StandsFor new (after_effect t effect)

-- a refusal for want of memory
abbrev pub is_for_memory : Refusal → Bool
is_for_memory refusal.Memory = true
is_for_memory (refusal.Full place) = false
is_for_memory (refusal.BadMoment before given) = false
is_for_memory (refusal.UnknownName unknown) = false
is_for_memory refusal.InUse = false
is_for_memory (refusal.WrongLane place) = false
is_for_memory (refusal.Directive piece) = false

-- Any other is the one that was resolved.
abbrev pub IsRefusal : Resolved → Refusal → Type 0
IsRefusal resolved given = is_for_memory given ≡ false → resolved ≡ Err given

-- What a pipeline promises of what is resolved on the tables of each history that it stands for: the effect is served, or the
-- refusal is the first that applies and what is kept is as it was; and a call that takes no memory doesn't want it.
pub record ServesResolved (resolved : Tables → Resolved) (takes_none : Bool) (old : PipelineState) (result : Result Reply Refusal) (new : PipelineState) : Type 0 where
  pub ok : (t : Tables) → StandsFor old t → IfOk result (IsServed (resolved t) t old new)
  pub refused : (t : Tables) → StandsFor old t → IfErr result (IsRefusal (resolved t))
  pub err : OnErr result (new ≡ old)
  pub room : takes_none ≡ true → result ≡ Err refusal.Memory → ⊥

-- and so of a call, at a moment on the lane at a place
abbrev pub Serves : PipelineState → ℕ → ℕ → Call → Result Reply Refusal → PipelineState → Type 0
Serves old at place request result new =
    ServesResolved (λ t. effect_of_call old.setup t at place request) (takes_no_memory request) old result new

-- The same of a history.
pub record IsServedByHistory (resolved : Resolved) (h : History) (old new : PipelineState) (reply : Reply) : Type 0 where
  pub effect : Effect
  pub is : resolved ≡ Ok effect
  pub reply_is : reply ≡ effect.reply
  pub setup : new.setup ≡ old.setup
  pub records : new.recording.finished ≡ old.recording.finished ++ records_of (tables old.setup h) effect
  pub measures : new.measures ≡ old.measures ++ effect.measures
  pub stands : StandsFor new (tables old.setup (h ++ effect ∷ []))
