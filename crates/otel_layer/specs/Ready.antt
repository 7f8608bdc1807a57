-- What a prepare makes for its hook.
use Rattle.std.specs.Prelude.{◌≡◌, true, ℕ, ◌+◌, ◌<◌, ◌≤◌, ◌^◌, Some, None, length}
use Rattle.otel_base.specs.Stack.{IsReadyToAttach, empty_context}
use Rattle.trace_base.specs.declared.callsite.Callsite.{Callsite}
use Rattle.trace_base.specs.declared.field.ValueSet.{ValueSet}
use Rattle.trace_base.specs.declared.lane.Lane.{Lane}
use Rattle.trace_base.specs.lanes.Contexts.{AreAttached, IsFull}
use Rattle.trace_base.specs.layers.Hooks.{Preparation, ForNewSpan, ForRecord, ForFollows, ForEvent, ForEnter}
use Rattle.otel_state.specs.declared.op.Op.{Op}
use Rattle.otel_state.specs.declared.op.Op.TheVariants as ops
use Rattle.otel_state.specs.fields.EventFields.{event_op}
use Rattle.otel_state.specs.fields.SpanFields.{span_update}
use Rattle.otel_state.specs.States.{StateValue}
use Rattle.otel_layer.specs.declared.ready.Ready.{Ready}
use Rattle.otel_layer.specs.declared.ready.Ready.TheVariants as ready
use Rattle.otel_layer.specs.Table.{knows_span, RoomFor, RoomForLink}
use Rattle.otel_layer.specs.Core.{Core, CoreWithRoom, open_entry_count, kept_in}
use Rattle.otel_layer.specs.Steps.{new_span_data}

-- the room for a new span, with the layer and with its tracer
pub record IsReadySpan {T : Type 0} (s : CoreWithRoom T) : Type 0 where
  pub place : 0 < s.room
  pub spare : length s.core.spans < s.core.reserved
  pub few : s.core.span_count + 1 < 2 ^ 62

-- its state, which doesn't know its parent and its moment yet
pub record IsReadyState {T : Type 0} (s : CoreWithRoom T) (lane : Lane) (callsite : Callsite) (values : ValueSet) (state : StateValue) : Type 0 where
  pub span : IsReadySpan s
  pub span_data : state.span_data ≡ new_span_data callsite lane values empty_context 0 s.core.settings s.core.counting

-- the op of an event at another moment
abbrev pub with_moment : ℕ → Op → Op
with_moment at (ops.Event is_error update event) = ops.Event is_error update (record event { time = at })
with_moment at op = op

-- an op, with the room that it needs
abbrev pub IsReadyOp : {T : Type 0} → CoreWithRoom T → ℕ → Op → Ready → Type 0
IsReadyOp s id wanted (ready.PreparedOp op) = (op.value ≡ wanted) × RoomFor id op.value s.rooms
IsReadyOp s id wanted _ = ⊥

abbrev pub IsReadyOtel : {T : Type 0} → CoreWithRoom T → Preparation → Ready → Type 0
IsReadyOtel s (ForNewSpan lane callsite values) (ready.NewState state) = IsReadyState s lane callsite values state.value
IsReadyOtel s (ForNewSpan lane callsite values) _ = ⊥
IsReadyOtel s (ForRecord id callsite values) r = IsReadyOp s id (ops.Update (span_update callsite values s.core.settings)) r
IsReadyOtel s (ForFollows id from) r = RoomForLink id s.rooms
IsReadyOtel s (ForEvent None callsite values) r = Unit {0}
IsReadyOtel s (ForEvent (Some id) callsite values) r = IsReadyOp s id (event_op callsite values s.core.settings 0) r
IsReadyOtel s (ForEnter id lane) r = 0 < s.token_room

-- ---- lanes, for a span that is known

-- with activation there is room on the lane for the span's own context, and there can't be
abbrev pub IsReadyLane : {T : Type 0} → Core T → ℕ → Lane → Type 0
IsReadyLane c id lane = c.settings.activation ≡ true → knows_span id c.spans ≡ true → IsReadyToAttach lane.contexts

abbrev pub MeetsFull : {T : Type 0} → Core T → ℕ → Lane → Type 0
MeetsFull c id lane = (c.settings.activation ≡ true) × (knows_span id c.spans ≡ true) × IsFull lane

-- an entry of it is open on the lane, and what entries attached is attached there
abbrev pub HasOpenEntry : {T : Type 0} → Core T → ℕ → Lane → Type 0
HasOpenEntry c id lane = knows_span id c.spans ≡ true → 0 < open_entry_count c.tokens lane.id id

abbrev pub IsAttachedIfKnown : {T : Type 0} → Core T → ℕ → Lane → Type 0
IsAttachedIfKnown c id lane = knows_span id c.spans ≡ true → AreAttached (kept_in c) lane
