-- What is asked of spans from outside: links, a parent, attributes, a status, and events with a time of their own.
use Rattle.std.specs.Prelude.{ℕ, List, [], ◌∷◌, Bool, true, false, if◌then◌else◌, is_some, Option, Some, None, Result, Ok, Err, slice_get}
use Rattle.otel_base.specs.Ids.{ids_of, is_valid}
use Rattle.otel_base.specs.declared.context.SpanContext.{SpanContext}
use Rattle.otel_base.specs.declared.value.KeyValue.{KeyValue}
use Rattle.otel_state.specs.declared.op.Op.{Op}
use Rattle.otel_state.specs.declared.op.Op.TheVariants as ops
use Rattle.otel_state.specs.declared.op.SetParentError.{SetParentError}
use Rattle.otel_state.specs.declared.op.SetParentError.TheVariants as unset
use Rattle.otel_layer.specs.Asking.{link_op}
use Rattle.otel_layer.specs.Recording.{Recording}
use Rattle.otel_layer.specs.Table.{data_at, start_context}
use Rattle.span_script.specs.declared.reply.Reply.TheVariants as reply
use Rattle.span_script.specs.declared.reply.What.TheVariants as what
use Rattle.span_script.specs.calls.Here.{Here, Resolved, ◌>>=◌, need, answer_effect, ops_effect, op_on}
use Rattle.span_script.specs.Tables.{SpanOp, Effect, Scope, slot_at}
use Rattle.span_script.specs.calls.Contexts.{context_of_scope}

-- where both are enabled the followed span starts, and the other one is linked to its own context
abbrev pub follow_effect : Here → Scope → Scope → Effect
follow_effect here [] from = answer_effect here reply.Done
follow_effect here (s ∷ up) [] = answer_effect here reply.Done
follow_effect here (s ∷ up) (f ∷ up_from) = record (answer_effect here reply.Done) {
  starts = f ∷ [];
  ops = op_on (s ∷ up) (link_op (ids_of (context_of_scope here.tables.recording here.at (f ∷ up_from))) []);
}

abbrev pub follows_call : Here → ℕ → ℕ → Resolved
follows_call here handle from = do
  scope ← need what.Handle (slot_at here.tables.handles handle)
  followed ← need what.Handle (slot_at here.tables.handles from)
  Ok (follow_effect here scope followed)

-- what setting a parent is answered, by whether it can still be set
abbrev pub result_if_settable : Bool → Result (Unit {0}) SetParentError
result_if_settable true = Ok tt
result_if_settable false = Err unset.AlreadyStarted

-- it can be until the span starts
abbrev pub set_parent_result : Recording → Scope → Result (Unit {0}) SetParentError
set_parent_result r [] = Err unset.SpanDisabled
set_parent_result r (s ∷ up) = result_if_settable (is_some (start_context (data_at s r.spans)))

abbrev pub set_parent_call : Here → ℕ → ℕ → Resolved
set_parent_call here handle context = do
  scope ← need what.Handle (slot_at here.tables.handles handle)
  given ← need what.Context (slice_get here.tables.named_contexts context)
  Ok (ops_effect here (reply.Set (set_parent_result here.tables.recording scope)) (op_on scope (ops.SetParent given)))

-- a link to what a context shows, none where that is invalid
abbrev pub link_ops : Scope → SpanContext → List KeyValue → List SpanOp
link_ops scope ids attributes = if is_valid ids then op_on scope (link_op ids attributes) else []

abbrev pub add_link_call : Here → ℕ → ℕ → List KeyValue → Resolved
add_link_call here handle context attributes = do
  scope ← need what.Handle (slot_at here.tables.handles handle)
  given ← need what.Context (slice_get here.tables.named_contexts context)
  Ok (ops_effect here reply.Done (link_ops scope (ids_of given) attributes))

-- an event of a request without a time happens at its moment
abbrev pub event_time : ℕ → Option ℕ → ℕ
event_time at None = at
event_time at (Some time) = time

-- one op on a handle's span
abbrev pub op_call : Here → ℕ → Op → Resolved
op_call here handle op = do
  scope ← need what.Handle (slot_at here.tables.handles handle)
  Ok (ops_effect here reply.Done (op_on scope op))
