-- What handles ask of the layer of their stack, and what its answers say to them.
use Rattle.std.specs.Prelude.{◌≡◌, ℕ, Bool, true, false, List, Option, Some, None, Result, Ok, Err, is_some, if◌then◌else◌}
use Rattle.otel_base.specs.declared.context.Context.{Context}
use Rattle.otel_base.specs.declared.context.SpanContext.{SpanContext}
use Rattle.otel_base.specs.declared.memory.Memory.{Memory}
use Rattle.otel_base.specs.declared.value.KeyValue.{KeyValue}
use Rattle.otel_base.specs.Stack.{empty_context}
use Rattle.trace_base.specs.Gate.{WorldValue}
use Rattle.otel_state.specs.declared.op.Op.{Op}
use Rattle.otel_state.specs.declared.op.Op.TheVariants as ops
use Rattle.otel_state.specs.declared.op.OpReply.{OpReply}
use Rattle.otel_state.specs.declared.op.OpReply.TheVariants as replies
use Rattle.otel_state.specs.declared.op.SetParentError.{SetParentError}
use Rattle.otel_state.specs.declared.op.SetParentError.TheVariants as refusals
use Rattle.otel_state.specs.States.{SpanData}
use Rattle.span_handles.specs.Worlds.{Replaced}
use Rattle.span_handles.specs.Handles.{HeldSpan}
use Rattle.otel_layer.specs.Parts.{PartCall, Applies, GivesContext}

-- an op is applied by the subscriber of an enabled handle, and nothing happens on a disabled one
abbrev pub AppliesOn : {S : Type 0} → (S → PartCall → S → Type 0) → WorldValue S → WorldValue S → ℕ → Op → HeldSpan → Option (Result OpReply Memory) → Type 0
AppliesOn touches old new at op None answer = (answer ≡ None) × (new ≡ old)
AppliesOn touches old new at op (Some held) answer = Replaced (λ s t. touches s (Applies held.1 at op answer) t) old new held.0

-- an op is applied, and the result is read off its answer
pub record Asks {S R : Type 0} (touches : S → PartCall → S → Type 0) (old new : WorldValue S) (at : ℕ) (op : Op) (held : HeldSpan) (read : Option (Result OpReply Memory) → R) (result : R) : Type 0 where
  pub answer : Option (Result OpReply Memory)
  pub did : AppliesOn touches old new at op held answer
  pub is : result ≡ read answer

-- a link
abbrev pub link_op : SpanContext → List KeyValue → Op
link_op context attributes = ops.Link (record { context = context; attributes = attributes })

-- an event
abbrev pub add_event_op : List ℕ → ℕ → List KeyValue → Op
add_event_op name time attributes = ops.AddEvent (record { name = name; time = time; attributes = attributes })

-- whether memory was wanted
abbrev pub done_answer : Option (Result OpReply Memory) → Result (Unit {0}) Memory
done_answer (Some (Err memory)) = Err memory
done_answer (Some (Ok reply)) = Ok tt
done_answer None = Ok tt

-- an op is applied, and it is answered whether memory was wanted
abbrev pub AsksDone : {S : Type 0} → (S → PartCall → S → Type 0) → WorldValue S → WorldValue S → ℕ → Op → HeldSpan → Result (Unit {0}) Memory → Type 0
AsksDone touches old new at op held result = Asks touches old new at op held done_answer result

-- whether the parent was set: a handle that is disabled has no span, and where nothing is answered there is no layer
abbrev pub parent_reply : OpReply → Result (Unit {0}) SetParentError
parent_reply (replies.Parent set) = set
parent_reply replies.Done = Err refusals.LayerNotFound

abbrev pub parent_answer : HeldSpan → Option (Result OpReply Memory) → Result (Unit {0}) SetParentError
parent_answer None answer = Err refusals.SpanDisabled
parent_answer (Some held) None = Err refusals.LayerNotFound
parent_answer (Some held) (Some (Err memory)) = Err refusals.LayerNotFound
parent_answer (Some held) (Some (Ok reply)) = parent_reply reply

-- a parent is set, and it is answered whether it was
abbrev pub AsksParent : {S : Type 0} → (S → PartCall → S → Type 0) → WorldValue S → WorldValue S → ℕ → Context → HeldSpan → Result (Unit {0}) SetParentError → Type 0
AsksParent touches old new at context held result = Asks touches old new at (ops.SetParent context) held (parent_answer held) result

-- the own context of the span of an enabled handle is answered, which starts it
abbrev pub GivesContextOn : {S : Type 0} → (S → PartCall → S → Type 0) → WorldValue S → WorldValue S → ℕ → HeldSpan → Option Context → Type 0
GivesContextOn touches old new at None answer = (answer ≡ None) × (new ≡ old)
GivesContextOn touches old new at (Some held) answer = Replaced (λ s t. touches s (GivesContext held.1 at answer) t) old new held.0

abbrev pub context_or_empty : Option Context → Context
context_or_empty None = empty_context
context_or_empty (Some context) = context

pub record AsksContext {S : Type 0} (touches : S → PartCall → S → Type 0) (old new : WorldValue S) (at : ℕ) (held : HeldSpan) (result : Context) : Type 0 where
  pub answer : Option Context
  pub did : GivesContextOn touches old new at held answer
  pub is : result ≡ context_or_empty answer

-- the parent of an enabled handle's span is set exactly while it isn't started, if the stack shows a layer
abbrev pub ok_unless_started : SpanData → Result (Unit {0}) SetParentError
ok_unless_started span_data = if is_some span_data.own then Err refusals.AlreadyStarted else Ok tt
