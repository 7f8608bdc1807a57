-- What starts, entries and closes make of the state of a span, once that is found.
use Rattle.std.specs.Prelude.{◌≡◌, ℕ, Bool, true, false, List, Option, Some, None}
use Rattle.otel_base.specs.declared.context.Context.{Context}
use Rattle.otel_base.specs.declared.context.SpanContext.{SpanContext}
use Rattle.otel_base.specs.Ids.{ids_of}
use Rattle.otel_base.specs.Tracer.{TracerCall, Start, Finish}
use Rattle.otel_state.specs.declared.op.Op.TheVariants as ops
use Rattle.otel_state.specs.States.{SpanData, after_op, record_of}
use Rattle.otel_base.specs.Stack.{empty_context}
use Rattle.otel_layer.specs.Table.{data_at, knows_span, start_context, own_context_or, with_op}

-- a start under a context, if there is one to start under, with what the ids that are given make of it
abbrev pub StartsTo : {T S : Type 0} → (T → TracerCall → T → Type 0) → Option Context → (SpanContext → S) → S → T → T → S → Type 0
StartsTo does None begun old s t now = (t ≡ s) × (now ≡ old)
StartsTo does (Some under) begun old s t now = (given : SpanContext) × does s (Start (ids_of under) given) t × (now ≡ begun given)

-- a state starts, if it hasn't
abbrev pub StartsState : {T : Type 0} → (T → TracerCall → T → Type 0) → ℕ → SpanData → T → T → SpanData → Type 0
StartsState does at span_data s t now = StartsTo does (start_context (Some span_data)) (λ given. after_op span_data at (ops.Start given)) span_data s t now

-- that of a span among others, if it is known
abbrev pub StartsIn : {T : Type 0} → (T → TracerCall → T → Type 0) → ℕ → ℕ → List (ℕ × SpanData) → T → T → List (ℕ × SpanData) → Type 0
StartsIn does id at spans s t now = StartsTo does (start_context (data_at id spans)) (λ given. with_op id at (ops.Start given) spans) spans s t now

-- a new state starts where spans start early
abbrev pub StartsEarly : {T : Type 0} → (T → TracerCall → T → Type 0) → Bool → ℕ → SpanData → T → T → SpanData → Type 0
StartsEarly does true at span_data s t now = StartsState does at span_data s t now
StartsEarly does false at span_data s t now = (t ≡ s) × (now ≡ span_data)

-- a span that is known starts and is entered, and its own context is given
pub record EntersKnown {T : Type 0} (does : T → TracerCall → T → Type 0) (id at : ℕ) (spans : List (ℕ × SpanData)) (s t : T) (now : List (ℕ × SpanData)) (own : Context) : Type 0 where
  pub known : knows_span id spans ≡ true
  pub between : List (ℕ × SpanData)
  pub starts : StartsIn does id at spans s t between
  pub own_is : own ≡ own_context_or empty_context (data_at id between)
  pub rest : now ≡ with_op id at ops.Enter between

-- nothing changes where it isn't known
abbrev pub EntersIn : {T : Type 0} → (T → TracerCall → T → Type 0) → ℕ → ℕ → List (ℕ × SpanData) → T → T → List (ℕ × SpanData) → Option Context → Type 0
EntersIn does id at spans s t now None = (data_at id spans ≡ None) × (t ≡ s) × (now ≡ spans)
EntersIn does id at spans s t now (Some own) = EntersKnown does id at spans s t now own

-- a state starts, and its record is finished
pub record FinishesState {T : Type 0} (does : T → TracerCall → T → Type 0) (at : ℕ) (span_data : SpanData) (s t : T) : Type 0 where
  pub between : T
  pub begun : SpanData
  pub starts : StartsState does at span_data s between begun
  pub finishes : does between (Finish (record_of begun at)) t
