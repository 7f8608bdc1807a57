-- What is asked of a stack's layer from outside its hooks, and what that makes of it.
use Rattle.std.specs.Prelude.{◌≡◌, ℕ, Bool, true, false, List, Option, Some, None, Result, Ok, Err, IsTrue}
use Rattle.otel_base.specs.declared.context.Context.{Context}
use Rattle.otel_base.specs.declared.context.SpanContext.{SpanContext}
use Rattle.otel_base.specs.declared.memory.Memory.{Memory}
use Rattle.otel_base.specs.Tracer.{TracerCall}
use Rattle.trace_base.specs.layers.Hooks.{KnownSpans}
use Rattle.trace_base.specs.Spans.{Spans}
use Rattle.otel_state.specs.declared.op.Op.{Op}
use Rattle.otel_state.specs.declared.op.Op.TheVariants as ops
use Rattle.otel_state.specs.declared.op.OpReply.{OpReply}
use Rattle.otel_state.specs.States.{SpanData, reply, is_growing}
use Rattle.otel_layer.specs.Table.{data_at, with_op, start_context}
use Rattle.otel_layer.specs.Core.{Core}
use Rattle.otel_layer.specs.Steps.{StartsSpan}

-- the calls, with their answers: an op of a span, and the own context of one
pub data PartCall : Type 0 where
  Applies : (id at : ℕ) → (op : Op) → (answer : Option (Result OpReply Memory)) → PartCall
  GivesContext : (id at : ℕ) → (answer : Option Context) → PartCall

-- the ops that come from outside
abbrev pub IsOutside : Op → Type 0
IsOutside (ops.AddEvent event) = Unit {0}
IsOutside (ops.Link link) = Unit {0}
IsOutside (ops.SetAttribute pair) = Unit {0}
IsOutside (ops.SetStatus status) = Unit {0}
IsOutside (ops.SetParent context) = Unit {0}
IsOutside (ops.Update update) = ⊥
IsOutside (ops.Event is_error update event) = ⊥
IsOutside ops.Counted = ⊥
IsOutside (ops.Start own) = ⊥
IsOutside ops.Enter = ⊥
IsOutside ops.Exit = ⊥

-- an op of a span that is known or isn't: the answer, and the spans after it
abbrev pub AppliesTo : Option SpanData → List (ℕ × SpanData) → ℕ → ℕ → Op → Option (Result OpReply Memory) → List (ℕ × SpanData) → Type 0
AppliesTo None spans id at op answer now = (answer ≡ None) × (now ≡ spans)
AppliesTo (Some span_data) spans id at op None now = ⊥
AppliesTo (Some span_data) spans id at op (Some (Ok r)) now = (r ≡ reply span_data op) × (now ≡ with_op id at op spans)
AppliesTo (Some span_data) spans id at op (Some (Err memory)) now = IsTrue (is_growing op) × (now ≡ spans)

-- the same among spans
abbrev pub AppliesIn : List (ℕ × SpanData) → ℕ → ℕ → Op → Option (Result OpReply Memory) → List (ℕ × SpanData) → Type 0
AppliesIn spans id at op answer now = AppliesTo (data_at id spans) spans id at op answer now

-- the own context of a span, if it is known
abbrev pub own_context_if_known : Option SpanData → Option Context
own_context_if_known None = None
own_context_if_known (Some span_data) = Some (record { span = span_data.own })

-- ---- a layer

-- an op is applied to the span's state; a span that is shown starts
abbrev pub Touches : {T : Type 0} → (T → TracerCall → T → Type 0) → Core T → PartCall → Core T → Type 0
Touches does c (Applies id at op answer) d = IsOutside op × AppliesIn c.spans id at op answer d.spans × (d ≡ record c { spans = d.spans })
Touches does c (GivesContext id at answer) d = StartsSpan does id at c d × (answer ≡ own_context_if_known (data_at id d.spans))

-- ---- what is told

-- the span starts under a context, if there is one to start under
abbrev pub GivesContextIn : Option Context → List (ℕ × SpanData) → ℕ → ℕ → Option Context → List (ℕ × SpanData) → Type 0
GivesContextIn None spans id at answer now = (now ≡ spans) × (answer ≡ own_context_if_known (data_at id now))
GivesContextIn (Some under) spans id at answer now = (given : SpanContext) × (now ≡ with_op id at (ops.Start given) spans) × (answer ≡ own_context_if_known (data_at id now))

-- the spans after a call, where they are told
abbrev pub AnswersCall : List (ℕ × SpanData) → PartCall → List (ℕ × SpanData) → Type 0
AnswersCall spans (Applies id at op answer) now = AppliesIn spans id at op answer now
AnswersCall spans (GivesContext id at answer) now = GivesContextIn (start_context (data_at id spans)) spans id at answer now

abbrev pub AnswersCallIf : Option (List (ℕ × SpanData)) → PartCall → Option (List (ℕ × SpanData)) → Type 0
AnswersCallIf None call now = now ≡ None
AnswersCallIf (Some spans) call now = (later : List (ℕ × SpanData)) × (now ≡ Some later) × AnswersCall spans call later

-- ---- a stack without a layer, and one with two parts

-- nothing is answered
abbrev pub IsUnanswered : PartCall → Type 0
IsUnanswered (Applies id at op answer) = answer ≡ None
IsUnanswered (GivesContext id at answer) = answer ≡ None

-- without a layer nothing is answered or changed
abbrev pub TouchesNone : {S : Type 0} → S → PartCall → S → Type 0
TouchesNone s call t = IsUnanswered call × (t ≡ s)

-- the outer part is asked if it has a layer, else the inner one
abbrev pub TouchesFirst : {L S : Type 0} → Bool → (L → PartCall → L → Type 0) → (S → PartCall → S → Type 0) → L → S → PartCall → L → S → Type 0
TouchesFirst true outer inner l s call m t = outer l call m × (t ≡ s)
TouchesFirst false outer inner l s call m t = (m ≡ l) × inner s call t

-- ---- what a call leaves

pub record StaysLayer {L : Type 0} (seen : L → KnownSpans) (kept : L → ℕ → ℕ → ℕ) (attaches : L → Bool) (is_whole : L → Type 0) (s t : L) : Type 0 where
  pub seen_same : seen t ≡ seen s
  pub kept_same : kept t ≡ kept s
  pub attaches_same : attaches t ≡ attaches s
  pub whole : is_whole s → is_whole t

pub record StaysStack {S : Type 0} (spans : S → Spans) (kept : S → ℕ → ℕ → ℕ) (attaches : S → Bool) (is_whole : S → Type 0) (s t : S) : Type 0 where
  pub spans_same : spans t ≡ spans s
  pub kept_same : kept t ≡ kept s
  pub attaches_same : attaches t ≡ attaches s
  pub whole : is_whole s → is_whole t
