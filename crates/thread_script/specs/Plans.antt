-- What a worker asks of each span by its list.
use Rattle.std.specs.Prelude.{◌≡◌, ℕ, zero, suc, ◌≤◌, List, [], ◌∷◌, Bool, ◌==◌, if◌then◌else◌, Option, Some, None, option_map, filter_map, slice_get}
use Rattle.trace_base.specs.declared.callsite.Callsite.{Callsite}
use Rattle.trace_base.specs.declared.field.Value.{Value}
use Rattle.trace_base.specs.declared.field.ValueSet.{ValueSet}
use Rattle.trace_base.specs.Field.{place_of}
use Rattle.otel_state.specs.declared.op.Op.{Op}
use Rattle.otel_state.specs.declared.op.Op.TheVariants.{Update}
use Rattle.otel_state.specs.declared.times.TheConstants.{GREATEST}
use Rattle.otel_state.specs.fields.EventFields.{event_op}
use Rattle.otel_state.specs.fields.SpanFields.{span_update}
use Rattle.event_gate.specs.declared.levels.Levels.{Levels}
use Rattle.event_gate.specs.Rules.{gate_rule, fixed_text_filter}
use Rattle.trace_threads.specs.declared.history.HandleAct.TheVariants.{Call, Release}
use Rattle.thread_script.specs.declared.plan.Plan.{Plan}
use Rattle.thread_script.specs.declared.script.ThreadScript.{ThreadScript}
use Rattle.thread_script.specs.declared.script.SharedLine.{SharedLine}
use Rattle.thread_script.specs.declared.script.WorkerOp.{WorkerOp}
use Rattle.thread_script.specs.declared.script.WorkerCall.{WorkerCall}
use Rattle.thread_script.specs.declared.script.WorkerCall.TheVariants as calls
use Rattle.thread_script.specs.Asks.{Ask, ask}

-- what all workers read of a script
abbrev pub plan_of : ThreadScript → Plan
plan_of script = record { filter = script.filter; callsites = script.callsites; layer = script.layer; shared = script.shared }

-- ---- what a call of a worker is on its span

-- whether the filter of a text lets a callsite through on a lane without levels
abbrev pub text_admits : List ℕ → Callsite → Bool
text_admits text c = gate_rule (fixed_text_filter text) [] c

abbrev pub AreNoLevels : Levels → Type 0
AreNoLevels levels = (levels.reload ≡ 0) × (levels.list ≡ [])

abbrev pub line_callsite : Plan → Option SharedLine → Option Callsite
line_callsite plan None = None
line_callsite plan (Some line) = slice_get plan.callsites line.site

-- the callsite of a shared span
abbrev pub shared_callsite : Plan → ℕ → Option Callsite
shared_callsite plan s = line_callsite plan (slice_get plan.shared s)

-- a field's value at the first place of its name, if the callsite declares the name
abbrev pub declared_value : Callsite → List ℕ × Value → Option (ℕ × Value)
declared_value c field = option_map (λ place. (place, field.1)) (place_of field.0 c)

abbrev pub values_of : Callsite → List (List ℕ × Value) → ValueSet
values_of c fields = record { pairs = filter_map (declared_value c) fields }

-- fields write those of them that the span's callsite declares
abbrev pub op_of_record : Plan → List (List ℕ × Value) → Option Callsite → Option Op
op_of_record plan fields None = None
op_of_record plan fields (Some c) = Some (Update (span_update c (values_of c fields) plan.layer))

-- an event is told if the filter lets it through
abbrev pub op_of_admitted_event : Plan → ℕ → ValueSet → Option Callsite → Option Op
op_of_admitted_event plan at values None = None
op_of_admitted_event plan at values (Some c) = if text_admits plan.filter c then Some (event_op c values plan.layer at) else None

abbrev pub op_of_call : Plan → ℕ → ℕ → WorkerCall → Option Op
op_of_call plan s at (calls.Record fields) = op_of_record plan fields (shared_callsite plan s)
op_of_call plan s at (calls.Event site values) = op_of_admitted_event plan at values (slice_get plan.callsites site)
op_of_call plan s at (calls.Own op) = Some op

-- what a call of a worker is on this span
abbrev pub op_on_span : Plan → ℕ → WorkerOp → Option Op
op_on_span plan s o = if o.span == s then op_of_call plan o.span o.at o.what else None

-- ---- what a worker asks of a span

abbrev pub with_ask : ℕ → Option Op → List Ask → List Ask
with_ask at None rest = rest
with_ask at (Some op) rest = ask at (Call op) ∷ rest

-- what a worker asks of a span: its ops on it, and then a release at this moment
abbrev pub asks_on : Plan → ℕ → ℕ → List WorkerOp → List Ask
asks_on plan s at [] = ask at Release ∷ []
asks_on plan s at (o ∷ ops) = with_ask o.at (op_on_span plan s o) (asks_on plan s at ops)

abbrev pub moment_or : ℕ → Option ℕ → Option ℕ
moment_or at None = Some at
moment_or at (Some later) = Some later

-- the moment of the last call, if there is one
abbrev pub last_moment : List WorkerOp → Option ℕ
last_moment [] = None
last_moment (o ∷ ops) = moment_or o.at (last_moment ops)

-- the moment of a worker's release: that of its last call, or of the making
abbrev pub release_moment : ℕ → Option ℕ → ℕ
release_moment made None = made
release_moment made (Some at) = at

-- no moment is too great
abbrev pub MomentsInRange : List WorkerOp → Type 0
MomentsInRange [] = Unit {0}
MomentsInRange (o ∷ ops) = (o.at ≤ GREATEST) × MomentsInRange ops

-- what each worker asks of the span s, which was made at this moment
abbrev pub asks_of_worker : Plan → ℕ → ℕ → List (List WorkerOp) → ℕ → List Ask
asks_of_worker plan s made [] w = []
asks_of_worker plan s made (ops ∷ workers) zero = asks_on plan s (release_moment made (last_moment ops)) ops
asks_of_worker plan s made (ops ∷ workers) (suc w) = asks_of_worker plan s made workers w
