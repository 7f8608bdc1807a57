-- What a span is made with, by the request that makes it, and so its record.
use Rattle.std.specs.Prelude.{◌≡◌, ℕ, [], ◌∷◌, ◌++◌, length, if◌then◌else◌, Bool, false, Option, Some, None, Ok}
use Rattle.std.specs.Option.{option_map_or}
use Rattle.otel_base.specs.declared.context.Context.{Context}
use Rattle.otel_base.specs.declared.record.Record.{Record}
use Rattle.otel_base.specs.Stack.{empty_context}
use Rattle.otel_layer.specs.Recording.{with_start}
use Rattle.otel_layer.specs.Table.{own_context_or, data_at}
use Rattle.otel_state.specs.Content.{Making}
use Rattle.otel_state.specs.fields.FirstAttributes.{first_attributes}
use Rattle.otel_state.specs.fields.SpanFields.{span_update}
use Rattle.trace_base.specs.declared.callsite.Callsite.{Callsite}
use Rattle.trace_base.specs.declared.field.ValueSet.{ValueSet}
use Rattle.trace_base.specs.Spans.{current_of}
use Rattle.span_script.specs.declared.request.Call.{Call}
use Rattle.span_script.specs.declared.request.Call.TheVariants as call
use Rattle.span_script.specs.declared.request.RequestParent.{RequestParent}
use Rattle.span_script.specs.declared.request.RequestParent.TheVariants as request_parent
use Rattle.span_script.specs.declared.request.Request.{Request}
use Rattle.span_script.specs.calls.Here.{here_at}
use Rattle.span_script.specs.Effects.{effect_of}
use Rattle.span_script.specs.calls.Contexts.{context_of_scope}
use Rattle.span_script.specs.calls.Filter.{admits_on}
use Rattle.span_script.specs.calls.Spans.{lane_in, last_attached, parent_scope}
use Rattle.span_script.specs.Fields.{Fields, all_values}
use Rattle.span_script.specs.Setups.{Setup, span_site}
use Rattle.span_script.specs.Tables.{Effect, History, MadeSpan, Scope, Tables, span_of_scope, tables}
use Rattle.span_laws.specs.Records.{IsMadeWith, IsRecord, closed_at, ops_of}
use Rattle.span_laws.specs.Starts.{place_in, starting_order}

-- a call asks for a span of a callsite that the directives in force admit, on the lane of an id
abbrev pub asks_admitted : Setup → Tables → ℕ → Call → Bool
asks_admitted setup t id (call.New site under fields) = option_map_or (admits_on setup t id) (span_site setup.sites site) false
asks_admitted setup t id _ = false

-- so does a request
abbrev pub is_making : Setup → Tables → Request → Bool
is_making setup t request = asks_admitted setup t (here_at setup t request.at request.lane_place).lane request.call

-- the own context of a span, which has started by then, if one is named; else the one that was attached last to the lane of an id
abbrev pub context_of_lane : Tables → ℕ → ℕ → Option ℕ → Context
context_of_lane t at id None = last_attached empty_context (t.contexts id)
context_of_lane t at id (Some s) = own_context_or (last_attached empty_context (t.contexts id)) (data_at s (with_start s at t.recording).spans)

-- The context that a new span is put under: none's for a root, the own one of an explicit parent, and for a contextual span that
-- of the lane: with activation the one that was attached last, without it that of the current span.
abbrev pub parent_context : Setup → Tables → ℕ → ℕ → RequestParent → Scope → Context
parent_context setup t at id request_parent.Root up = empty_context
parent_context setup t at id (request_parent.Under handle) up = context_of_scope t.recording at up
parent_context setup t at id request_parent.Contextual up = context_of_lane t at id (if setup.layer.activation then None else current_of (t.entries id))

-- A span was made as a request says: of its callsite, under its place, at its moment, with the values of its fields.
pub record IsMadeBy (setup : Setup) (t : Tables) (at place : ℕ) (what_for : Call) (m : MadeSpan) : Type 0 where
  pub under : RequestParent
  pub fields : Fields
  pub up : Scope
  pub callsite : Callsite
  pub values : ValueSet
  pub asked : what_for ≡ call.New m.site under fields
  pub site : span_site setup.sites m.site ≡ Some callsite
  pub parent : parent_scope t (here_at setup t at place).lane under ≡ Some up
  pub given : all_values callsite fields ≡ Some values
  pub scope : m.scope ≡ length t.spans ∷ up
  pub making : Making
  pub name : making.name ≡ callsite.name
  pub context : making.parent ≡ parent_context setup t at (here_at setup t at place).lane under up
  pub first : making.first ≡ first_attributes callsite (lane_in (here_at setup t at place)) setup.layer
  pub began : IsMadeWith setup at m.made_with making
  pub written : began.update ≡ span_update callsite values setup.layer

-- a request behind the front of a history made the span of a number, as it says
pub record RequestMakes (setup : Setup) (h : History) (s : ℕ) (fore : History) (request : Request) : Type 0 where
  pub e : Effect
  pub rest : History
  pub m : MadeSpan
  pub is : h ≡ fore ++ e ∷ rest
  pub effect : effect_of setup (tables setup fore) request ≡ Ok e
  pub made : e.new_span ≡ Some m
  pub number : length (tables setup fore).spans ≡ s
  pub by : IsMadeBy setup (tables setup fore) request.at request.lane_place request.call m

-- The record of a span in a history: it is made with what the request says that made it, and has the span's ops in the history.
pub record IsRecordOf (setup : Setup) (h : History) (s : ℕ) (r : Record) : Type 0 where
  pub fore : History
  pub request : Request
  pub made : RequestMakes setup h s fore request
  pub told : IsRecord made.by.making made.by.began.update (λ own. ops_of own h s) (place_in (starting_order h) s) (closed_at h s) r

-- the span whose own context a new span is put under: an explicit parent, or without activation the current span
abbrev pub context_span : Bool → RequestParent → Scope → Option ℕ → Option ℕ
context_span activation request_parent.Root up current = None
context_span activation (request_parent.Under handle) up current = span_of_scope up
context_span activation request_parent.Contextual up current = if activation then None else current

-- what is put under a span is put under the context of the span's record
abbrev pub HasContextOf : Setup → History → ℕ → Record → Type 0
HasContextOf setup h p r = (s : ℕ) (fore : History) (request : Request) (made : RequestMakes setup h s fore request)
    → context_span setup.layer.activation made.by.under made.by.up (current_of ((tables setup fore).entries (here_at setup (tables setup fore) request.at request.lane_place).lane)) ≡ Some p
    → made.by.making.parent ≡ record { span = Some r.context }

-- and so what any request sees of a span's own context that starts the span, or finds it started
abbrev pub SeesContextOf : Setup → History → ℕ → Record → Type 0
SeesContextOf setup h p r = (fore rest : History) (e : Effect) (up : Scope) → h ≡ fore ++ e ∷ rest → e.starts ≡ p ∷ []
    → context_of_scope (tables setup fore).recording e.at (p ∷ up) ≡ record { span = Some r.context }
