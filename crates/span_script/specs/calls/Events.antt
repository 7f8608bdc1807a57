-- Events.
use Rattle.std.specs.Prelude.{ℕ, List, [], ◌∷◌, Bool, if◌then◌else◌, Option, Some, None, Ok}
use Rattle.env_directives.specs.orders.Choice.{admits}
use Rattle.otel_metrics.specs.Measures.{measures}
use Rattle.otel_state.specs.declared.op.Op.{Op}
use Rattle.otel_state.specs.declared.op.Op.TheVariants as ops
use Rattle.otel_state.specs.fields.EventFields.{event_op}
use Rattle.trace_base.specs.declared.callsite.Callsite.{Callsite}
use Rattle.trace_base.specs.declared.field.ValueSet.{ValueSet}
use Rattle.span_script.specs.declared.reply.Reply.TheVariants as reply
use Rattle.span_script.specs.declared.reply.What.TheVariants as what
use Rattle.span_script.specs.declared.request.RequestParent.{RequestParent}
use Rattle.span_script.specs.Admission.{text_filter}
use Rattle.span_script.specs.Fields.{Fields, all_values}
use Rattle.span_script.specs.calls.Here.{Here, Resolved, ◌>>=◌, need, ops_effect, ops_on}
use Rattle.span_script.specs.Setups.{event_site}
use Rattle.span_script.specs.Tables.{Effect, Scope}
use Rattle.span_script.specs.calls.Filter.{admits_on}
use Rattle.span_script.specs.calls.Spans.{parent_scope}

-- what isn't let through leaves nothing
abbrev pub if_enabled : {A : Type 0} → Bool → List A → List A
if_enabled enabled told = if enabled then told else []

-- the ops of an event on its span: where events are counted it is counted, and told after that if the static directives of
-- the text for counting let it through
abbrev pub event_ops : Option (List ℕ) → Callsite → Op → List Op
event_ops None callsite event = event ∷ []
event_ops (Some text) callsite event = ops.Counted ∷ if_enabled (admits (text_filter text).statics.directives callsite) (event ∷ [])

-- an event goes to the own span of the scope that its place names, and is measured, with a span or without
abbrev pub event_effect : Here → Callsite → ValueSet → Scope → Effect
event_effect here callsite values reached =
    let enabled = admits_on here.setup here.tables here.lane callsite in
    let event = event_op callsite values here.setup.layer here.at in
    record (ops_effect here (reply.Enabled enabled) (if_enabled enabled (ops_on reached (event_ops here.setup.counting callsite event)))) {
      measures = if_enabled enabled (measures callsite values);
    }

abbrev pub event_call : Here → ℕ → RequestParent → Fields → Resolved
event_call here site under fields = do
  callsite ← need what.Site (event_site here.setup.sites site)
  reached ← need what.Handle (parent_scope here.tables here.lane under)
  values ← need what.Field (all_values callsite fields)
  Ok (event_effect here callsite values reached)
