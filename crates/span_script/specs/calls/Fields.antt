-- Fields of spans: values that are recorded, and whether a callsite declares a name.
use Rattle.std.specs.Prelude.{ℕ, List, [], Option, Some, None, Ok, slice_get, option_and_then}
use Rattle.otel_state.specs.declared.op.Op.TheVariants as ops
use Rattle.otel_state.specs.declared.settings.LayerSettings.{LayerSettings}
use Rattle.otel_state.specs.fields.SpanFields.{span_update}
use Rattle.trace_base.specs.declared.callsite.Callsite.{Callsite}
use Rattle.span_script.specs.declared.reply.Reply.TheVariants as reply
use Rattle.span_script.specs.declared.reply.What.TheVariants as what
use Rattle.span_script.specs.Fields.{Fields, values_of, declared_by}
use Rattle.span_script.specs.calls.Here.{Here, Resolved, ◌>>=◌, need, answer_effect, ops_effect, op_on}
use Rattle.span_script.specs.Setups.{Setup}
use Rattle.span_script.specs.Tables.{SpanOp, Effect, FilterHook, HookRecord, Scope, Tables, site_of, slot_at}
use Rattle.span_script.specs.calls.Filter.{hooks_of_span}

-- the callsite of a scope's own span, if it has one
abbrev pub callsite_of : Setup → Tables → Scope → Option Callsite
callsite_of setup t scope = option_and_then (λ site. slice_get setup.sites site) (site_of t.spans scope)

-- the update that some fields are for the span of a callsite: those that it declares
abbrev pub update_ops : LayerSettings → Scope → Fields → Option Callsite → List SpanOp
update_ops settings scope fields None = []
update_ops settings scope fields (Some callsite) =
    op_on scope (ops.Update (span_update callsite (values_of callsite fields) settings))

-- what is heard of them
abbrev pub hooks_of_values : Scope → Fields → Option Callsite → List FilterHook
hooks_of_values scope fields None = []
hooks_of_values scope fields (Some callsite) = hooks_of_span scope (λ s. HookRecord s callsite (values_of callsite fields))

-- values are recorded on a scope's own span
abbrev pub record_effect : Here → Scope → Fields → Effect
record_effect here scope fields =
    let callsite = callsite_of here.setup here.tables scope in
    record (ops_effect here reply.Done (update_ops here.setup.layer scope fields callsite)) { hooks = hooks_of_values scope fields callsite }

abbrev pub record_call : Here → ℕ → Fields → Resolved
record_call here handle fields = do
  scope ← need what.Handle (slot_at here.tables.handles handle)
  Ok (record_effect here scope fields)

abbrev pub has_field_call : Here → ℕ → List ℕ → Resolved
has_field_call here handle name = do
  scope ← need what.Handle (slot_at here.tables.handles handle)
  Ok (answer_effect here (reply.Has (declared_by (callsite_of here.setup here.tables scope) name)))
