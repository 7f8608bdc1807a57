-- An attribute.
use Rattle.std.proofs.Common.{rules, refl, ◌∙◌}
use Rattle.otel_state.specs.declared.op.Op.TheVariants as ops
use Rattle.span_script.specs.declared.request.Call.TheVariants as call
use Rattle.trace_pipeline.proofs.Common.{serves_op, keeps_op, left_state, left_kept, on_err, refuses_unknown, needs_there, by_view, serves_refusal, parts_of}
use Rattle.trace_pipeline.proofs.pipeline.Pipeline.set_attribute.Goals as goal

pub returns-in_default : goal.returns-in_default
returns-in_default c = serves_refusal _ _ _ _ _ (λ t stands. refuses_unknown _ _ c.self.view_is c.self.inside.handles.items refl c.args.handle (search rules) t stands.fits _) (search rules) refl

pub set_attribute-requires : goal.set_attribute-requires
set_attribute-requires c = needs_there _ _ _ _ (parts_of c.self.inside) c.self.invariant c.args.handle c.in-Some.span.now (search rules)

pub invariant_of-self : goal.invariant_of-self
invariant_of-self c = left_kept _ _ _ _ _ (parts_of c.self.inside) c.set_attribute.new.world _ c.asks.ensures c.args.at c.args.place c.args.handle c.in-Some.span.now (search rules) (ops.SetAttribute (record { key = c.args.key; value = c.args.value })) c.set_attribute.result c.set_attribute.ensures _ (search rules) c.self.invariant

pub returns-in_err-set_attribute : goal.returns-in_err-set_attribute
returns-in_err-set_attribute c = record {
  ok = (search rules);
  refused = (search rules);
  err = on_err _ _ (left_state _ _ _ _ _ (parts_of c.self.inside) c.set_attribute.new.world _ c.asks.ensures c.args.at c.args.place c.args.handle c.in-Some.span.now (search rules) (ops.SetAttribute (record { key = c.args.key; value = c.args.value })) c.set_attribute.result c.set_attribute.ensures _ (search rules) c.self.invariant ∙ c.self.view_is);
  room = (search rules);
}

pub invariant_of-self-2 : goal.invariant_of-self-2
invariant_of-self-2 c = keeps_op _ _ _ _ _ (parts_of c.self.inside) c.set_attribute.new.world _ c.asks.ensures c.args.at c.args.place c.args.handle c.in-Some.span.now (search rules) (ops.SetAttribute (record { key = c.args.key; value = c.args.value })) c.set_attribute.result c.set_attribute.ensures (search rules) c.self.invariant

pub returns : goal.returns
returns c = by_view c.args.at c.args.place (call.SetAttribute c.args.handle c.args.key c.args.value) _ _ _ _ c.self.view_is (λ t stands. serves_op _ _ _ _ _ (parts_of c.self.inside) c.set_attribute.new.world _ c.asks.ensures c.args.at c.args.place c.args.handle c.in-Some.span.now (search rules) (ops.SetAttribute (record { key = c.args.key; value = c.args.value })) c.set_attribute.result c.set_attribute.ensures (search rules) t stands)
