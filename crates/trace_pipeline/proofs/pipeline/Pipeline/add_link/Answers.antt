-- A link to what a context shows.
use Rattle.std.proofs.Common.{rules, refl, ◌∙◌}
use Rattle.span_script.specs.declared.request.Call.TheVariants as call
use Rattle.trace_pipeline.proofs.Common.{refuses_context, serves_link, keeps_link, left_link_state, left_link_kept, on_err, refuses_unknown, needs_there, by_view, by_view_refused, serves_refusal, parts_of}
use Rattle.trace_pipeline.proofs.pipeline.Pipeline.add_link.Goals as goal

pub returns-in_default : goal.returns-in_default
returns-in_default c = serves_refusal _ _ _ _ _ (λ t stands. refuses_unknown _ _ c.self.view_is c.self.inside.handles.items refl c.args.handle (search rules) t stands.fits _) (search rules) refl

pub returns-in_default-context_at : goal.returns-in_default-context_at
returns-in_default-context_at c = serves_refusal _ _ _ _ _ (λ t stands. by_view_refused c.args.at c.args.place (call.AddLink c.args.handle c.args.context c.args.attributes) _ _ _ c.self.view_is (λ t stands. refuses_context _ _ _ _ _ (parts_of c.self.inside) c.self.inside.world _ c.asks.ensures c.args.at c.args.place c.args.handle c.in-Some.span.now (search rules) c.args.context (search rules) t stands.fits _) t stands) (search rules) refl

pub add_link_with_attributes-requires : goal.add_link_with_attributes-requires
add_link_with_attributes-requires c = needs_there _ _ _ _ (parts_of c.self.inside) c.self.invariant c.args.handle c.in-Some.span.now (search rules)

pub invariant_of-self : goal.invariant_of-self
invariant_of-self c = left_link_kept _ _ _ _ _ (parts_of c.self.inside) c.add_link_with_attributes.new.world _ c.asks.ensures c.args.at c.args.place c.args.handle c.in-Some.span.now (search rules) c.args.context c.in-Some-context_at.given (search rules) c.span_context-ids.result c.span_context-ids.ensures c.args.attributes c.add_link_with_attributes.result c.add_link_with_attributes.ensures.valid c.add_link_with_attributes.ensures.invalid _ (search rules) c.self.invariant

pub returns-in_err-add_link_with_attributes : goal.returns-in_err-add_link_with_attributes
returns-in_err-add_link_with_attributes c = record {
  ok = (search rules);
  refused = (search rules);
  err = on_err _ _ (left_link_state _ _ _ _ _ (parts_of c.self.inside) c.add_link_with_attributes.new.world _ c.asks.ensures c.args.at c.args.place c.args.handle c.in-Some.span.now (search rules) c.args.context c.in-Some-context_at.given (search rules) c.span_context-ids.result c.span_context-ids.ensures c.args.attributes c.add_link_with_attributes.result c.add_link_with_attributes.ensures.valid c.add_link_with_attributes.ensures.invalid _ (search rules) c.self.invariant ∙ c.self.view_is);
  room = (search rules);
}

pub invariant_of-self-2 : goal.invariant_of-self-2
invariant_of-self-2 c = keeps_link _ _ _ _ _ (parts_of c.self.inside) c.add_link_with_attributes.new.world _ c.asks.ensures c.args.at c.args.place c.args.handle c.in-Some.span.now (search rules) c.args.context c.in-Some-context_at.given (search rules) c.span_context-ids.result c.span_context-ids.ensures c.args.attributes c.add_link_with_attributes.result c.add_link_with_attributes.ensures.valid c.add_link_with_attributes.ensures.invalid (search rules) c.self.invariant

pub returns : goal.returns
returns c = by_view c.args.at c.args.place (call.AddLink c.args.handle c.args.context c.args.attributes) _ _ _ _ c.self.view_is (λ t stands. serves_link _ _ _ _ _ (parts_of c.self.inside) c.add_link_with_attributes.new.world _ c.asks.ensures c.args.at c.args.place c.args.handle c.in-Some.span.now (search rules) c.args.context c.in-Some-context_at.given (search rules) c.span_context-ids.result c.span_context-ids.ensures c.args.attributes c.add_link_with_attributes.result c.add_link_with_attributes.ensures.valid c.add_link_with_attributes.ensures.invalid (search rules) t stands)
