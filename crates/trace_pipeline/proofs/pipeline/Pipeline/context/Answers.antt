-- The context of a handle's span.
use Rattle.std.proofs.Common.{rules, refl}
use Rattle.span_script.specs.declared.request.Call.TheVariants as call
use Rattle.trace_pipeline.proofs.Common.{serves_context, keeps_context, refuses_unknown, needs_there, needs_whole, by_view, serves_refusal, parts_of}
use Rattle.trace_pipeline.proofs.pipeline.Pipeline.context.Goals as goal

pub returns-in_default : goal.returns-in_default
returns-in_default c = serves_refusal _ _ _ _ _ (λ t stands. refuses_unknown _ _ c.self.view_is c.self.inside.handles.items refl c.args.handle (search rules) t stands.fits _) (search rules) refl

pub context_of-context-requires-clause-there : goal.context_of-context-requires-clause-there
context_of-context-requires-clause-there c = needs_there _ _ _ _ (parts_of c.self.inside) c.self.invariant c.args.handle c.in-Some.span.now (search rules)

pub context_of-context-requires-clause-whole : goal.context_of-context-requires-clause-whole
context_of-context-requires-clause-whole c = needs_whole _ _ _ _ (parts_of c.self.inside) c.self.invariant c.args.handle c.in-Some.span.now (search rules)

pub invariant_of-self-2 : goal.invariant_of-self-2
invariant_of-self-2 c = keeps_context _ _ _ _ _ (parts_of c.self.inside) c.context_of-context.new.world c.args.at c.args.place c.len-number.result (search rules) c.self.invariant _ c.asks.ensures c.args.handle c.in-Some.span.now (search rules) c.context_of-context.result c.context_of-context.ensures (record { contexts = c.push_reserved.new.self.items; attaches = c.self.inside.contexts.attaches.items }) (search rules) refl

pub returns : goal.returns
returns c = by_view c.args.at c.args.place (call.Context c.args.handle) _ _ _ _ c.self.view_is (λ t stands. serves_context _ _ _ _ _ (parts_of c.self.inside) c.context_of-context.new.world c.args.at c.args.place c.len-number.result (search rules) c.self.invariant _ c.asks.ensures c.args.handle c.in-Some.span.now (search rules) c.context_of-context.result c.context_of-context.ensures (record { contexts = c.push_reserved.new.self.items; attaches = c.self.inside.contexts.attaches.items }) (search rules) refl c.span_context.result c.span_context.ensures t stands)
