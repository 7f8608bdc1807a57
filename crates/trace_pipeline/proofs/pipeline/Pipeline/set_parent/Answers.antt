-- A parent.
use Rattle.std.proofs.Common.{rules, refl}
use Rattle.span_script.specs.declared.request.Call.TheVariants as call
use Rattle.trace_pipeline.proofs.Common.{refuses_context, serves_parent, keeps_parent, refuses_unknown, needs_there, by_view, by_view_refused, serves_refusal, parts_of}
use Rattle.trace_pipeline.proofs.pipeline.Pipeline.set_parent.Goals as goal

pub returns-in_default : goal.returns-in_default
returns-in_default c = serves_refusal _ _ _ _ _ (λ t stands. refuses_unknown _ _ c.self.view_is c.self.inside.handles.items refl c.args.handle (search rules) t stands.fits _) (search rules) refl

pub returns-in_default-context_at : goal.returns-in_default-context_at
returns-in_default-context_at c = serves_refusal _ _ _ _ _ (λ t stands. by_view_refused c.args.at c.args.place (call.SetParent c.args.handle c.args.context) _ _ _ c.self.view_is (λ t stands. refuses_context _ _ _ _ _ (parts_of c.self.inside) c.self.inside.world _ c.asks.ensures c.args.at c.args.place c.args.handle c.in-Some.span.now (search rules) c.args.context (search rules) t stands.fits _) t stands) (search rules) refl

pub set_parent-set-requires : goal.set_parent-set-requires
set_parent-set-requires c = needs_there _ _ _ _ (parts_of c.self.inside) c.self.invariant c.args.handle c.in-Some.span.now (search rules)

pub invariant_of-self : goal.invariant_of-self
invariant_of-self c = keeps_parent _ _ _ _ _ (parts_of c.self.inside) c.set_parent-set.new.world _ c.asks.ensures c.args.at c.args.place c.args.handle c.in-Some.span.now (search rules) c.args.context c.in-Some-context_at.given (search rules) c.set_parent-set.result c.set_parent-set.ensures c.self.invariant

pub returns : goal.returns
returns c = by_view c.args.at c.args.place (call.SetParent c.args.handle c.args.context) _ _ _ _ c.self.view_is (λ t stands. serves_parent _ _ _ _ _ (parts_of c.self.inside) c.set_parent-set.new.world _ c.asks.ensures c.args.at c.args.place c.args.handle c.in-Some.span.now (search rules) c.args.context c.in-Some-context_at.given (search rules) c.set_parent-set.result c.set_parent-set.ensures t stands)
