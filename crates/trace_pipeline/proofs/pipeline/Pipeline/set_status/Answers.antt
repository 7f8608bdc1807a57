-- A status.
use Rattle.std.proofs.Common.{rules, refl}
use Rattle.span_script.specs.declared.request.Call.TheVariants as call
use Rattle.trace_pipeline.proofs.Common.{serves_status, keeps_status, refuses_unknown, needs_there, by_view, serves_refusal, parts_of}
use Rattle.trace_pipeline.proofs.pipeline.Pipeline.set_status.Goals as goal

pub returns-in_default : goal.returns-in_default
returns-in_default c = serves_refusal _ _ _ _ _ (λ t stands. refuses_unknown _ _ c.self.view_is c.self.inside.handles.items refl c.args.handle (search rules) t stands.fits _) (search rules) refl

pub set_status-requires : goal.set_status-requires
set_status-requires c = needs_there _ _ _ _ (parts_of c.self.inside) c.self.invariant c.args.handle c.in-Some.span.now (search rules)

pub invariant_of-self : goal.invariant_of-self
invariant_of-self c = keeps_status _ _ _ _ _ (parts_of c.self.inside) c.set_status.new.world _ c.asks.ensures c.args.at c.args.place c.args.handle c.in-Some.span.now (search rules) c.args.status c.set_status.ensures c.self.invariant

pub returns : goal.returns
returns c = by_view c.args.at c.args.place (call.SetStatus c.args.handle c.args.status) _ _ _ _ c.self.view_is (λ t stands. serves_status _ _ _ _ _ (parts_of c.self.inside) c.set_status.new.world _ c.asks.ensures c.args.at c.args.place c.args.handle c.in-Some.span.now (search rules) c.args.status c.set_status.ensures t stands)
