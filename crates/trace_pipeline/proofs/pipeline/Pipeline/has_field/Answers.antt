-- Asking for a field.
use Rattle.std.proofs.Common.{rules, refl, false}
use Rattle.span_script.specs.declared.request.Call.TheVariants as call
use Rattle.trace_pipeline.proofs.Common.{refuses_unknown, by_view, serves_refusal, needs_site, serves_asked, keeps_asked, parts_of}
use Rattle.trace_pipeline.proofs.pipeline.Pipeline.has_field.Goals as goal

pub returns-in_default : goal.returns-in_default
returns-in_default c = serves_refusal _ _ _ _ _ (λ t stands. refuses_unknown _ _ c.self.view_is c.self.inside.handles.items refl c.args.handle (search rules) t stands.fits _) (search rules) refl

pub has_field-has-requires : goal.has_field-has-requires
has_field-has-requires c = needs_site _ _ (λ x. false) _ _ (parts_of c.self.inside) c.args.handle c.in-Some.span.now (search rules) c.self.invariant

pub invariant_of-self : goal.invariant_of-self
invariant_of-self c = keeps_asked _ _ (λ x. false) _ _ (parts_of c.self.inside) c.args.handle c.in-Some.span.now (search rules) c.self.inside.world c.args.at c.args.place c.args.name c.has_field-has.result (search rules) refl c.self.invariant

pub returns : goal.returns
returns c = by_view c.args.at c.args.place (call.HasField c.args.handle c.args.name) _ _ _ _ c.self.view_is (λ t stands. serves_asked _ _ (λ x. false) (λ x lane number. 0) (λ x. Unit {0}) (parts_of c.self.inside) c.args.handle c.in-Some.span.now (search rules) c.self.inside.world c.args.at c.args.place c.args.name c.has_field-has.result (search rules) refl t stands)
