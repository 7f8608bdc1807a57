-- A context of ids that are given.
use Rattle.std.proofs.Common.{rules, false, refl}
use Rattle.span_script.specs.declared.request.Call.TheVariants as call
use Rattle.trace_pipeline.proofs.Common.{serves_remote, keeps_remote, by_view, parts_of}
use Rattle.trace_pipeline.proofs.pipeline.Pipeline.remote.Goals as goal

pub invariant_of-self-2 : goal.invariant_of-self-2
invariant_of-self-2 c = keeps_remote _ _ (λ x. false) _ _ (parts_of c.self.inside) c.self.inside.world c.args.at c.args.place c.len-context.result (search rules) c.self.invariant refl c.args.ids (record { contexts = c.push.new.self.items; attaches = c.self.inside.contexts.attaches.items }) (search rules) refl

pub returns : goal.returns
returns c = by_view c.args.at c.args.place (call.Remote c.args.ids) _ _ _ _ c.self.view_is (λ t stands. serves_remote _ _ (λ x. false) _ _ (parts_of c.self.inside) c.self.inside.world c.args.at c.args.place c.len-context.result (search rules) c.self.invariant refl c.args.ids (record { contexts = c.push.new.self.items; attaches = c.self.inside.contexts.attaches.items }) (search rules) refl t stands)
