-- The clone.
use Rattle.std.proofs.Common.{rules, refl}
use Rattle.span_script.specs.declared.request.Call.TheVariants as call
use Rattle.trace_pipeline.proofs.Common.{needs_known, needs_whole, needs_few, refuses_unknown, by_view, serves_refusal, parts_of}
use Rattle.span_script.proofs.spans.ClonesLemmas.{serves_cloned, keeps_cloned}
use Rattle.trace_pipeline.proofs.pipeline.Pipeline.clone_handle.Goals as goal

pub returns-in_default : goal.returns-in_default
returns-in_default c = serves_refusal _ _ _ _ _ (λ t stands. refuses_unknown _ _ c.self.view_is c.self.inside.handles.items refl c.args.handle (search rules) t stands.fits _) (search rules) refl

pub clone_handle-copy-requires-clause-known : goal.clone_handle-copy-requires-clause-known
clone_handle-copy-requires-clause-known c = needs_known _ _ _ _ (parts_of c.self.inside) c.self.invariant c.args.handle c.in-Some.span.now (search rules)

pub clone_handle-copy-requires-clause-whole : goal.clone_handle-copy-requires-clause-whole
clone_handle-copy-requires-clause-whole c = needs_whole _ _ _ _ (parts_of c.self.inside) c.self.invariant c.args.handle c.in-Some.span.now (search rules)

pub clone_handle-copy-requires-clause-few_holds : goal.clone_handle-copy-requires-clause-few_holds
clone_handle-copy-requires-clause-few_holds c = needs_few _ _ _ _ (parts_of c.self.inside) c.self.invariant c.args.handle c.in-Some.span.now (search rules) (search rules) (search rules)

pub invariant_of-self-2 : goal.invariant_of-self-2
invariant_of-self-2 c = keeps_cloned _ _ _ _ _ (parts_of c.self.inside) c.clone_handle-copy.new.world _ c.calls.ensures c.push_reserved.new.self.items c.args.at c.args.place c.len-number.result (search rules) c.self.invariant
    c.args.handle c.in-Some.span.now c.clone_handle-copy.result c.is_some-enabled.result (search rules) c.clone_handle-copy.ensures.value (search rules) (search rules) c.clone_handle-copy.ensures.did

pub returns : goal.returns
returns c = by_view c.args.at c.args.place (call.Clone c.args.handle) _ _ _ _ c.self.view_is (λ t fits. serves_cloned _ _ _ _ _ (parts_of c.self.inside) c.clone_handle-copy.new.world _ c.calls.ensures c.push_reserved.new.self.items c.args.at c.args.place c.len-number.result (search rules) c.self.invariant
    c.args.handle c.in-Some.span.now c.clone_handle-copy.result c.is_some-enabled.result (search rules) c.clone_handle-copy.ensures.value (search rules) (search rules) c.clone_handle-copy.ensures.did t fits)
