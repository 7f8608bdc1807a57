-- The drop.
use Rattle.std.proofs.Common.{rules, refl, ◌∙◌}
use Rattle.span_script.specs.declared.request.Call.TheVariants as call
use Rattle.trace_pipeline.proofs.Common.{needs_known, needs_whole, refuses_unknown, by_view, by_view_refused, serves_refusal, set_none, parts_of}
use Rattle.trace_pipeline.proofs.NamedHandlesLemmas.{named_there}
use Rattle.span_script.proofs.spans.DropsLemmas.{refuses_borrowed, serves_dropped, keeps_dropped}
use Rattle.trace_pipeline.proofs.pipeline.Pipeline.drop_handle.Goals as goal

pub invariant_of-self : goal.invariant_of-self
invariant_of-self c = rw (c.take.ensures.spent ∙ set_none c.self.inside.handles.items c.args.handle (search rules)) c.self.invariant

pub returns-in_default : goal.returns-in_default
returns-in_default c = serves_refusal _ _ _ _ _ (λ t stands. refuses_unknown _ _ c.self.view_is c.self.inside.handles.items refl c.args.handle (search rules) t stands.fits _) (rw (c.take.ensures.spent ∙ set_none c.self.inside.handles.items c.args.handle (search rules)) c.self.view_is) refl

pub returns-then-is_borrowed : goal.returns-then-is_borrowed
returns-then-is_borrowed c =
    let named = named_there _ _ _ _ (parts_of c.self.inside) c.self.invariant c.args.handle (search rules) in
    serves_refusal _ _ _ _ _ (λ t stands. by_view_refused c.args.at c.args.place (call.Drop c.args.handle) _ _ _ c.self.view_is (λ t stands. refuses_borrowed _ _ _ _ _ _ (parts_of c.self.inside) c.self.inside.world c.chains.ensures c.self.inside.handles.items c.args.at c.args.place c.args.handle named.0 named.1 c.self.invariant t stands (search rules)) t stands) (search rules) refl

pub close-requires-clause-known : goal.close-requires-clause-known
close-requires-clause-known c = needs_known _ _ _ _ (parts_of c.self.inside) c.self.invariant c.args.handle c.in-Some.span (search rules)

pub close-requires-clause-whole : goal.close-requires-clause-whole
close-requires-clause-whole c = needs_whole _ _ _ _ (parts_of c.self.inside) c.self.invariant c.args.handle c.in-Some.span (search rules)

pub invariant_of-self-2 : goal.invariant_of-self-2
invariant_of-self-2 c = keeps_dropped _ _ _ _ _ _ (parts_of c.self.inside) c.close.new.world c.chains.ensures c.take.new.self.items c.args.at c.args.place c.args.handle c.in-Some.span (search rules) c.self.invariant (search rules) c.take.ensures.spent c.close.ensures.did

pub returns : goal.returns
returns c = by_view c.args.at c.args.place (call.Drop c.args.handle) _ _ _ _ c.self.view_is (λ t stands. serves_dropped _ _ _ _ _ _ (parts_of c.self.inside) c.close.new.world c.chains.ensures c.take.new.self.items c.args.at c.args.place c.args.handle c.in-Some.span (search rules) c.self.invariant (search rules) c.take.ensures.spent c.close.ensures.did t stands)
