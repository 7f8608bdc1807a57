-- The detach.
use Rattle.std.proofs.Common.{rules, ◌≡◌, Err, refl}
use Rattle.span_script.specs.declared.request.Call.TheVariants as call
use Rattle.trace_pipeline.proofs.Common.{stack_views, within_view, by_view, by_view_refused, serves_refusal, parts_of}
use Rattle.span_script.proofs.lane_contexts.DetachesLemmas.{still_live, serves_detached, keeps_detached, keeps_tokens, none_more, filtered_keeps}
use Rattle.trace_pipeline.specs.Contexts.{context_slots}
use Rattle.trace_pipeline.proofs.SpendingLemmas.{spent_attach, refuses_detach, detach_named}
use Rattle.trace_pipeline.proofs.pipeline.Pipeline.detach.Goals as goal

pub returns-in_err-open : goal.returns-in_err-open
returns-in_err-open c =
    let is : c.from_residual.result ≡ Err c.in_err-open.field-0.0 = (search rules) in
    rw is (serves_refusal _ _ _ _ _ (λ t stands. by_view_refused c.args.at c.args.place (call.Detach c.args.guard) _ _ _ c.self.view_is (λ t stands. refuses_detach _ c.args.guard c.args.at c.args.place t stands _ c.in_err-open.ensures.value) t stands) (search rules) (detach_named _ c.args.guard c.args.place _ c.in_err-open.ensures.value))

pub detach_from-requires : goal.detach_from-requires
detach_from-requires c = still_live _ _ _ _ (parts_of c.self.inside) c.args.at c.args.place c.index_mut.result.now (within_view _ _ c.self.inside.lanes.items c.args.place c.self.view_is refl c.requires) c.index_mut.ensures.value c.self.invariant c.args.guard c.in_ok-open.open (spent_attach c.self.inside.contexts.attaches.items c.args.guard c.args.place c.in_ok-open.open c.in_ok-open.ensures.value).0 (spent_attach c.self.inside.contexts.attaches.items c.args.guard c.args.place c.in_ok-open.open c.in_ok-open.ensures.value).1

pub invariant_of-self-2 : goal.invariant_of-self-2
invariant_of-self-2 c = keeps_detached _ _ _ _ (parts_of c.self.inside) c.args.at c.args.place c.index_mut.result.now (within_view _ _ c.self.inside.lanes.items c.args.place c.self.view_is refl c.requires) c.index_mut.ensures.value c.self.invariant c.args.guard c.in_ok-open.open (spent_attach c.self.inside.contexts.attaches.items c.args.guard c.args.place c.in_ok-open.open c.in_ok-open.ensures.value).0 (spent_attach c.self.inside.contexts.attaches.items c.args.guard c.args.place c.in_ok-open.open c.in_ok-open.ensures.value).1 c.detach_from.new.lane c.detach_from.ensures.id c.detach_from.ensures.name c.detach_from.ensures.same_default c.detach_from.ensures.live (context_slots c.take_on_lane.new.self) (search rules) c.in_ok-open.ensures.spent (keeps_tokens stack_views _ c.self.inside.world c.self.inside.dispatch c.self.invariant.there (λ s lane number. filtered_keeps s.layer.inner lane number _ _ (none_more _)))

pub returns : goal.returns
returns c = by_view c.args.at c.args.place (call.Detach c.args.guard) _ _ _ _ c.self.view_is (λ t stands. serves_detached _ _ _ _ (parts_of c.self.inside) c.args.at c.args.place c.index_mut.result.now (within_view _ _ c.self.inside.lanes.items c.args.place c.self.view_is refl c.requires) c.index_mut.ensures.value c.self.invariant c.args.guard c.in_ok-open.open (spent_attach c.self.inside.contexts.attaches.items c.args.guard c.args.place c.in_ok-open.open c.in_ok-open.ensures.value).0 (spent_attach c.self.inside.contexts.attaches.items c.args.guard c.args.place c.in_ok-open.open c.in_ok-open.ensures.value).1 c.detach_from.new.lane c.detach_from.ensures.id c.detach_from.ensures.name c.detach_from.ensures.same_default c.detach_from.ensures.live (context_slots c.take_on_lane.new.self) (search rules) c.in_ok-open.ensures.spent t stands)
