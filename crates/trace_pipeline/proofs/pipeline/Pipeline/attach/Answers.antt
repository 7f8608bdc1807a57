-- The attach.
use Rattle.std.proofs.Common.{rules, ◌∙◌, refl, ap, Err}
use Rattle.span_script.specs.declared.request.Call.TheVariants as call
use Rattle.span_script.proofs.lane_contexts.AttachesLemmas.{not_full, left_state, left_kept, refuses_attach, serves_attached, keeps_attached}
use Rattle.trace_pipeline.proofs.Common.{within_view, by_view, by_view_refused, parts_of}
use Rattle.trace_pipeline.proofs.pipeline.Pipeline.attach.Goals as goal

pub invariant_of-self-in-Err : goal.invariant_of-self-in-Err
invariant_of-self-in-Err c = left_kept _ _ _ _ (parts_of c.self.inside) c.args.at c.args.place c.index_mut.result.now (within_view _ _ c.self.inside.lanes.items c.args.place c.self.view_is refl c.requires) c.index_mut.ensures.value c.self.invariant c.args.context c.in-Some.given (search rules) c.attach_to.new.lane c.in-Err.ensures.id c.in-Err.ensures.name c.in-Err.ensures.same_default c.in-Err.ensures.leaves c.reserve.new.self.items (search rules) c.reserve-2.new.self.items (search rules)

pub returns-in-Err : goal.returns-in-Err
returns-in-Err c = record {
  ok = (search rules);
  refused = λ t stands no. by_view_refused c.args.at c.args.place (call.Attach c.args.context) _ _ _ c.self.view_is (λ t stands. refuses_attach _ _ _ _ (parts_of c.self.inside) c.args.at c.args.place c.index_mut.result.now (within_view _ _ c.self.inside.lanes.items c.args.place c.self.view_is refl c.requires) c.index_mut.ensures.value c.self.invariant c.args.context c.in-Some.given (search rules) c.in-Err.error c.of_entry.result c.of_entry.ensures (λ e. c.in-Err.ensures.full.0 (ap (λ x. Err x) e)) no t stands) t stands;
  err = left_state _ _ _ _ (parts_of c.self.inside) c.args.at c.args.place c.index_mut.result.now (within_view _ _ c.self.inside.lanes.items c.args.place c.self.view_is refl c.requires) c.index_mut.ensures.value c.self.invariant c.args.context c.in-Some.given (search rules) c.attach_to.new.lane c.in-Err.ensures.id c.in-Err.ensures.name c.in-Err.ensures.same_default c.in-Err.ensures.leaves c.reserve.new.self.items (search rules) c.reserve-2.new.self.items (search rules) ∙ c.self.view_is;
  room = (search rules);
}

pub invariant_of-self-2 : goal.invariant_of-self-2
invariant_of-self-2 c = keeps_attached _ _ _ _ (parts_of c.self.inside) c.args.at c.args.place c.index_mut.result.now (within_view _ _ c.self.inside.lanes.items c.args.place c.self.view_is refl c.requires) c.index_mut.ensures.value c.self.invariant c.args.context c.in-Some.given (search rules) c.attach_to.new.lane c.in-Ok.ensures.id c.in-Ok.ensures.name c.in-Ok.ensures.same_default c.in-Ok.attached c.len-guard.result (search rules) c.in-Ok.ensures.number c.in-Ok.ensures.live (not_full c.in-Ok.attached _ c.in-Ok.ensures.full.1) c.skip.new.self.items (search rules) (record { contexts = c.self.inside.contexts.contexts.items; attaches = c.push_reserved.new.self.items }) refl (search rules)

pub returns : goal.returns
returns c = by_view c.args.at c.args.place (call.Attach c.args.context) _ _ _ _ c.self.view_is (λ t stands. serves_attached _ _ _ _ (parts_of c.self.inside) c.args.at c.args.place c.index_mut.result.now (within_view _ _ c.self.inside.lanes.items c.args.place c.self.view_is refl c.requires) c.index_mut.ensures.value c.self.invariant c.args.context c.in-Some.given (search rules) c.attach_to.new.lane c.in-Ok.ensures.id c.in-Ok.ensures.name c.in-Ok.ensures.same_default c.in-Ok.attached c.len-guard.result (search rules) c.in-Ok.ensures.number c.in-Ok.ensures.live (not_full c.in-Ok.attached _ c.in-Ok.ensures.full.1) c.skip.new.self.items (search rules) (record { contexts = c.self.inside.contexts.contexts.items; attaches = c.push_reserved.new.self.items }) refl (search rules) t stands)
