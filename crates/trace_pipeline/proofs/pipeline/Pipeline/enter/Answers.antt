-- The entry.
use Rattle.std.proofs.Common.{rules, ◌∙◌, refl, sym, ap, Err}
use Rattle.std.proofs.lemmas.Bool.{true≢false}
use Rattle.trace_pipeline.proofs.Common.{needs_known, needs_whole, needs_few, refused_kept, refused_state, within_view, refuses_unknown, by_view_opens, by_view_opens_refused, serves_entered, keeps_entered, serves_refusal, parts_of}
use Rattle.span_script.proofs.entries.FullLanesLemmas.{layer_activates, filtered_activates, meets_not, refuses_entry}
use Rattle.trace_pipeline.proofs.pipeline.Pipeline.enter.Goals as goal

pub returns-in_default : goal.returns-in_default
returns-in_default c = serves_refusal _ _ _ _ _ (λ t stands. refuses_unknown _ _ c.self.view_is c.self.inside.handles.items refl c.args.handle (search rules) t stands.fits _) (search rules) refl

pub open_entry-requires-clause-known : goal.open_entry-requires-clause-known
open_entry-requires-clause-known c = needs_known _ _ _ _ (parts_of c.self.inside) c.self.invariant c.args.handle c.in-Some.span.now (search rules)

pub open_entry-requires-clause-whole : goal.open_entry-requires-clause-whole
open_entry-requires-clause-whole c = needs_whole _ _ _ _ (parts_of c.self.inside) c.self.invariant c.args.handle c.in-Some.span.now (search rules)

pub open_entry-requires-clause-few_holds : goal.open_entry-requires-clause-few_holds
open_entry-requires-clause-few_holds c = needs_few _ _ _ _ (parts_of c.self.inside) c.self.invariant c.args.handle c.in-Some.span.now (search rules) (search rules) (search rules)

pub invariant_of-self-in-Err : goal.invariant_of-self-in-Err
invariant_of-self-in-Err c = refused_kept _ _ _ _ _ _ c.same.ensures (parts_of c.self.inside) c.open_entry.new.world c.self.invariant c.args.handle c.in-Some.span.now (search rules) c.in-Err.ensures.leaves
    c.args.place c.index_mut.result.now c.open_entry.new.lane (within_view _ _ c.self.inside.lanes.items c.args.place c.self.view_is refl c.requires) c.index_mut.ensures.value c.in-Err.ensures.lane_leaves c.reserve_for.new.self.items (search rules) c.reserve.new.self.items (search rules)

pub returns-in-Err : goal.returns-in-Err
returns-in-Err c = record {
  ok = (search rules);
  refused = λ t stands no. by_view_opens_refused c.args.at c.args.place c.args.handle c.args.owns _ _ _ c.self.view_is (λ t stands. refuses_entry _ _ _ _ _ (λ s id known. filtered_activates s.layer.inner _ _ _ (layer_activates s.inner.inner.layer.inner.core.settings.activation id s.inner.inner.layer.inner.core.spans known)) (parts_of c.self.inside) c.args.at c.args.place c.index_mut.result.now (within_view _ _ c.self.inside.lanes.items c.args.place c.self.view_is refl c.requires) c.index_mut.ensures.value c.args.handle c.in-Some.span.now (search rules) c.self.invariant c.args.owns c.in-Err.error c.of_entry.result c.of_entry.ensures (λ e. c.in-Err.ensures.full (ap (λ x. Err x) e)) no t stands) t stands;
  err = refused_state _ _ _ _ _ _ c.same.ensures (parts_of c.self.inside) c.open_entry.new.world c.self.invariant c.args.handle c.in-Some.span.now (search rules) c.in-Err.ensures.leaves
      c.args.place c.index_mut.result.now c.open_entry.new.lane (within_view _ _ c.self.inside.lanes.items c.args.place c.self.view_is refl c.requires) c.index_mut.ensures.value c.in-Err.ensures.lane_leaves c.reserve_for.new.self.items (search rules) c.reserve.new.self.items (search rules) ∙ c.self.view_is;
  room = (search rules);
}

pub invariant_of-self-2 : goal.invariant_of-self-2
invariant_of-self-2 c = keeps_entered _ _ _ _ _ (parts_of c.self.inside) c.open_entry.new.world _ c.calls.ensures c.args.at c.args.place c.index_mut.result.now c.open_entry.new.lane (within_view _ _ c.self.inside.lanes.items c.args.place c.self.view_is refl c.requires) c.index_mut.ensures.value
    c.args.handle c.len-guard.result c.args.owns c.in-Some.span.now c.in-Ok.entry c.push_reserved.new.self.items (search rules) c.in-Ok.ensures.value (search rules) (search rules) (record { contexts = c.self.inside.contexts.contexts.items; attaches = c.skip.new.self.items }) refl (search rules) c.in-Ok.ensures.did c.in-Ok.ensures.none c.self.invariant (λ t stands line there is. meets_not _ _ _ _ _ (λ s id known. filtered_activates s.layer.inner _ _ _ (layer_activates s.inner.inner.layer.inner.core.settings.activation id s.inner.inner.layer.inner.core.spans known)) (parts_of c.self.inside) c.args.at c.args.place c.index_mut.result.now (within_view _ _ c.self.inside.lanes.items c.args.place c.self.view_is refl c.requires) c.index_mut.ensures.value c.args.handle c.in-Some.span.now (search rules) c.self.invariant t stands line there is (λ meets. true≢false (sym (c.in-Ok.ensures.full_refused meets))))

pub returns : goal.returns
returns c = by_view_opens c.args.at c.args.place c.args.handle c.args.owns _ _ _ _ c.self.view_is (λ t stands. serves_entered _ _ _ _ _ (parts_of c.self.inside) c.open_entry.new.world _ c.calls.ensures c.args.at c.args.place c.index_mut.result.now c.open_entry.new.lane (within_view _ _ c.self.inside.lanes.items c.args.place c.self.view_is refl c.requires) c.index_mut.ensures.value
    c.args.handle c.len-guard.result c.args.owns c.in-Some.span.now c.in-Ok.entry c.push_reserved.new.self.items (search rules) c.in-Ok.ensures.value (search rules) (search rules) (record { contexts = c.self.inside.contexts.contexts.items; attaches = c.skip.new.self.items }) refl (search rules) c.in-Ok.ensures.did c.in-Ok.ensures.none c.self.invariant (λ t stands line there is. meets_not _ _ _ _ _ (λ s id known. filtered_activates s.layer.inner _ _ _ (layer_activates s.inner.inner.layer.inner.core.settings.activation id s.inner.inner.layer.inner.core.spans known)) (parts_of c.self.inside) c.args.at c.args.place c.index_mut.result.now (within_view _ _ c.self.inside.lanes.items c.args.place c.self.view_is refl c.requires) c.index_mut.ensures.value c.args.handle c.in-Some.span.now (search rules) c.self.invariant t stands line there is (λ meets. true≢false (sym (c.in-Ok.ensures.full_refused meets)))) t stands)
