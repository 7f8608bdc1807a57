-- By the subscriber that serves the lane, if one does.
use Rattle.std.proofs.Common.{ℕ, Option, sym, ◌∙◌, subst, refl, OnOk, OnErr}
use Rattle.span_handles.proofs.Common.{IsLiveParent, HasIf, ReplacedIf}
use Rattle.span_handles.specs.Events.{TellsEventIf}
use Rattle.span_handles.proofs.event.dispatch.Goals as goal

pub tell-requires-clause-whole : goal.tell-requires-clause-whole
tell-requires-clause-whole g c = subst (HasIf g.S.Subscriber.is_whole c.args.world.now) (sym c.get_default.ensures.value ∙ c.in-Some.is) c.requires.whole

pub tell-requires-clause-live : goal.tell-requires-clause-live
tell-requires-clause-live g c = subst (HasIf (λ s. IsLiveParent (g.S.Subscriber.spans s).made c.args.parent) c.args.world.now) (sym c.get_default.ensures.value ∙ c.in-Some.is) c.requires.live

pub returns-in-Some-clause-did : goal.returns-in-Some-clause-did
returns-in-Some-clause-did g c =
    subst (λ (o : Option ℕ). OnOk c.tell.result (TellsEventIf g.S.Subscriber.does c.args.world.now c.tell.new.world c.args.lane.now c.args.at c.args.parent c.args.site c.args.values.now o)) (sym (sym c.get_default.ensures.value ∙ c.in-Some.is)) c.tell.ensures.did

pub returns-in-Some-clause-memory_leaves : goal.returns-in-Some-clause-memory_leaves
returns-in-Some-clause-memory_leaves g c =
    subst (λ (o : Option ℕ). OnErr c.tell.result (ReplacedIf g.S.Subscriber.same_but_room c.args.world.now c.tell.new.world o)) (sym (sym c.get_default.ensures.value ∙ c.in-Some.is)) c.tell.ensures.memory_leaves

pub returns-in-None-clause-did : goal.returns-in-None-clause-did
returns-in-None-clause-did g c =
    subst (λ (o : Option ℕ). TellsEventIf g.S.Subscriber.does c.args.world.now c.args.world.now c.args.lane.now c.args.at c.args.parent c.args.site c.args.values.now o) (sym (sym c.get_default.ensures.value ∙ c.in-None.is)) refl
