-- The other handles are held.
use Rattle.std.proofs.Common.{ℕ, sym, subst}
use Rattle.span_handles.specs.Handles.{Handle}
use Rattle.explain_stack.specs.Places.{AreKnownWithSites, IsNoneOf}
use Rattle.explain_stack.proofs.Held.{closed_held}
use Rattle.explain_stack.proofs.play.close.Goals as goal

pub returns-clause-play : goal.returns-clause-play
returns-clause-play g c = record {
  order = c.close-closed.ensures.order;
  held = subst (λ (n : ℕ). AreKnownWithSites g.S.Subscriber.spans n c.close-closed.new.self.world c.take_sole.new.self) (sym c.close-closed.ensures.sites)
      (closed_held g.S.Subscriber.spans c.args.scene.now.site_count c.args.scene.now.world c.close-closed.new.self.world c.args.name.now c.into_span.result c.args.handles.now c.take_sole.new.self c.in-Some.ensures.rest
      (subst (λ (h : Handle). IsNoneOf c.take_sole.new.self h) (sym c.into_span.ensures) c.in-Some.ensures.last) c.close-closed.ensures.others c.requires.play.held);
}
