-- One hold more, or nothing.
use Rattle.std.proofs.Common.{ℕ, Option, subst}
use Rattle.span_handles.specs.Handles.{CopiesCurrent}
use Rattle.explain_stack.proofs.Around.{current_stands}
use Rattle.explain_stack.proofs.scene.Scene.put_around.Goals as goal

pub returns-clause-order : goal.returns-clause-order
returns-clause-order g c =
    current_stands g.S.Subscriber.spans g.S.Subscriber.attaches g.S.Subscriber.kept g.S.Subscriber.is_whole g.S.Subscriber.does g.met.S.Subscriber.shows g.met.S.Subscriber.keeps_lanes g.met.S.Subscriber.keeps_whole c.args.self.now.dispatch c.args.self.now.span_count c.args.self.now.site_count c.args.self.now.lane c.args.self.now.other c.args.self.now.world c.in_current_span.new.world c.args.self.now.lane.id c.in_current_span.result.span
    (subst (λ (d : Option ℕ). CopiesCurrent g.S.Subscriber.spans g.S.Subscriber.does c.args.self.now.world c.in_current_span.new.world c.args.self.now.lane.id d c.in_current_span.result.span) c.requires.served c.in_current_span.ensures.current) c.requires.order

pub returns-clause-current : goal.returns-clause-current
returns-clause-current g c =
    subst (λ (d : Option ℕ). CopiesCurrent g.S.Subscriber.spans g.S.Subscriber.does c.args.self.now.world c.in_current_span.new.world c.args.self.now.lane.id d c.in_current_span.result.span) c.requires.served c.in_current_span.ensures.current
