-- The one subscriber is as it was added.
use Rattle.std.proofs.Common.{ap, arith, length}
use Rattle.explain_stack.proofs.Begins.{begins}
use Rattle.explain_stack.proofs.scene.Scene.new.Goals as goal

pub returns-in-Ok : goal.returns-in-Ok
returns-in-Ok g c =
    let e = ap (λ xs. length xs) c.add.ensures.sites in
    let d = c.known_site_count-site_count.ensures in
    begins g.S.Subscriber.same_but_room c.args.stack g.S.Subscriber.spans g.S.Subscriber.kept g.S.Subscriber.is_whole g.met.S.Subscriber.same_spans g.met.S.Subscriber.same_kept g.met.S.Subscriber.same_whole c.requires.whole c.requires.spans c.requires.kept c.args.world.subscribers c.requires.empty c.add.new.self c.in-Ok.ensures.ok c.known_site_count-site_count.result (omega (arith, e, d)) _ _ c.in-Ok.dispatch c.in-Ok.ensures.dispatch c.bare_lane.ensures.default c.bare_lane-in-Ok.ensures.default (λ e. absurd (let a = c.bare_lane.ensures.id in let b = c.bare_lane-in-Ok.ensures.id in omega (arith, a, b, e)))
