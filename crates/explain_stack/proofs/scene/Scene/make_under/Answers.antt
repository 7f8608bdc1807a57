-- A span more, or room alone.
use Rattle.std.proofs.Common.{refl}
use Rattle.explain_stack.proofs.Moves.{grown_stands}
use Rattle.explain_stack.proofs.Quiet.{quiet_same}
use Rattle.explain_stack.proofs.Steps.{quiet_stands}
use Rattle.explain_stack.proofs.scene.Scene.make_under.Goals as goal

pub returns-in_err-span-clause-keeps : goal.returns-in_err-span-clause-keeps
returns-in_err-span-clause-keeps g c = record {
  order = quiet_stands g.S.Subscriber.spans g.S.Subscriber.kept g.S.Subscriber.is_whole g.S.Subscriber.same_but_room (quiet_same g.S.Subscriber.spans g.S.Subscriber.kept g.S.Subscriber.is_whole g.S.Subscriber.same_but_room g.met.S.Subscriber.same_spans g.met.S.Subscriber.same_kept g.met.S.Subscriber.same_whole) c.args.self.now.world c.child_of_with.new.world c.args.self.now.dispatch c.args.self.now.dispatch c.args.self.now.span_count c.args.self.now.site_count c.args.self.now.lane c.args.self.now.other c.in_err-span.ensures.makes.memory_leaves c.requires.order;
  known = c.child_of_with.ensures.makes.keeps.known;
  site_count = refl;
}

pub returns-clause-keeps : goal.returns-clause-keeps
returns-clause-keeps g c =
    let m = c.in_ok-span.ensures.makes.ok in record {
      order = grown_stands g.S.Subscriber.spans g.S.Subscriber.attaches g.S.Subscriber.kept g.S.Subscriber.is_whole g.S.Subscriber.does g.met.S.Subscriber.shows g.met.S.Subscriber.keeps_lanes g.met.S.Subscriber.keeps_whole c.args.self.now.dispatch c.args.self.now.span_count c.args.self.now.site_count c.args.self.now.world c.child_of_with.new.world c.args.self.now.dispatch m.id c.args.self.now.lane c.args.at _ c.args.site m.callsite c.args.values.now m.made c.args.self.now.lane c.args.self.now.other c.requires.order;
      known = c.child_of_with.ensures.makes.keeps.known;
      site_count = refl;
    }

pub returns-clause-makes : goal.returns-clause-makes
returns-clause-makes g c = c.in_ok-span.ensures.makes.ok
