-- A link, or room alone.
use Rattle.std.proofs.Common.{refl}
use Rattle.explain_stack.proofs.AsksLemmas.{followed_stands}
use Rattle.explain_stack.proofs.Quiet.{quiet_same}
use Rattle.explain_stack.proofs.Steps.{quiet_on}
use Rattle.explain_stack.proofs.scene.Scene.follow.Goals as goal

pub returns-in_err-follows_from : goal.returns-in_err-follows_from
returns-in_err-follows_from g c = record {
  keeps = record {
    order = quiet_on g.S.Subscriber.spans g.S.Subscriber.kept g.S.Subscriber.is_whole (λ id. g.S.Subscriber.same_but_room) (λ id. quiet_same g.S.Subscriber.spans g.S.Subscriber.kept g.S.Subscriber.is_whole g.S.Subscriber.same_but_room g.met.S.Subscriber.same_spans g.met.S.Subscriber.same_kept g.met.S.Subscriber.same_whole) c.args.self.now.world c.follows_from.new.world c.args.span.now.held c.args.self.now.dispatch c.args.self.now.span_count c.args.self.now.site_count c.args.self.now.lane c.args.self.now.other c.in_err-follows_from.ensures.memory_leaves c.requires.order;
    known = c.follows_from.ensures.keeps.known;
    site_count = refl;
  };
}

pub returns-in_ok-follows_from : goal.returns-in_ok-follows_from
returns-in_ok-follows_from g c = record {
  keeps = record {
    order = followed_stands g.S.Subscriber.spans g.S.Subscriber.attaches g.S.Subscriber.kept g.S.Subscriber.is_whole g.S.Subscriber.does g.met.S.Subscriber.shows g.met.S.Subscriber.keeps_lanes g.met.S.Subscriber.keeps_whole c.args.self.now.world c.follows_from.new.world c.args.at c.args.self.now.dispatch c.args.self.now.span_count c.args.self.now.site_count c.args.self.now.lane c.args.self.now.other c.requires.order c.args.span.now.held c.args.from.now.held c.in_ok-follows_from.ensures.did;
    known = c.follows_from.ensures.keeps.known;
    site_count = refl;
  };
}
