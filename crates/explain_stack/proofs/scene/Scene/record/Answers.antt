-- A record, or room alone.
use Rattle.std.proofs.Common.{refl}
use Rattle.explain_stack.proofs.AsksLemmas.{recorded_stands}
use Rattle.explain_stack.proofs.Quiet.{quiet_same}
use Rattle.explain_stack.proofs.Steps.{quiet_on}
use Rattle.explain_stack.proofs.scene.Scene.record.Goals as goal

pub returns-in_err-record_all : goal.returns-in_err-record_all
returns-in_err-record_all g c = record {
  keeps = record {
    order = quiet_on g.S.Subscriber.spans g.S.Subscriber.kept g.S.Subscriber.is_whole (λ id. g.S.Subscriber.same_but_room) (λ id. quiet_same g.S.Subscriber.spans g.S.Subscriber.kept g.S.Subscriber.is_whole g.S.Subscriber.same_but_room g.met.S.Subscriber.same_spans g.met.S.Subscriber.same_kept g.met.S.Subscriber.same_whole) c.args.self.now.world c.record_all.new.world c.args.span.now.held c.args.self.now.dispatch c.args.self.now.span_count c.args.self.now.site_count c.args.self.now.lane c.args.self.now.other c.in_err-record_all.ensures.memory_leaves c.requires.order;
    known = c.record_all.ensures.keeps.known;
    site_count = refl;
  };
}

pub returns : goal.returns
returns g c = record {
  keeps = record {
    order = recorded_stands g.S.Subscriber.spans g.S.Subscriber.attaches g.S.Subscriber.kept g.S.Subscriber.is_whole g.S.Subscriber.does g.met.S.Subscriber.shows g.met.S.Subscriber.keeps_lanes g.met.S.Subscriber.keeps_whole c.args.self.now.world c.record_all.new.world c.args.at c.args.self.now.dispatch c.args.self.now.span_count c.args.self.now.site_count c.args.self.now.lane c.args.self.now.other c.requires.order c.args.values.now c.args.span.now.held _ c.in_ok-record_all.ensures.did;
    known = c.record_all.ensures.keeps.known;
    site_count = refl;
  };
}
