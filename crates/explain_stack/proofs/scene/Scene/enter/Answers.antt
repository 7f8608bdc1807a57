-- An entry, or room alone.
use Rattle.std.proofs.Common.{refl}
use Rattle.explain_stack.proofs.Moves.{entered_stands, lane_left}
use Rattle.explain_stack.proofs.Quiet.{quiet_same}
use Rattle.explain_stack.proofs.Steps.{quiet_on}
use Rattle.explain_stack.proofs.scene.Scene.enter.Goals as goal

pub returns-in-Ok-clause-keeps : goal.returns-in-Ok-clause-keeps
returns-in-Ok-clause-keeps g c = record {
  order = entered_stands g.S.Subscriber.spans g.S.Subscriber.attaches g.S.Subscriber.kept g.S.Subscriber.is_whole g.S.Subscriber.does g.met.S.Subscriber.shows g.met.S.Subscriber.keeps_lanes g.met.S.Subscriber.keeps_whole c.args.self.now.dispatch c.args.self.now.span_count c.args.self.now.site_count c.args.span.now.held c.args.self.now.world c.open_entry.new.world c.args.at c.args.self.now.lane c.open_entry.new.lane c.args.self.now.other c.in-Ok.ensures.did c.open_entry.ensures.none c.requires.order;
  known = c.open_entry.ensures.keeps.known;
  site_count = refl;
}

pub returns-in-Err-Full-clause-keeps : goal.returns-in-Err-Full-clause-keeps
returns-in-Err-Full-clause-keeps g c = record {
  order = lane_left g.S.Subscriber.spans g.S.Subscriber.kept g.S.Subscriber.is_whole c.args.self.now.dispatch c.args.self.now.span_count c.args.self.now.site_count c.open_entry.new.world c.args.self.now.lane c.open_entry.new.lane c.args.self.now.other c.in-Err-Full.ensures.lane_leaves (quiet_on g.S.Subscriber.spans g.S.Subscriber.kept g.S.Subscriber.is_whole (λ id. g.S.Subscriber.same_but_room) (λ id. quiet_same g.S.Subscriber.spans g.S.Subscriber.kept g.S.Subscriber.is_whole g.S.Subscriber.same_but_room g.met.S.Subscriber.same_spans g.met.S.Subscriber.same_kept g.met.S.Subscriber.same_whole) c.args.self.now.world c.open_entry.new.world c.args.span.now.held c.args.self.now.dispatch c.args.self.now.span_count c.args.self.now.site_count c.args.self.now.lane c.args.self.now.other c.in-Err-Full.ensures.leaves c.requires.order);
  known = c.open_entry.ensures.keeps.known;
  site_count = refl;
}

pub returns-in-Err-Memory-clause-keeps : goal.returns-in-Err-Memory-clause-keeps
returns-in-Err-Memory-clause-keeps g c = record {
  order = lane_left g.S.Subscriber.spans g.S.Subscriber.kept g.S.Subscriber.is_whole c.args.self.now.dispatch c.args.self.now.span_count c.args.self.now.site_count c.open_entry.new.world c.args.self.now.lane c.open_entry.new.lane c.args.self.now.other c.in-Err-Memory.ensures.lane_leaves (quiet_on g.S.Subscriber.spans g.S.Subscriber.kept g.S.Subscriber.is_whole (λ id. g.S.Subscriber.same_but_room) (λ id. quiet_same g.S.Subscriber.spans g.S.Subscriber.kept g.S.Subscriber.is_whole g.S.Subscriber.same_but_room g.met.S.Subscriber.same_spans g.met.S.Subscriber.same_kept g.met.S.Subscriber.same_whole) c.args.self.now.world c.open_entry.new.world c.args.span.now.held c.args.self.now.dispatch c.args.self.now.span_count c.args.self.now.site_count c.args.self.now.lane c.args.self.now.other c.in-Err-Memory.ensures.leaves c.requires.order);
  known = c.open_entry.ensures.keeps.known;
  site_count = refl;
}

pub returns-in-Ok-clause-enters : goal.returns-in-Ok-clause-enters
returns-in-Ok-clause-enters g c = record { entered = c.in-Ok.ensures.did; none = c.open_entry.ensures.none }
