-- An exit of an entry that is open.
use Rattle.std.proofs.Common.{refl}
use Rattle.span_futures.proofs.Inside.{still_on}
use Rattle.explain_stack.proofs.Moves.{exited_stands, may_exit_on}
use Rattle.explain_stack.proofs.scene.Scene.exit.Goals as goal

pub close_entry-requires-clause-may : goal.close_entry-requires-clause-may
close_entry-requires-clause-may g c =
    may_exit_on g.S.Subscriber.spans c.args.self.now.world c.args.self.now.lane.id c.args.span.now.held c.requires.known (c.if-not-has_open_entry.ensures refl)

pub close_entry-requires-clause-still : goal.close_entry-requires-clause-still
close_entry-requires-clause-still g c =
    still_on g.S.Subscriber.kept c.args.self.now.world c.args.self.now.lane c.args.span.now.held c.requires.order.attached

pub returns-clause-keeps : goal.returns-clause-keeps
returns-clause-keeps g c = record {
  order = exited_stands g.S.Subscriber.spans g.S.Subscriber.attaches g.S.Subscriber.kept g.S.Subscriber.is_whole g.S.Subscriber.does g.met.S.Subscriber.shows g.met.S.Subscriber.keeps_lanes g.met.S.Subscriber.keeps_whole c.args.self.now.dispatch c.args.self.now.span_count c.args.self.now.site_count c.args.span.now.held c.args.self.now.world c.close_entry.new.world c.args.at c.args.self.now.lane c.close_entry.new.lane c.args.self.now.other c.close_entry.ensures.did c.close_entry.ensures.none c.requires.order;
  known = c.close_entry.ensures.keeps.known;
  site_count = refl;
}

pub returns-clause-exits : goal.returns-clause-exits
returns-clause-exits g c = λ none. c.close_entry.ensures.did
