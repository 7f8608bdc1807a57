-- What the closure keeps is what the exit needs.
use Rattle.span_handles.proofs.KnownHandlesLemmas.{handles_trans}
use Rattle.span_handles.proofs.ScopeLemmas.{may_end}
use Rattle.span_handles.proofs.span.Span.in_scope.Goals as goal

pub close_entry-requires-clause-there : goal.close_entry-requires-clause-there
close_entry-requires-clause-there g c =
    (may_end g.S.Subscriber.spans g.S.Subscriber.attaches g.S.Subscriber.kept g.S.Subscriber.is_whole g.S.Subscriber.does g.met.S.Subscriber.shows g.met.S.Subscriber.keeps_lanes g.met.S.Subscriber.keeps_whole c.args.at c.args.world.now c.open_entry.new.world c.f-answer.new.arg2
    c.args.lane.now c.open_entry.new.lane c.f-answer.new.arg3 c.args.self.now.held c.requires.known c.requires.whole c.requires.still (record { entered = c.in_ok-entry.ensures.did; none = c.open_entry.ensures.none })
    (c.requires.keeps _ _ _ _ _ (record { entered = c.in_ok-entry.ensures.did; none = c.open_entry.ensures.none }) c.f-answer.ensures)).there

pub close_entry-requires-clause-whole : goal.close_entry-requires-clause-whole
close_entry-requires-clause-whole g c =
    (may_end g.S.Subscriber.spans g.S.Subscriber.attaches g.S.Subscriber.kept g.S.Subscriber.is_whole g.S.Subscriber.does g.met.S.Subscriber.shows g.met.S.Subscriber.keeps_lanes g.met.S.Subscriber.keeps_whole c.args.at c.args.world.now c.open_entry.new.world c.f-answer.new.arg2
    c.args.lane.now c.open_entry.new.lane c.f-answer.new.arg3 c.args.self.now.held c.requires.known c.requires.whole c.requires.still (record { entered = c.in_ok-entry.ensures.did; none = c.open_entry.ensures.none })
    (c.requires.keeps _ _ _ _ _ (record { entered = c.in_ok-entry.ensures.did; none = c.open_entry.ensures.none }) c.f-answer.ensures)).whole

pub close_entry-requires-clause-may : goal.close_entry-requires-clause-may
close_entry-requires-clause-may g c =
    (may_end g.S.Subscriber.spans g.S.Subscriber.attaches g.S.Subscriber.kept g.S.Subscriber.is_whole g.S.Subscriber.does g.met.S.Subscriber.shows g.met.S.Subscriber.keeps_lanes g.met.S.Subscriber.keeps_whole c.args.at c.args.world.now c.open_entry.new.world c.f-answer.new.arg2
    c.args.lane.now c.open_entry.new.lane c.f-answer.new.arg3 c.args.self.now.held c.requires.known c.requires.whole c.requires.still (record { entered = c.in_ok-entry.ensures.did; none = c.open_entry.ensures.none })
    (c.requires.keeps _ _ _ _ _ (record { entered = c.in_ok-entry.ensures.did; none = c.open_entry.ensures.none }) c.f-answer.ensures)).may

pub close_entry-requires-clause-still : goal.close_entry-requires-clause-still
close_entry-requires-clause-still g c =
    (may_end g.S.Subscriber.spans g.S.Subscriber.attaches g.S.Subscriber.kept g.S.Subscriber.is_whole g.S.Subscriber.does g.met.S.Subscriber.shows g.met.S.Subscriber.keeps_lanes g.met.S.Subscriber.keeps_whole c.args.at c.args.world.now c.open_entry.new.world c.f-answer.new.arg2
    c.args.lane.now c.open_entry.new.lane c.f-answer.new.arg3 c.args.self.now.held c.requires.known c.requires.whole c.requires.still (record { entered = c.in_ok-entry.ensures.did; none = c.open_entry.ensures.none })
    (c.requires.keeps _ _ _ _ _ (record { entered = c.in_ok-entry.ensures.did; none = c.open_entry.ensures.none }) c.f-answer.ensures)).still

pub returns-clause-keeps : goal.returns-clause-keeps
returns-clause-keeps g c = λ inside.
    handles_trans g.S.Subscriber.spans c.args.world.now c.open_entry.new.world c.close_entry.new.world c.open_entry.ensures.keeps
    (handles_trans g.S.Subscriber.spans c.open_entry.new.world c.f-answer.new.arg2 c.close_entry.new.world
    (inside _ _ _ _ _ (record { entered = c.in_ok-entry.ensures.did; none = c.open_entry.ensures.none }) c.f-answer.ensures) c.close_entry.ensures.keeps)
