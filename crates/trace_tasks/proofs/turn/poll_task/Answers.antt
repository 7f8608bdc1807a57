-- A poll of a task, and its end.
use Rattle.futures.specs.declared.task.Poll.TheVariants as polls
use Rattle.trace_tasks.proofs.polls.TurnLemmas.{inside_of, pending, finished, closed_whole}
use Rattle.trace_tasks.proofs.polls.RefusedPollLemmas.{stops}
use Rattle.trace_tasks.proofs.turn.poll_task.Goals as goal

pub returns-in-Ok-Pending-clause-ok : goal.returns-in-Ok-Pending-clause-ok
returns-in-Ok-Pending-clause-ok g c =
    pending g.S.Subscriber.spans g.S.Subscriber.hint g.S.Subscriber.enables g.S.Subscriber.attaches g.S.Subscriber.activates g.S.Subscriber.kept g.S.Subscriber.is_whole g.S.Subscriber.does g.S.OtelPart.touches g.S.Subscriber.same_but_room g.met.S.Subscriber.allowed g.met.S.Subscriber.shows g.met.S.Subscriber.keeps_lanes g.met.S.Subscriber.keeps_attaches g.met.S.Subscriber.keeps_whole g.met.S.OtelSubscriber.stays g.met.S.Subscriber.none_kept_without_entries
    c.args.task c.poll_in.new.self c.args.at c.requires.lone.0 c.args.world.now c.poll_in.new.world c.args.lane.now c.poll_in.new.lane c.requires.ready c.requires.lone.1 c.poll_in.ensures.keeps
    (inside_of g.S.Subscriber.spans g.S.Subscriber.hint g.S.Subscriber.enables g.S.Subscriber.attaches g.S.Subscriber.activates g.S.Subscriber.kept g.S.Subscriber.is_whole g.S.Subscriber.does g.S.OtelPart.touches g.S.Subscriber.same_but_room g.met.S.Subscriber.allowed g.met.S.Subscriber.shows g.met.S.Subscriber.keeps_lanes g.met.S.Subscriber.keeps_attaches g.met.S.Subscriber.keeps_whole g.met.S.OtelSubscriber.stays g.met.S.Subscriber.none_kept_without_entries
    c.args.task c.poll_in.new.self c.args.world.now c.poll_in.new.world c.args.lane.now c.poll_in.new.lane c.args.at polls.Pending (rw c.in-Ok-Pending.field-0-is at c.in-Ok-Pending.ensures.did))

pub returns-in-Ok-Ready-clause-whole : goal.returns-in-Ok-Ready-clause-whole
returns-in-Ok-Ready-clause-whole g c = closed_whole g.S.Subscriber.spans g.S.Subscriber.is_whole g.S.Subscriber.does g.met.S.Subscriber.keeps_whole c.args.at c.poll_in.new.self.span.held c.poll_in.new.world c.into_inner-ended.new.world c.into_inner-ended.ensures.did (c.poll_in.ensures.keeps.whole c.requires.ready.whole)

pub returns-in-Err-clause-whole : goal.returns-in-Err-clause-whole
returns-in-Err-clause-whole g c = closed_whole g.S.Subscriber.spans g.S.Subscriber.is_whole g.S.Subscriber.does g.met.S.Subscriber.keeps_whole c.args.at c.poll_in.new.self.span.held c.poll_in.new.world c.into_inner-ended-in-Err.new.world c.into_inner-ended-in-Err.ensures.did (c.poll_in.ensures.keeps.whole c.requires.ready.whole)

pub returns-in-Ok-Ready-clause-ok : goal.returns-in-Ok-Ready-clause-ok
returns-in-Ok-Ready-clause-ok g c =
    finished g.S.Subscriber.spans g.S.Subscriber.hint g.S.Subscriber.enables g.S.Subscriber.attaches g.S.Subscriber.activates g.S.Subscriber.kept g.S.Subscriber.is_whole g.S.Subscriber.does g.S.OtelPart.touches g.S.Subscriber.same_but_room g.met.S.Subscriber.allowed g.met.S.Subscriber.shows g.met.S.Subscriber.keeps_lanes g.met.S.Subscriber.keeps_attaches g.met.S.Subscriber.keeps_whole g.met.S.OtelSubscriber.stays g.met.S.Subscriber.none_kept_without_entries
    c.args.task c.poll_in.new.self c.args.at c.requires.lone.0 c.args.world.now c.poll_in.new.world c.into_inner-ended.new.world c.args.lane.now c.poll_in.new.lane c.requires.ready c.requires.lone.1 c.poll_in.ensures.keeps
    (inside_of g.S.Subscriber.spans g.S.Subscriber.hint g.S.Subscriber.enables g.S.Subscriber.attaches g.S.Subscriber.activates g.S.Subscriber.kept g.S.Subscriber.is_whole g.S.Subscriber.does g.S.OtelPart.touches g.S.Subscriber.same_but_room g.met.S.Subscriber.allowed g.met.S.Subscriber.shows g.met.S.Subscriber.keeps_lanes g.met.S.Subscriber.keeps_attaches g.met.S.Subscriber.keeps_whole g.met.S.OtelSubscriber.stays g.met.S.Subscriber.none_kept_without_entries
    c.args.task c.poll_in.new.self c.args.world.now c.poll_in.new.world c.args.lane.now c.poll_in.new.lane c.args.at (polls.Ready tt) (rw c.in-Ok-Ready.field-0-is at c.in-Ok-Ready.ensures.did))
    c.into_inner-ended.ensures.did
    (closed_whole g.S.Subscriber.spans g.S.Subscriber.is_whole g.S.Subscriber.does g.met.S.Subscriber.keeps_whole c.args.at c.poll_in.new.self.span.held c.poll_in.new.world c.into_inner-ended.new.world c.into_inner-ended.ensures.did (c.poll_in.ensures.keeps.whole c.requires.ready.whole))

pub returns-in-Err-clause-stops : goal.returns-in-Err-clause-stops
returns-in-Err-clause-stops g c =
    stops g.S.Subscriber.spans g.S.Subscriber.hint g.S.Subscriber.enables g.S.Subscriber.attaches g.S.Subscriber.activates g.S.Subscriber.kept g.S.Subscriber.is_whole g.S.Subscriber.does g.S.OtelPart.touches g.S.Subscriber.same_but_room g.met.S.Subscriber.shows g.met.S.Subscriber.keeps_lanes g.met.S.OtelSubscriber.stays
    c.args.task c.poll_in.new.self c.args.at c.requires.lone.0 c.args.world.now c.poll_in.new.world c.into_inner-ended-in-Err.new.world c.args.lane.now c.poll_in.new.lane _ c.requires.ready c.requires.lone.1 c.in-Err.ensures.did c.into_inner-ended-in-Err.ensures.did
