-- An event was told, or memory was wanted.
use Rattle.trace_tasks.proofs.polls.ChangesLemmas.{tell_changes, tell_wants}
use Rattle.trace_tasks.proofs.acts.tell_event.Goals as goal

pub returns-clause-changes : goal.returns-clause-changes
returns-clause-changes g c =
    tell_changes g.S.Subscriber.spans g.S.Subscriber.hint g.S.Subscriber.enables g.S.Subscriber.attaches g.S.Subscriber.kept g.S.Subscriber.is_whole g.S.Subscriber.does g.S.OtelPart.touches g.S.Subscriber.same_but_room
    c.args.at c.args.world.now c.args.dispatch _ _ _ _ _ _ _ _ c.subscriber_and_site-subscriber.ensures.value c.event.ensures.did c.event.ensures.memory_leaves

pub returns-clause-wants : goal.returns-clause-wants
returns-clause-wants g c =
    tell_wants g.S.Subscriber.spans g.S.Subscriber.hint g.S.Subscriber.enables g.S.Subscriber.attaches g.S.Subscriber.kept g.S.Subscriber.is_whole g.S.Subscriber.does g.S.OtelPart.touches g.S.Subscriber.same_but_room
    c.args.at c.args.world.now c.args.dispatch _ _ _ c.subscriber_and_site-subscriber.ensures.value c.event.ensures.memory_leaves
