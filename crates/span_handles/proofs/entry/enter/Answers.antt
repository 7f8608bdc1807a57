-- An entry releases nothing, and a refused one nothing either.
use Rattle.span_handles.proofs.KnownHandlesLemmas.{handles_result}
use Rattle.span_handles.proofs.entry.enter.Goals as goal

pub returns-clause-keeps : goal.returns-clause-keeps
returns-clause-keeps g c =
    handles_result g.S.Subscriber.spans g.S.Subscriber.does g.met.S.Subscriber.sound g.met.S.Subscriber.allowed g.met.S.Subscriber.shows g.S.Subscriber.same_but_room g.met.S.Subscriber.same_spans c.args.world.now c.args.dispatch
    _ _ _ c.subscriber_mut.ensures.value c.enter.result c.enter.ensures.did tt c.enter.ensures.leaves
