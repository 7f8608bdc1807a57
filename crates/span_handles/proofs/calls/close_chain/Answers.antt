-- Each release leads on to the next.
use Rattle.span_handles.proofs.ChainLemmas.{releases_first, releases_more, released_all}
use Rattle.span_handles.proofs.calls.close_chain.Goals as goal

pub loop-next-init : goal.loop-next-init
loop-next-init g c =
    releases_first g.S.Subscriber.spans g.S.Subscriber.does g.S.Subscriber.is_whole c.args.at c.args.id _ _ _ c.try_close-first.ensures.did c.try_close-first.ensures.next c.try_close-first.ensures.next_held
    (g.met.S.Subscriber.keeps_whole _ _ _ c.try_close-first.ensures.did c.requires.whole)

pub loop-next-preserved : goal.loop-next-preserved
loop-next-preserved g c =
    releases_more g.S.Subscriber.spans g.S.Subscriber.does g.S.Subscriber.is_whole c.args.at c.args.id c.in-Some.parent _ _ _ _ _ c.loop-next.invariant c.in-Some.is c.try_close-next.ensures.did c.try_close-next.ensures.next c.try_close-next.ensures.next_held
    (g.met.S.Subscriber.keeps_whole _ _ _ c.try_close-next.ensures.did c.loop-next.invariant.whole)

pub returns-clause-did : goal.returns-clause-did
returns-clause-did g c = released_all g.S.Subscriber.spans g.S.Subscriber.does g.S.Subscriber.is_whole c.args.at c.args.id _ _ c.loop-next.next c.loop-next.invariant c.in_default.is
