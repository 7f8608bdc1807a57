-- A chain of closes takes one hold of the span that it begins with.
use Rattle.std.proofs.Common.{refl, slice_set}
use Rattle.span_handles.proofs.Common.{WorldValue}
use Rattle.span_handles.proofs.KnownHandlesLemmas.{others_chain, loses_chain}
use Rattle.span_handles.proofs.calls.release.Goals as goal

pub returns-clause-keeps : goal.returns-clause-keeps
returns-clause-keeps g c =
    let new : WorldValue g.row.S.Denot = record c.args.world.now { subscribers = slice_set c.args.world.now.subscribers c.args.dispatch c.close_chain.new.subscriber } in
    others_chain g.S.Subscriber.spans g.S.Subscriber.does g.met.S.Subscriber.allowed g.met.S.Subscriber.shows c.args.world.now new c.args.dispatch c.args.at c.args.id
    (record { before = c.subscriber_mut.result.now; later = c.close_chain.new.subscriber; there = c.subscriber_mut.ensures.value; did = c.close_chain.ensures.did; others = refl })

pub returns-clause-fewer : goal.returns-clause-fewer
returns-clause-fewer g c =
    let new : WorldValue g.row.S.Denot = record c.args.world.now { subscribers = slice_set c.args.world.now.subscribers c.args.dispatch c.close_chain.new.subscriber } in
    loses_chain g.S.Subscriber.spans g.S.Subscriber.does g.met.S.Subscriber.allowed g.met.S.Subscriber.shows c.args.world.now new c.args.dispatch c.args.at c.args.id
    (record { before = c.subscriber_mut.result.now; later = c.close_chain.new.subscriber; there = c.subscriber_mut.ensures.value; did = c.close_chain.ensures.did; others = refl })
