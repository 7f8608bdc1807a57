-- A copy is a hold of its own.
use Rattle.std.proofs.Common.{refl, slice_set}
use Rattle.span_handles.proofs.Common.{WorldValue, CloneSpan}
use Rattle.span_handles.proofs.KnownHandlesLemmas.{copy_known, handles_call, gains_call}
use Rattle.span_handles.proofs.calls.hold.Goals as goal

pub returns-clause-known : goal.returns-clause-known
returns-clause-known g c =
    let new : WorldValue g.row.S.Denot = record c.args.world.now { subscribers = slice_set c.args.world.now.subscribers c.args.dispatch c.clone_span.new.self } in
    copy_known g.S.Subscriber.spans g.S.Subscriber.does g.met.S.Subscriber.sound g.met.S.Subscriber.allowed g.met.S.Subscriber.shows c.args.world.now new c.args.dispatch c.args.id c.requires.there
    (record { before = c.subscriber_mut.result.now; later = c.clone_span.new.self; there = c.subscriber_mut.ensures.value; did = c.clone_span.ensures; others = refl })

pub returns-clause-keeps : goal.returns-clause-keeps
returns-clause-keeps g c =
    let new : WorldValue g.row.S.Denot = record c.args.world.now { subscribers = slice_set c.args.world.now.subscribers c.args.dispatch c.clone_span.new.self } in
    handles_call g.S.Subscriber.spans g.S.Subscriber.does g.met.S.Subscriber.sound g.met.S.Subscriber.allowed g.met.S.Subscriber.shows c.args.world.now new c.args.dispatch (CloneSpan c.args.id)
    (record { before = c.subscriber_mut.result.now; later = c.clone_span.new.self; there = c.subscriber_mut.ensures.value; did = c.clone_span.ensures; others = refl }) tt

pub returns-clause-more : goal.returns-clause-more
returns-clause-more g c =
    let new : WorldValue g.row.S.Denot = record c.args.world.now { subscribers = slice_set c.args.world.now.subscribers c.args.dispatch c.clone_span.new.self } in
    gains_call g.S.Subscriber.spans g.S.Subscriber.does g.met.S.Subscriber.sound g.met.S.Subscriber.allowed g.met.S.Subscriber.shows c.args.world.now new c.args.dispatch c.args.id
    (record { before = c.subscriber_mut.result.now; later = c.clone_span.new.self; there = c.subscriber_mut.ensures.value; did = c.clone_span.ensures; others = refl })
