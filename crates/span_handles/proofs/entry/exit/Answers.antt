-- An exit takes no hold of a handle.
use Rattle.std.proofs.Common.{refl, slice_set}
use Rattle.span_handles.proofs.Common.{WorldValue}
use Rattle.span_handles.proofs.KnownHandlesLemmas.{handles_call}
use Rattle.span_handles.proofs.entry.exit.Goals as goal

pub returns-clause-keeps : goal.returns-clause-keeps
returns-clause-keeps g c =
    let new : WorldValue g.row.S.Denot = record c.args.world.now { subscribers = slice_set c.args.world.now.subscribers c.args.dispatch c.exit.new.self } in
    handles_call g.S.Subscriber.spans g.S.Subscriber.does g.met.S.Subscriber.sound g.met.S.Subscriber.allowed g.met.S.Subscriber.shows c.args.world.now new c.args.dispatch _
    (record { before = c.subscriber_mut.result.now; later = c.exit.new.self; there = c.subscriber_mut.ensures.value; did = c.exit.ensures; others = refl }) tt
