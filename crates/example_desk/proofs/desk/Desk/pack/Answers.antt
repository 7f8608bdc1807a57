-- A span on the back lane, what is told in it, and its close.
use Rattle.traced_futures.proofs.Programs.{arith, with_made, ends_unmade, ends_closed}
use Rattle.example_desk.proofs.desk.Desk.pack.Goals as goal

pub returns-in_err-pack-clause-ends : goal.returns-in_err-pack-clause-ends
returns-in_err-pack-clause-ends g c = ends_unmade c.requires.ready c.in_err-pack.ensures c.from_residual.ensures.0 (omega arith)

pub wrap-told-requires : goal.wrap-told-requires
wrap-told-requires g c = with_made c.requires.ready c.in_ok-pack.ensures (omega arith)

pub returns-clause-ends : goal.returns-clause-ends
returns-clause-ends g c = ends_closed c.requires.ready c.in_ok-pack.ensures c.wrap-told.ensures.ends c.close.ensures.closes
