-- An entry on the back lane, an event, and the exit.
use Rattle.traced_futures.proofs.Programs.{arith, tell_entered, exit_entered, ends_refused, ends_told_inside}
use Rattle.example_desk.proofs.desk.Desk.wrap.Goals as goal

pub returns-in_err-guard-clause-ends : goal.returns-in_err-guard-clause-ends
returns-in_err-guard-clause-ends g c = ends_refused c.requires.ready c.in_err-guard.ensures.refused c.from_residual.ensures.0 (omega arith)

pub event-told-requires : goal.event-told-requires
event-told-requires g c = tell_entered c.requires.ready c.in_ok-guard.ensures.entered c.requires.held (omega arith)

pub exit-requires : goal.exit-requires
exit-requires g c = exit_entered c.requires.ready c.in_ok-guard.ensures.entered c.requires.held c.event-told.ensures.stays

pub returns-clause-ends : goal.returns-clause-ends
returns-clause-ends g c = ends_told_inside c.requires.ready c.in_ok-guard.ensures.entered c.requires.held c.event-told.ensures c.exit.ensures (omega arith) c.map_err.ensures.variant
