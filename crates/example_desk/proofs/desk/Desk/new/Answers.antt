-- The one stack serves both lanes, which have ids of their own.
use Rattle.traced_futures.proofs.Programs.{arith, starts_two}
use Rattle.example_desk.proofs.desk.Desk.new.Goals as goal

pub returns-in-Ok-start : goal.returns-in-Ok-start
returns-in-Ok-start g c = (starts_two c.new.new.world c.in-Ok-start.ensures.dispatch c.new.ensures.alone c.in-Ok-start.ensures.count (omega (arith, c.in-Ok.ensures.five)) c.lane.ensures.own c.lane-in-Ok-start.ensures.own (λ e. omega (arith, e, c.lane.ensures.id, c.lane-in-Ok-start.ensures.id)) c.in-Ok-start.ensures.stands, omega (arith, c.in-Ok-start.ensures.dispatch, c.new.ensures.alone), c.lane.ensures.id, c.lane-in-Ok-start.ensures.id)
