-- Callsites stay.
use Rattle.future_tests.specs.Carrying.{site_stays}
use Rattle.future_tests.proofs.acts.SpanMakerTracedFuture.poll_in.Goals as goal

pub returns-in-Ok-clause-known_after : goal.returns-in-Ok-clause-known_after
returns-in-Ok-clause-known_after g c = site_stays c.args.world.now c.make_here.new.world c.args.self.now.site c.make_here.ensures.keeps.parts c.requires.known

pub returns-in-Err-clause-known_after : goal.returns-in-Err-clause-known_after
returns-in-Err-clause-known_after g c = site_stays c.args.world.now c.make_here.new.world c.args.self.now.site c.make_here.ensures.keeps.parts c.requires.known
