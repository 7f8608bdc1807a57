-- One more that was just made.
use Rattle.future_tests.proofs.Starting.{unused_more}
use Rattle.future_tests.proofs.stack.add_stack.Goals as goal

pub returns-in-Ok-clause-unused : goal.returns-in-Ok-clause-unused
returns-in-Ok-clause-unused g c =
    unused_more g.S.Subscriber.spans g.S.Subscriber.kept g.S.Subscriber.is_whole g.S.Subscriber.same_but_room g.met.S.Subscriber.same_spans g.met.S.Subscriber.same_kept g.met.S.Subscriber.same_whole c.args.world.now c.add.new.self c.new_unused.result c.in-Ok.ensures.ok c.requires c.new_unused.ensures
