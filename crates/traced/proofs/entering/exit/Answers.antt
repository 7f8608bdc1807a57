-- By the exit.
use Rattle.traced.proofs.Moves.{lane_left, exited_on, exited_again}
use Rattle.traced.proofs.Elsewhere.{count_on}
use Rattle.traced.proofs.entering.exit.Goals as goal

pub returns : goal.returns
returns g c = record {
  did = c.exit.ensures.did;
  none = c.exit.ensures.none;
  lane_id = lane_left g.S.Subscriber c.lawful.ensures c.args.world.now c.exit.new.world c.args.lane.now c.exit.new.lane c.args.at c.args.guard.span.held c.exit.ensures.did c.exit.ensures.none;
  count = count_on _ c.args.world.now c.exit.new.world c.args.guard.span.held c.exit.ensures.did;
  stands = λ most dispatch sites others held stands.
      exited_on g.S.Subscriber c.lawful.ensures most dispatch sites c.args.world.now c.exit.new.world c.args.lane.now c.exit.new.lane others c.args.at c.args.guard.span.held held.of_dispatch c.exit.ensures.did c.exit.ensures.none stands;
  as_before = λ dispatch before entered.
      exited_again g.S.Subscriber c.lawful.ensures dispatch before c.args.world.now c.exit.new.world c.args.lane.now c.exit.new.lane c.args.at c.args.guard c.requires.on c.exit.ensures.did c.exit.ensures.keeps.known entered;
}
