-- By the gate's answer, and what the subscriber was told.
use Rattle.std.proofs.Common.{refl, subst}
use Rattle.trace_base.specs.declared.span.Parent.TheVariants as parent
use Rattle.traced.proofs.Common.{dispatch_on, GateAnswers}
use Rattle.traced.proofs.Gated.{tells_one, apart}
use Rattle.traced.proofs.Moves.{told_if, stays_same}
use Rattle.traced.proofs.telling.event.Goals as goal

pub returns-then-admits : goal.returns-then-admits
returns-then-admits g c = record {
  told = λ yes. tells_one g.S.Subscriber c.args.world.now c.dispatch.new.world c.args.lane.now c.args.at parent.Current c.args.site c.args.values.now c.dispatch.result yes c.dispatch.ensures.did;
  refused = λ no. absurd (apart g.S.Subscriber c.args.world.now c.args.lane.now c.args.site c.requires (subst (GateAnswers g.S.Subscriber c.args.world.now c.args.lane.now c.args.site) c.if-admits.true c.admits.ensures) no);
  memory_leaves = c.dispatch.ensures.memory_leaves;
  stays = told_if g.S.Subscriber c.lawful.ensures c.args.world.now c.dispatch.new.world c.args.lane.now c.args.at parent.Current c.args.site c.args.values.now (dispatch_on c.args.lane.now.default c.args.world.now.global) c.dispatch.result c.dispatch.ensures.did c.dispatch.ensures.memory_leaves;
}

pub returns-else-admits : goal.returns-else-admits
returns-else-admits g c = record {
  told = λ yes. absurd (apart g.S.Subscriber c.args.world.now c.args.lane.now c.args.site c.requires yes (subst (GateAnswers g.S.Subscriber c.args.world.now c.args.lane.now c.args.site) c.if-admits.false c.admits.ensures));
  refused = λ no. (refl, refl);
  memory_leaves = tt;
  stays = stays_same g.S.Subscriber c.args.world.now c.args.world.now refl;
}
