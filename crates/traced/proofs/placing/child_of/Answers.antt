-- By the gate's answer.
use Rattle.std.proofs.Common.{Ok, sym, subst}
use Rattle.traced.proofs.Common.{Handle, as_parent, GateAnswers, MakesIfGateAdmits}
use Rattle.traced.proofs.Gated.{makes, makes_none}
use Rattle.traced.proofs.placing.child_of.Goals as goal

pub returns-then-admits : goal.returns-then-admits
returns-then-admits g c =
    makes g.S.Subscriber c.args.world.now c.child_of.new.world c.args.lane.now c.args.at (as_parent c.args.parent.now.held) c.args.site c.args.values.now c.lawful.ensures c.child_of.result c.requires.may
    (subst (GateAnswers g.S.Subscriber c.args.world.now c.args.lane.now c.args.site) c.if-admits.true c.admits.ensures) c.child_of.ensures.makes.ok c.child_of.ensures.makes.known c.child_of.ensures.makes.keeps c.child_of.ensures.makes.memory_leaves

pub returns-else-admits : goal.returns-else-admits
returns-else-admits g c =
    subst (λ (h : Handle). MakesIfGateAdmits g.S.Subscriber c.args.world.now c.args.world.now c.args.lane.now c.args.at (as_parent c.args.parent.now.held) c.args.site c.args.values.now (Ok h)) (sym c.none.ensures)
    (makes_none g.S.Subscriber c.args.world.now c.args.world.now c.args.lane.now c.args.at (as_parent c.args.parent.now.held) c.args.site c.args.values.now c.requires.may
    (subst (GateAnswers g.S.Subscriber c.args.world.now c.args.lane.now c.args.site) c.if-admits.false c.admits.ensures))
