-- By the gate's answer.
use Rattle.std.proofs.Common.{Ok, sym, subst}
use Rattle.trace_base.specs.declared.span.Parent.TheVariants as parent
use Rattle.traced.proofs.Common.{Handle, GateAnswers, MakesIfGateAdmits}
use Rattle.traced.proofs.Gated.{makes, makes_none}
use Rattle.traced.proofs.making.span.Goals as goal

pub returns-then-admits : goal.returns-then-admits
returns-then-admits g c =
    makes g.S.Subscriber c.args.world.now c.new.new.world c.args.lane.now c.args.at parent.Current c.args.site c.args.values.now c.lawful.ensures c.new.result c.requires
    (subst (GateAnswers g.S.Subscriber c.args.world.now c.args.lane.now c.args.site) c.if-admits.true c.admits.ensures) c.new.ensures.makes.ok c.new.ensures.makes.known c.new.ensures.makes.keeps c.new.ensures.makes.memory_leaves

pub returns-else-admits : goal.returns-else-admits
returns-else-admits g c =
    subst (λ (h : Handle). MakesIfGateAdmits g.S.Subscriber c.args.world.now c.args.world.now c.args.lane.now c.args.at parent.Current c.args.site c.args.values.now (Ok h)) (sym c.none.ensures)
    (makes_none g.S.Subscriber c.args.world.now c.args.world.now c.args.lane.now c.args.at parent.Current c.args.site c.args.values.now c.requires
    (subst (GateAnswers g.S.Subscriber c.args.world.now c.args.lane.now c.args.site) c.if-admits.false c.admits.ensures))
