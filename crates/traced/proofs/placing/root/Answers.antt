-- By the gate's answer.
use Rattle.std.proofs.Common.{Ok, sym, subst}
use Rattle.trace_base.specs.declared.span.Parent.TheVariants as parent
use Rattle.traced.proofs.Common.{Handle, GateAnswers, MakesIfGateAdmits}
use Rattle.traced.proofs.Gated.{makes, makes_none}
use Rattle.traced.proofs.placing.root.Goals as goal

pub returns-then-admits : goal.returns-then-admits
returns-then-admits g c =
    makes g.S.Subscriber c.args.world.now c.new_root.new.world c.args.lane.now c.args.at parent.Root c.args.site c.args.values.now c.lawful.ensures c.new_root.result c.requires
    (subst (GateAnswers g.S.Subscriber c.args.world.now c.args.lane.now c.args.site) c.if-admits.true c.admits.ensures) c.new_root.ensures.makes.ok c.new_root.ensures.makes.known c.new_root.ensures.makes.keeps c.new_root.ensures.makes.memory_leaves

pub returns-else-admits : goal.returns-else-admits
returns-else-admits g c =
    subst (λ (h : Handle). MakesIfGateAdmits g.S.Subscriber c.args.world.now c.args.world.now c.args.lane.now c.args.at parent.Root c.args.site c.args.values.now (Ok h)) (sym c.none.ensures)
    (makes_none g.S.Subscriber c.args.world.now c.args.world.now c.args.lane.now c.args.at parent.Root c.args.site c.args.values.now c.requires
    (subst (GateAnswers g.S.Subscriber c.args.world.now c.args.lane.now c.args.site) c.if-admits.false c.admits.ensures))
