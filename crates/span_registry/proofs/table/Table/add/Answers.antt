-- The parent is held alike before and after its child is added.
use Rattle.std.proofs.Common.{◌∙◌}
use Rattle.span_registry.proofs.SlotTableLemmas.{held_push, live_push, few_push}
use Rattle.span_registry.proofs.table.Table.add.Goals as goal

pub hold_parent-requires-clause-live : goal.hold_parent-requires-clause-live
hold_parent-requires-clause-live c = rw (c.in_ok-id.ensures.ok) (live_push c.args.self.now.made _ c.args.above c.requires.live)

pub hold_parent-requires-clause-few_holds : goal.hold_parent-requires-clause-few_holds
hold_parent-requires-clause-few_holds c = rw (c.in_ok-id.ensures.ok) (few_push c.args.self.now.made _ c.args.above c.requires.live c.requires.few_holds)

pub returns-clause-ok : goal.returns-clause-ok
returns-clause-ok c = c.hold_parent.ensures.made ∙ rw (c.in_ok-id.ensures.ok) (held_push c.args.self.now.made _ c.args.above c.requires.live)
