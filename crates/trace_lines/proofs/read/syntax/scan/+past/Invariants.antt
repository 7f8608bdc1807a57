-- A value's items and members nest less deep than it does.
use Rattle.std.proofs.Common.{◌+◌, ◌*◌, List}
use Rattle.trace_lines.proofs.readings.CompactLemmas.{Pair, AllRead, GoesItems, Named, AllNamed, GoesMembers}
use Rattle.trace_lines.proofs.read.syntax.scan.+past.Given as goal

abbrev pub decreases-past_nested : goal.decreases-past_nested
decreases-past_nested l = 3 * l.deep

abbrev pub decreases-past_value : goal.decreases-past_value
decreases-past_value l = 3 * l.deep + 1

abbrev pub decreases-past_items : goal.decreases-past_items
decreases-past_items l = 3 * l.deep + 2

abbrev pub decreases-past_members : goal.decreases-past_members
decreases-past_members l = 3 * l.deep + 2

abbrev pub invariant-past_items-items : goal.invariant-past_items-items
invariant-past_items-items l = (ps : List Pair) × AllRead l.deep ps × GoesItems l.fn.bytes ps l.left

abbrev pub invariant-past_members-members : goal.invariant-past_members-members
invariant-past_members-members l = (ns : List Named) × AllNamed l.deep ns × GoesMembers l.fn.bytes ns l.left
