use Rattle.std.specs.Arc.{arc_value}
use Rattle.shared_value.proofs.Firsts.{clones_same}
use Rattle.shared_value.proofs.making.copies_of.Goals as goal

pub returns-clause-copies : goal.returns-clause-copies
returns-clause-copies g c = clones_same (arc_value c.args.last.now) c.in_ok-copy.copy c.in_ok-copies.copies.items c.in_ok-copy.ensures c.in_ok-copies.ensures.items
