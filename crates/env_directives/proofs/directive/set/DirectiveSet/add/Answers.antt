use Rattle.env_directives.proofs.tables.PlacesLemmas.{sorted_placed}
use Rattle.env_directives.proofs.directive.set.DirectiveSet.add.Goals as goal

pub invariant_of-self-2 : goal.invariant_of-self-2
invariant_of-self-2 g c = rw c.in_ok-put_in_order.ensures.ok (sorted_placed g.met.T.Ord.total _ _ c.self.invariant)
