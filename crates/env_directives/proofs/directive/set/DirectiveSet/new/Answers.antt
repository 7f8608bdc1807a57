use Rattle.env_directives.proofs.Common.{IsStrictlySortedBy}
use Rattle.env_directives.proofs.directive.set.DirectiveSet.new.Goals as goal

pub invariant_of-result : goal.invariant_of-result
unfolding IsStrictlySortedBy
invariant_of-result g c = rw c.new.ensures.items tt
