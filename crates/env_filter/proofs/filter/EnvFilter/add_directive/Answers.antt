-- Greatest levels only grow.
use Rattle.std.proofs.Common.{sym, subst, if◌then◌else◌}
use Rattle.env_filter.proofs.Common.{plain_filter, IsWholeFilter, IsNewFilter, fixed_directive}
use Rattle.env_filter.proofs.Wholes.{whole_placed, new_placed}
use Rattle.env_filter.proofs.filter.EnvFilter.add_directive.Goals as goal

pub returns-in-Ok-clause-whole : goal.returns-in-Ok-clause-whole
returns-in-Ok-clause-whole c = λ whole. subst IsWholeFilter (sym c.in-Ok.ensures.ok) (whole_placed (plain_filter c.args.self) (if (plain_filter c.args.self).patterns then c.args.directive else fixed_directive c.args.directive) whole)

pub returns-in-Ok-clause-new : goal.returns-in-Ok-clause-new
returns-in-Ok-clause-new c = λ new. subst IsNewFilter (sym c.in-Ok.ensures.ok) (new_placed (plain_filter c.args.self) (if (plain_filter c.args.self).patterns then c.args.directive else fixed_directive c.args.directive) new)
