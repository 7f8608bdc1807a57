-- Its tables are whole, and it has nothing else.
use Rattle.std.proofs.Common.{sym, subst}
use Rattle.env_filter.proofs.Common.{plain_filter, IsNewFilter}
use Rattle.env_filter.proofs.Wholes.{new_fresh}
use Rattle.env_filter.proofs.filter.EnvFilter.clone_filter.Goals as goal

pub returns-clause-new : goal.returns-clause-new
returns-clause-new c = λ whole. subst IsNewFilter (sym c.in_ok-copy.ensures) (new_fresh (plain_filter c.args.self.now) whole)
