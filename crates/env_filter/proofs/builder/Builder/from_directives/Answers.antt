-- Its tables are whole, and it has nothing else.
use Rattle.std.proofs.Common.{subst, sym}
use Rattle.env_filter.proofs.Common.{plain_filter, IsNewFilter}
use Rattle.env_filter.proofs.Wholes.{new_of, new_or_default}
use Rattle.env_filter.proofs.builder.Builder.from_directives.Goals as goal

pub returns-in-Ok-clause-new : goal.returns-in-Ok-clause-new
returns-in-Ok-clause-new c =
    subst IsNewFilter (sym c.in-Ok.ensures)
    (new_or_default c.args.self.now.default (plain_filter c.with_tables-filter.result)
    (new_of (plain_filter c.with_tables-filter.result) c.self.inside.patterns c.in_ok-statics.statics c.in_ok-dynamics.dynamics c.as_slice.result.now c.args.directives.items c.with_tables-filter.ensures c.in_ok-statics.ensures c.in_ok-dynamics.ensures))
