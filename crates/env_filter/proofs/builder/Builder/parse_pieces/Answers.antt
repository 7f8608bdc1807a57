-- What is left out has the first fault.
use Rattle.std.proofs.Common.{subst, sym, List}
use Rattle.env_filter.proofs.Common.{Ignored, IsFilterOf, plain_filter}
use Rattle.env_filter.proofs.builder.Builder.parse_pieces.Goals as goal

pub returns-in-Ok-clause-ok : goal.returns-in-Ok-clause-ok
returns-in-Ok-clause-ok c =
    c.unless_ignored.ensures.ok c.args.self.now c.args.dirs.now
    (subst (λ (is : List Ignored). IsFilterOf c.args.self.now c.args.dirs.now is (plain_filter c.in-Ok.filter)) (sym c.as_slice.ensures.value) c.in-Ok.ensures.ok)

pub returns-in-Ok-clause-new : goal.returns-in-Ok-clause-new
returns-in-Ok-clause-new c = c.unless_ignored.ensures.new c.in-Ok.ensures.new

pub returns-in-Ok-clause-refused : goal.returns-in-Ok-clause-refused
returns-in-Ok-clause-refused c =
    c.unless_ignored.ensures.refused c.args.self.now c.args.dirs.now
    (subst (λ (is : List Ignored). IsFilterOf c.args.self.now c.args.dirs.now is (plain_filter c.in-Ok.filter)) (sym c.as_slice.ensures.value) c.in-Ok.ensures.ok)
