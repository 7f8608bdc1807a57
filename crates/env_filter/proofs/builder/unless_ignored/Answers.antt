-- The first piece that is left out has the first fault.
use Rattle.std.proofs.Common.{refl}
use Rattle.env_filter.proofs.printed.RefusalsLemmas.{refused_first}
use Rattle.env_filter.proofs.builder.unless_ignored.Goals as goal

pub returns-in-Some-clause-refused : goal.returns-in-Some-clause-refused
returns-in-Some-clause-refused c = λ b text is.
    refused_first b.patterns text is.directives c.args.ignored.now c.args.ignored.now c.in-Some.first.now is.reads refl c.in-Some.ensures.value
