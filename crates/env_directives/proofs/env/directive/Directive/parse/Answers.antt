use Rattle.env_directives.proofs.Common.{trim}
use Rattle.env_directives.proofs.forms.ReadingsLemmas.{answer_is, fault_is}
use Rattle.env_directives.proofs.env.directive.Directive.parse.Goals as goal

pub returns-clause-ok : goal.returns-clause-ok
returns-clause-ok c = answer_is c.args.patterns (trim c.args.text.now) c.read.result (rw c.trim.ensures.trim at c.read.ensures.is) c.read.ensures.patterns

pub returns-clause-fault : goal.returns-clause-fault
returns-clause-fault c = fault_is c.args.patterns (trim c.args.text.now) c.read.result (rw c.trim.ensures.trim at c.read.ensures.is)
