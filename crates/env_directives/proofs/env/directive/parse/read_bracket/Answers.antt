use Rattle.std.proofs.Common.{sym, ◌∙◌}
use Rattle.env_directives.proofs.cuts.BracketsLemmas.{span_answers}
use Rattle.env_directives.proofs.forms.KeptPatternsLemmas.{end_patterned}
use Rattle.env_directives.proofs.env.directive.parse.read_bracket.Goals as goal

pub returns-in-Some-clause-is : goal.returns-in-Some-clause-is
returns-in-Some-clause-is c =
    span_answers c.args.patterns c.args.directive c.args.text.now _ _ c.in-Some.field-0 c.cut-pieces.ensures.front
    (sym c.in-Some.is ∙ c.cut-pieces.ensures.stop) c.cut-pieces.ensures.rest (λ e. c.in-Some.field-0-test.1 (c.in-Some.field-0-is ∙ e))
    c.read_fielded.result c.read_fielded.ensures.is

pub returns-in-Some-clause-patterns : goal.returns-in-Some-clause-patterns
returns-in-Some-clause-patterns c = λ have. c.read_fielded.ensures.patterns

pub returns-in-Some-eq93-clause-patterns : goal.returns-in-Some-eq93-clause-patterns
returns-in-Some-eq93-clause-patterns c = λ have. end_patterned _ c.cut-pieces.result.rest.now c.read_named.result have c.read_named.ensures
