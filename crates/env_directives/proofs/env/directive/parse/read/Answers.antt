use Rattle.std.proofs.Common.{sym, ◌∙◌}
use Rattle.env_directives.proofs.cuts.BracketsLemmas.{bracket_answers}
use Rattle.env_directives.proofs.forms.KeptPatternsLemmas.{head_patterned, last_patterned, level_patterned}
use Rattle.env_directives.proofs.env.directive.parse.read.Goals as goal

pub returns-in_ok-directive_of_target-in-Some-clause-is : goal.returns-in_ok-directive_of_target-in-Some-clause-is
returns-in_ok-directive_of_target-in-Some-clause-is c =
    bracket_answers c.args.patterns c.args.text.now _ _ c.in-Some.field-0 (sym c.begins_as_directive.ensures ∙ c.if-not-begins_as_directive.false) c.cut-pieces.ensures.front
    (sym c.in-Some.is ∙ c.cut-pieces.ensures.stop) c.cut-pieces.ensures.rest
    (λ e. c.in-Some.field-0-test.0.1 (c.in-Some.field-0-is ∙ e)) (λ e. c.in-Some.field-0-test.1 (c.in-Some.field-0-is ∙ e))
    c.read_bracket.result (rw c.in_ok-directive_of_target-in-Some.ensures at c.read_bracket.ensures.is)

pub returns-in_ok-directive_of_target-in-Some-clause-patterns : goal.returns-in_ok-directive_of_target-in-Some-clause-patterns
returns-in_ok-directive_of_target-in-Some-clause-patterns c = c.read_bracket.ensures.patterns (rw c.in_ok-directive_of_target-in-Some.ensures tt)

pub returns-in_ok-directive_of_target-in-Some-eq61-clause-patterns : goal.returns-in_ok-directive_of_target-in-Some-eq61-clause-patterns
returns-in_ok-directive_of_target-in-Some-eq61-clause-patterns c =
    level_patterned _ c.cut-pieces.result.rest.now c.read_level.result (rw c.in_ok-directive_of_target-in-Some-eq61.ensures tt) c.read_level.ensures

pub returns-in_ok-head_alone-in-Some-eq44-clause-patterns : goal.returns-in_ok-head_alone-in-Some-eq44-clause-patterns
returns-in_ok-head_alone-in-Some-eq44-clause-patterns c =
    last_patterned _ c.cut-pieces.result.rest.now c.read_nothing_more.result (rw c.in_ok-head_alone-in-Some-eq44.ensures (head_patterned c.cut-pieces.result.front.now)) c.read_nothing_more.ensures
