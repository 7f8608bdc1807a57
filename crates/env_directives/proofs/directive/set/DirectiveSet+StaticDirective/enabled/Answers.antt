use Rattle.std.proofs.Common.{sym, ◌∙◌, ap}
use Rattle.env_directives.proofs.Common.{cares, lets_through}
use Rattle.env_directives.proofs.tables.FindLemmas.{found, not_found}
use Rattle.env_directives.proofs.directive.set.DirectiveSet+StaticDirective.enabled.Goals as goal

pub returns-in-Some : goal.returns-in-Some
returns-in-Some c =
    let decides = found (λ d. cares d c.args.callsite.now) c.args.self.now.directives _ _ (sym c.directives_for.ensures ∙ c.in-Some.ensures.steps) in
    c.lets_through.ensures ∙ sym (ap (lets_through c.args.callsite.now.level) decides)

pub returns-in-None : goal.returns-in-None
returns-in-None c =
    let nothing = not_found (λ d. cares d c.args.callsite.now) c.args.self.now.directives (sym c.directives_for.ensures ∙ c.in-None.ensures.steps.0) in
    sym (ap (lets_through c.args.callsite.now.level) nothing)
