use Rattle.std.proofs.Common.{sym, ◌∙◌, ap}
use Rattle.env_directives.proofs.Common.{cares_about_target, lets_through, admits_target}
use Rattle.env_directives.proofs.tables.FindLemmas.{found_at}
use Rattle.env_directives.proofs.directive.set.DirectiveSet+StaticDirective.target_enabled.Goals as goal

pub returns-then-cares_about_target : goal.returns-then-cares_about_target
returns-then-cares_about_target c =
    let decides = found_at (λ d. cares_about_target d c.args.target.now) c.as_slice-directive-items.result.now c.loop-directive.directive-index
    c.directive-item.result c.loop-directive-test.true c.directive-item.is (sym c.cares_about_target.ensures ∙ c.if-cares_about_target.true) in
    c.lets_through.ensures ∙ sym (ap (lets_through c.args.level) (sym c.loop-directive.invariant ∙ decides))
    ∙ ap (λ ds. admits_target ds c.args.target.now c.args.level) c.as_slice-directive-items.ensures
