use Rattle.std.specs.Prelude.{◌≡◌, drop}
use Rattle.std.specs.List.{find}
use Rattle.env_directives.proofs.Common.{cares_about_target}
use Rattle.env_directives.proofs.directive.set.DirectiveSet+StaticDirective.target_enabled.Given as goal

abbrev pub invariant-loop-directive : goal.invariant-loop-directive
invariant-loop-directive l =
    find (λ d. cares_about_target d l.target) (drop l.directive-index l.directive-items)
    ≡ find (λ d. cares_about_target d l.target) l.directive-items
