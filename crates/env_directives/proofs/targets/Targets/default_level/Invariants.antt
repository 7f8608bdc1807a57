use Rattle.std.specs.Prelude.{◌≡◌, drop}
use Rattle.std.specs.List.{find}
use Rattle.std.specs.Option.{is_none}
use Rattle.env_directives.proofs.targets.Targets.default_level.Given as goal

abbrev pub invariant-loop-directive : goal.invariant-loop-directive
invariant-loop-directive l =
    find (λ d. is_none d.target) (drop l.directive-index l.directive-items) ≡ find (λ d. is_none d.target) l.directive-items
