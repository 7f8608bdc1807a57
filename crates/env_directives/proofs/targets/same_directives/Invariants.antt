use Rattle.std.specs.Prelude.{◌≡◌, drop}
use Rattle.env_directives.proofs.Common.{pointwise, same_directive}
use Rattle.env_directives.proofs.targets.same_directives.Given as goal

abbrev pub invariant-loop-place : goal.invariant-loop-place
invariant-loop-place l =
    pointwise same_directive (drop l.place l.directives) (drop l.place l.others) ≡ pointwise same_directive l.directives l.others
