use Rattle.std.specs.Prelude.{◌∷◌, take, flat_map}
use Rattle.env_directives.proofs.Common.{HasWritten, IsPlainFormatter}
use Rattle.env_directives.proofs.directive.write_others.Given as goal

abbrev pub invariant-loop-name : goal.invariant-loop-name
invariant-loop-name g l =
    IsPlainFormatter l.initial.f → HasWritten g.W.Write.write_str_gives l.initial.f (flat_map (λ other. 44 ∷ other) (take l.name-index l.names)) l.f
