use Rattle.std.specs.Prelude.{◌∷◌, take, map, flat_map}
use Rattle.env_directives.proofs.Common.{HasWritten, IsPlainFormatter}
use Rattle.env_directives.specs.printed.StaticPrinted.{static_text}
use Rattle.env_directives.proofs.targets.write_others.Given as goal

abbrev pub invariant-loop-directive : goal.invariant-loop-directive
invariant-loop-directive g l =
    IsPlainFormatter l.initial.f
    → HasWritten g.W.Write.write_str_gives l.initial.f (flat_map (λ other. 44 ∷ other) (map static_text (take l.directive-index l.directives))) l.f
