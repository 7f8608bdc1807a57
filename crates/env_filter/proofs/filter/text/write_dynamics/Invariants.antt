-- Those that were passed are written.
use Rattle.std.proofs.Common.{◌++◌, codes, flat_map, take}
use Rattle.env_filter.proofs.Common.{HasWritten, IsPlainFormatter, directive_text}
use Rattle.env_filter.proofs.filter.text.write_dynamics.Given as goal

abbrev pub invariant-loop-directive : goal.invariant-loop-directive
invariant-loop-directive g l =
    IsPlainFormatter l.initial.f → HasWritten g.W.Write.write_str_gives l.initial.f (flat_map (λ d. codes "," ++ directive_text d) (take l.directive-index l.directives)) l.f
