use Rattle.std.proofs.Common.{◌++◌, codes, flat_map, take}
use Rattle.env_directives.proofs.Common.{HasWritten, IsPlainFormatter, match_text}
use Rattle.env_directives.proofs.env.directive.write_more_fields.Given as goal

abbrev pub invariant-loop-field : goal.invariant-loop-field
invariant-loop-field g l =
    IsPlainFormatter l.initial.f → HasWritten g.W.Write.write_str_gives l.initial.f (flat_map (λ field. codes "," ++ match_text field) (take l.field-index l.fields)) l.f
