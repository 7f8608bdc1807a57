use Rattle.std.specs.Prelude.{◌≡◌, drop, map}
use Rattle.env_directives.proofs.Common.{declares_all}
use Rattle.env_directives.proofs.env.directive.declares.Given as goal

abbrev pub invariant-loop-field : goal.invariant-loop-field
invariant-loop-field l =
    declares_all l.callsite (map (λ field. field.name) (drop l.field-index l.fields)) ≡ declares_all l.callsite (map (λ field. field.name) l.fields)
