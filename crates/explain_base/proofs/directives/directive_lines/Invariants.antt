use Rattle.std.proofs.Common.{◌≡◌, flat_map, take, string_bytes}
use Rattle.explain_base.specs.Directives.{directive_line}
use Rattle.explain_base.proofs.directives.directive_lines.Given as goal

abbrev pub invariant-loop-directive : goal.invariant-loop-directive
invariant-loop-directive l = string_bytes l.told ≡ flat_map directive_line (take l.directive-index l.set.directives)
