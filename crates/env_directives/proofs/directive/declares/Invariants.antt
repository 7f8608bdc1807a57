use Rattle.std.specs.Prelude.{◌≡◌, drop}
use Rattle.env_directives.proofs.Common.{declares_all}
use Rattle.env_directives.proofs.directive.declares.Given as goal

abbrev pub invariant-loop-name : goal.invariant-loop-name
invariant-loop-name l = declares_all l.callsite (drop l.name-index l.names) ≡ declares_all l.callsite l.names
