-- With the directives that are left it is the table of all.
use Rattle.std.proofs.Common.{◌≡◌, drop}
use Rattle.env_filter.proofs.Common.{with_all_static, statics_of}
use Rattle.env_filter.proofs.tables.statics.Given as goal

abbrev pub invariant-loop-directive : goal.invariant-loop-directive
invariant-loop-directive l = with_all_static (drop l.directive-index l.directives) l.statics ≡ statics_of l.directives
