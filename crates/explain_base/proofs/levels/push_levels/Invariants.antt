use Rattle.std.proofs.Common.{◌≡◌, ◌++◌, flat_map, take, string_bytes}
use Rattle.explain_base.specs.Filters.{level_part}
use Rattle.explain_base.proofs.levels.push_levels.Given as goal

abbrev pub invariant-loop-level : goal.invariant-loop-level
invariant-loop-level l = string_bytes l.told ≡ string_bytes l.initial.told ++ flat_map level_part (take l.level-index l.levels)
