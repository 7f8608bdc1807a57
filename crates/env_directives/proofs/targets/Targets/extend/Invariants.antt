use Rattle.std.specs.Prelude.{map}
use Rattle.env_directives.proofs.Common.{into_iter_items, most_specific_first, pair_directive}
use Rattle.env_directives.proofs.tables.AddsLemmas.{Adding}
use Rattle.env_directives.proofs.targets.Targets.extend.Given as goal

abbrev pub invariant-loop-target : goal.invariant-loop-target
invariant-loop-target l =
    Adding most_specific_first (λ d. d.level) (map pair_directive l.fn.pairs.items) l.fn.self l.self-inside.set (map pair_directive (into_iter_items l.target-iterator))
