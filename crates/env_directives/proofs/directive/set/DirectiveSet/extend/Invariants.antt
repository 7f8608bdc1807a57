use Rattle.env_directives.proofs.Common.{into_iter_items}
use Rattle.env_directives.proofs.tables.AddsLemmas.{Adding}
use Rattle.env_directives.proofs.directive.set.DirectiveSet.extend.Given as goal

abbrev pub invariant-loop-directive : goal.invariant-loop-directive
invariant-loop-directive g l =
    Adding g.T.Ord.cmp g.T.Match.level_of l.fn.directives.items l.initial.self l.self (into_iter_items l.directive-iterator)
