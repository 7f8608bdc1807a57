-- What is still to come of an iterator.
use Rattle.std.specs.Prelude.{ℕ, List, Bool}
use Rattle.std.specs.List.{filter}
use Rattle.trace_base.specs.declared.level.LevelFilter.{LevelFilter}
use Rattle.trace_base.specs.declared.callsite.Callsite.{Callsite}
use Rattle.env_directives.specs.declared.directive.set.DirectiveIter.{DirectiveIter}
use Rattle.env_directives.specs.declared.directive.set.DirectivesFor.{DirectivesFor}
use Rattle.env_directives.specs.declared.targets.Iter.{Iter}
use Rattle.env_directives.specs.Targets.{pairs}

-- the directives that are left
abbrev pub directives_left : {T : Type 0} → DirectiveIter T → List T
directives_left it = it.rest.now

-- those that are left and care about the callsite
abbrev pub caring_left : {T : Type 0} → (T → Callsite → Bool) → DirectivesFor T → List T
caring_left cares it = filter (λ d. cares d it.callsite.now) it.rest.now

-- the targets with levels that are left
abbrev pub pairs_left : Iter → List (List ℕ × LevelFilter)
pairs_left it = pairs it.rest.now
