use Rattle.std.specs.Prelude.{◌≡◌, length}
use Rattle.std.specs.List.{filter}
use Rattle.env_directives.proofs.directive.set.DirectivesForIterator.next.Given as goal

abbrev pub invariant-loop-first : goal.invariant-loop-first
invariant-loop-first g l =
    (filter (λ d. g.T.Match.cares d l.self.callsite.now) l.self.rest.now
    ≡ filter (λ d. g.T.Match.cares d l.initial.self.callsite.now) l.initial.self.rest.now)
    × (l.self.callsite ≡ l.initial.self.callsite)

abbrev pub decreases-loop-first : goal.decreases-loop-first
decreases-loop-first g l = length l.self.rest.now
