use Rattle.std.specs.Prelude.{◌≡◌, length}
use Rattle.env_directives.proofs.Common.{pairs}
use Rattle.env_directives.proofs.targets.IterIterator.next.Given as goal

abbrev pub invariant-loop-first : goal.invariant-loop-first
invariant-loop-first l = pairs l.self.rest.now ≡ pairs l.initial.self.rest.now

abbrev pub decreases-loop-first : goal.decreases-loop-first
decreases-loop-first l = length l.self.rest.now
