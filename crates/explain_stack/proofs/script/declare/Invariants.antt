-- There is no subscriber.
use Rattle.std.proofs.Common.{◌≡◌, length}
use Rattle.explain_stack.proofs.script.declare.Given as goal

abbrev pub invariant-loop-line : goal.invariant-loop-line
invariant-loop-line g l = length l.world.subscribers ≡ 0
