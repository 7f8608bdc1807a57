-- The scene is in order, and the handles are known.
use Rattle.explain_stack.specs.Places.{InPlay}
use Rattle.explain_stack.proofs.script.play.Given as goal

abbrev pub invariant-loop-line : goal.invariant-loop-line
invariant-loop-line g l = InPlay g.S.Subscriber.spans g.S.Subscriber.kept g.S.Subscriber.is_whole l.scene l.handles
