-- What was attached to the lane is attached to it.
use Rattle.std.specs.Prelude.{◌≡◌, ◌≤◌, ℕ}
use Rattle.trace_base.specs.lanes.Contexts.{attached_count}
use Rattle.explain_stack.proofs.scene.polls.fill.Given as goal

abbrev pub invariant-loop : goal.invariant-loop
invariant-loop l = record {
  id : l.lane.id ≡ l.fn.lane.id;
  default : l.lane.default ≡ l.fn.lane.default;
  more : (number : ℕ) → attached_count number l.fn.lane ≤ attached_count number l.lane;
}
