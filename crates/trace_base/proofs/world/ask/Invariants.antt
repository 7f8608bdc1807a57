-- The subscribers that were passed have answered, and all are the same but for room.
use Rattle.std.proofs.Common.{◌≡◌, map, take}
use Rattle.trace_base.specs.Gate.{AreSame}
use Rattle.trace_base.proofs.world.ask.Given as goal

abbrev pub invariant-loop-at : goal.invariant-loop-at
invariant-loop-at g l = record {
  same : AreSame g.S.Subscriber.same_but_room l.initial.subscribers.items l.subscribers.items;
  answers : l.interests.items ≡ map (λ s. g.S.Subscriber.interest s l.callsite) (take l.at l.initial.subscribers.items);
}
