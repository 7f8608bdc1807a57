-- The new number is past all others, and takes one place of the room.
use Rattle.std.proofs.Common.{arith}
use Rattle.std.proofs.lemmas.Grind.{common_steps}
use Rattle.std.specs.Prelude.{vec_capacity}
use Rattle.otel_base.proofs.Numbered.{rises_push, next_is_new, room_after_attach, has_pushed}
use Rattle.otel_base.proofs.stack.ContextStack.attach.Goals as goal

pub invariant_of-self-2 : goal.invariant_of-self-2
invariant_of-self-2 c = (
  rw (c.in_ok-push.ensures.items, c.in-Some.ensures.some, c.as_slice.ensures.value) (rises_push 0 c.self.inside.items.items c.args.context c.self.invariant.0),
  grind (arith, common_steps, c.in_ok-push.ensures.items),
)

pub returns-clause-number : goal.returns-clause-number
returns-clause-number c = rw (c.in-Some.ensures.some, c.as_slice.ensures.value, ← c.self.view_is) (next_is_new 0 c.self.inside.items.items c.self.invariant.0)

pub returns-clause-room : goal.returns-clause-room
returns-clause-room c = rw (← c.self.view_is, c.in_ok-push.ensures.items, c.in-Some.ensures.some, c.as_slice.ensures.value) (room_after_attach c.self.inside.items.items c.args.context (vec_capacity c.self.inside.items) (vec_capacity c.push.new.self) c.in_ok-push.ensures.capacity)

pub returns-clause-holds : goal.returns-clause-holds
returns-clause-holds c = rw c.in_ok-push.ensures.items (has_pushed c.in-Some.number c.self.inside.items.items c.args.context)
