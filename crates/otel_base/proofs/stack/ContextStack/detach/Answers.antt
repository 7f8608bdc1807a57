-- The item at its place is the one of that number.
use Rattle.std.proofs.Common.{◌≡◌, arith, ◌∙◌}
use Rattle.std.specs.Prelude.{vec_capacity}
use Rattle.otel_base.specs.Stack.{empty_context, without_number}
use Rattle.otel_base.proofs.Numbered.{removed, rises_without, without_is_no_longer, room_after_detach}
use Rattle.otel_base.proofs.stack.ContextStack.detach.Goals as goal

taken : (c : goal.After-remove) → c.remove.new.self.items ≡ without_number c.attached.inside.number c.self.inside.items.items
taken c = c.remove.ensures.items ∙ removed 0 c.attached.inside.number c.self.inside.items.items c.index_of-at.result (0, empty_context) c.self.invariant.0 (rw c.as_slice.ensures.value at c.index_of-at.ensures.within) (rw c.as_slice.ensures.value at (c.index_of-at.ensures.found (0, empty_context)))

pub invariant_of-self : goal.invariant_of-self
invariant_of-self c =
    let shorter = without_is_no_longer c.attached.inside.number c.self.inside.items.items in
    rw (taken c) (rises_without 0 c.attached.inside.number c.self.inside.items.items c.self.invariant.0, omega (arith, c.self.invariant.1))

pub returns-clause-live : goal.returns-clause-live
returns-clause-live c = rw (← c.self.view_is, ← c.attached.view_is) (taken c)

pub returns-clause-room : goal.returns-clause-room
returns-clause-room c = rw (← c.self.view_is, taken c, c.remove.ensures.capacity) (room_after_detach c.attached.inside.number c.self.inside.items.items (vec_capacity c.self.inside.items) c.self.invariant.0)

pub returns-clause-ready : goal.returns-clause-ready
returns-clause-ready c = λ ready.
    let room = returns-clause-room c in
    let shorter = without_is_no_longer c.attached.inside.number c.self.inside.items.items in
    let before = rw (← c.self.view_is) at ready in
    (omega (arith, ready.0, room), rw (taken c) (omega (arith, before.1)))
