-- One span more has a slot, or nothing but room changed.
use Rattle.std.proofs.Common.{◌∙◌, sym, arith, refl}
use Rattle.span_registry.proofs.Common.{place_in}
use Rattle.span_registry.proofs.SlotTableLemmas.{shown_count, tabled_same, filled, pushed}
use Rattle.span_registry.proofs.table.Table.push.Goals as goal

pub at-id-requires : goal.at-id-requires
at-id-requires c = let e = shown_count c.self.inside.count (place_in c.self.inside.places.items) c.self.inside.slots.items c.self.inside.free.items _ c.self.invariant c.args.self.now c.self.view_is in omega (arith, e, c.requires)

pub invariant_of-self : goal.invariant_of-self
invariant_of-self c = tabled_same c.self.inside.count (place_in c.self.inside.places.items) (place_in c.self.inside.places.items) c.self.inside.slots.items _ c.self.inside.free.items _ _ _ c.self.invariant (λ q. refl) c.choose.ensures.slots c.choose.ensures.free c.choose.ensures.capacity

pub invariant_of-self-in_err-put : goal.invariant_of-self-in_err-put
invariant_of-self-in_err-put c = tabled_same c.self.inside.count (place_in c.self.inside.places.items) (place_in c.put.new.places.items) c.self.inside.slots.items _ c.self.inside.free.items _ _ _ c.self.invariant c.in_err-put.ensures.memory_leaves c.choose.ensures.slots c.choose.ensures.free c.choose.ensures.capacity

pub invariant_of-self-2 : goal.invariant_of-self-2
invariant_of-self-2 c = (pushed c.self.inside.count (place_in c.self.inside.places.items) (place_in c.put.new.places.items) c.self.inside.slots.items c.fill.new.slots.items c.self.inside.free.items c.fill.new.free.items _ _ _ c.in_ok-place.place _ c.args.self.now c.self.invariant c.self.view_is
    (filled c.self.inside.count (place_in c.self.inside.places.items) c.self.inside.slots.items c.fill.new.slots.items c.self.inside.free.items c.fill.new.free.items _ c.in_ok-place.place _ c.self.invariant c.in_ok-place.ensures.used c.in_ok-place.ensures.new
    (rw (c.choose.ensures.slots, c.choose.ensures.free) at c.fill.ensures.used) (rw (c.choose.ensures.slots, c.choose.ensures.free) at c.fill.ensures.new) (rw c.choose.ensures.free at c.fill.ensures.free))
    (rw c.at-id.ensures at c.in_ok-put.ensures.ok) c.at-id.ensures (omega arith) c.choose.ensures.capacity c.in_ok-place.ensures.free_room c.fill.ensures.capacity).0

pub returns-clause-id : goal.returns-clause-id
returns-clause-id c = c.at-id.ensures ∙ sym (shown_count c.self.inside.count (place_in c.self.inside.places.items) c.self.inside.slots.items c.self.inside.free.items _ c.self.invariant c.args.self.now c.self.view_is)

pub returns-clause-ok : goal.returns-clause-ok
returns-clause-ok c = (pushed c.self.inside.count (place_in c.self.inside.places.items) (place_in c.put.new.places.items) c.self.inside.slots.items c.fill.new.slots.items c.self.inside.free.items c.fill.new.free.items _ _ _ c.in_ok-place.place _ c.args.self.now c.self.invariant c.self.view_is
    (filled c.self.inside.count (place_in c.self.inside.places.items) c.self.inside.slots.items c.fill.new.slots.items c.self.inside.free.items c.fill.new.free.items _ c.in_ok-place.place _ c.self.invariant c.in_ok-place.ensures.used c.in_ok-place.ensures.new
    (rw (c.choose.ensures.slots, c.choose.ensures.free) at c.fill.ensures.used) (rw (c.choose.ensures.slots, c.choose.ensures.free) at c.fill.ensures.new) (rw c.choose.ensures.free at c.fill.ensures.free))
    (rw c.at-id.ensures at c.in_ok-put.ensures.ok) c.at-id.ensures (omega arith) c.choose.ensures.capacity c.in_ok-place.ensures.free_room c.fill.ensures.capacity).1

pub returns-clause-slots : goal.returns-clause-slots
returns-clause-slots c = (pushed c.self.inside.count (place_in c.self.inside.places.items) (place_in c.put.new.places.items) c.self.inside.slots.items c.fill.new.slots.items c.self.inside.free.items c.fill.new.free.items _ _ _ c.in_ok-place.place _ c.args.self.now c.self.invariant c.self.view_is
    (filled c.self.inside.count (place_in c.self.inside.places.items) c.self.inside.slots.items c.fill.new.slots.items c.self.inside.free.items c.fill.new.free.items _ c.in_ok-place.place _ c.self.invariant c.in_ok-place.ensures.used c.in_ok-place.ensures.new
    (rw (c.choose.ensures.slots, c.choose.ensures.free) at c.fill.ensures.used) (rw (c.choose.ensures.slots, c.choose.ensures.free) at c.fill.ensures.new) (rw c.choose.ensures.free at c.fill.ensures.free))
    (rw c.at-id.ensures at c.in_ok-put.ensures.ok) c.at-id.ensures (omega arith) c.choose.ensures.capacity c.in_ok-place.ensures.free_room c.fill.ensures.capacity).2
