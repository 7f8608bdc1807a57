-- The slot of the span has one hold more.
use Rattle.std.proofs.Common.{◌+◌, ◌∙◌, sym, ap, arith}
use Rattle.span_registry.proofs.Common.{get_or_default, Span, place_in, SlotValue, no_slot}
use Rattle.span_registry.proofs.SlotTableLemmas.{no_place, shown_some, shown_set, tabled_set}
use Rattle.span_registry.proofs.table.Table.hold.Goals as goal

pub unreachable-requires : goal.unreachable-requires
unreachable-requires c = no_place c.self.inside.count (place_in c.self.inside.places.items) c.self.inside.slots.items c.self.inside.free.items _ c.self.invariant c.args.self.now c.self.view_is c.args.id (sym c.find.ensures ∙ c.in_default.is) c.requires.live

pub index_mut-slot-requires : goal.index_mut-slot-requires
index_mut-slot-requires c = let within = (c.self.invariant.known c.args.id c.in-Some.place (sym c.find.ensures ∙ c.in-Some.is)).within in omega (arith, within, c.self.inside.slots.ok.0)

pub overflow_add-slot : goal.overflow_add-slot
overflow_add-slot c =
    let is = sym c.find.ensures ∙ c.in-Some.is in
    let at = c.self.invariant.known c.args.id c.in-Some.place is in
    let seen = c.slot.view_is ∙ c.index_mut-slot.ensures.value ∙ get_or_default c.self.inside.slots.items c.in-Some.place c.index_mut-slot.result.now no_slot at.within in
    let e = ap (λ (y : SlotValue). y.span.holds) seen in
    let r = ap (λ (s : Span). s.holds) (shown_some c.self.inside.count (place_in c.self.inside.places.items) c.self.inside.slots.items c.self.inside.free.items _ c.self.invariant c.args.self.now c.self.view_is c.args.id c.in-Some.place is) in
    omega (arith, e, r, c.requires.few)

pub invariant_of-self : goal.invariant_of-self
invariant_of-self c =
    let is = sym c.find.ensures ∙ c.in-Some.is in
    let at = c.self.invariant.known c.args.id c.in-Some.place is in
    let seen = c.slot.view_is ∙ c.index_mut-slot.ensures.value ∙ get_or_default c.self.inside.slots.items c.in-Some.place c.index_mut-slot.result.now no_slot at.within in
    tabled_set c.self.inside.count (place_in c.self.inside.places.items) c.self.inside.slots.items c.self.inside.free.items _ c.self.invariant c.args.id c.in-Some.place _ is (ap (λ (y : SlotValue). y.id) seen) (omega arith)

pub returns : goal.returns
returns c =
    let is = sym c.find.ensures ∙ c.in-Some.is in
    let at = c.self.invariant.known c.args.id c.in-Some.place is in
    let seen = c.slot.view_is ∙ c.index_mut-slot.ensures.value ∙ get_or_default c.self.inside.slots.items c.in-Some.place c.index_mut-slot.result.now no_slot at.within in
    let read = shown_some c.self.inside.count (place_in c.self.inside.places.items) c.self.inside.slots.items c.self.inside.free.items _ c.self.invariant c.args.self.now c.self.view_is c.args.id c.in-Some.place is in
    shown_set c.self.inside.count (place_in c.self.inside.places.items) c.self.inside.slots.items c.self.inside.free.items _ c.self.invariant c.args.self.now c.self.view_is c.args.id c.in-Some.place _ _ is
    (ap (λ (s : Span). let t : Span = record s { holds = s.holds + 1 } in t) (ap (λ (y : SlotValue). y.span) seen ∙ sym read))
