-- The slot of the span has one hold less, or is free.
use Rattle.std.proofs.Common.{◌≡◌, ◌-◌, ◌∙◌, sym, ap, arith, refl, ℕ, [], ◌∷◌, ◌++◌, Option, None, ◌==◌, is_ok}
use Rattle.span_registry.proofs.Common.{cond-true, cond-false, get_or_default, Span, span_at, place_in, SlotValue, no_slot, less_last, less_more}
use Rattle.std.proofs.lemmas.Bool.{eq-eqb, ne_eqb}
use Rattle.span_registry.proofs.SlotTableLemmas.{no_place, shown_some, shown_set, shown_gone, tabled_set, tabled_gone, tabled_same, some_room}
use Rattle.span_registry.proofs.table.Table.release.Goals as goal

pub unreachable-requires : goal.unreachable-requires
unreachable-requires c = no_place c.self.inside.count (place_in c.self.inside.places.items) c.self.inside.slots.items c.self.inside.free.items _ c.self.invariant c.args.self.now c.self.view_is c.args.id (sym c.find.ensures ∙ c.in_default.is) c.requires

pub index_mut-slot-requires : goal.index_mut-slot-requires
index_mut-slot-requires c = let within = (c.self.invariant.known c.args.id c.in-Some.place (sym c.find.ensures ∙ c.in-Some.is)).within in omega (arith, within, c.self.inside.slots.ok.0)

pub overflow_sub-slot : goal.overflow_sub-slot
overflow_sub-slot c =
    let is = sym c.find.ensures ∙ c.in-Some.is in
    let at = c.self.invariant.known c.args.id c.in-Some.place is in
    let seen = c.slot.view_is ∙ c.index_mut-slot.ensures.value ∙ get_or_default c.self.inside.slots.items c.in-Some.place c.index_mut-slot.result.now no_slot at.within in
    let e = ap (λ (y : SlotValue). y.span.holds) seen in
    let span = ap (λ (y : SlotValue). y.span) seen in
    let read = shown_some c.self.inside.count (place_in c.self.inside.places.items) c.self.inside.slots.items c.self.inside.free.items _ c.self.invariant c.args.self.now c.self.view_is c.args.id c.in-Some.place is in
    let r = ap (λ (s : Span). s.holds) read in
    omega (arith, e, r, c.requires)

pub invariant_of-self : goal.invariant_of-self
invariant_of-self c =
    let is = sym c.find.ensures ∙ c.in-Some.is in
    let at = c.self.invariant.known c.args.id c.in-Some.place is in
    let seen = c.slot.view_is ∙ c.index_mut-slot.ensures.value ∙ get_or_default c.self.inside.slots.items c.in-Some.place c.index_mut-slot.result.now no_slot at.within in
    let e = ap (λ (y : SlotValue). y.span.holds) seen in
    let span = ap (λ (y : SlotValue). y.span) seen in
    let read = shown_some c.self.inside.count (place_in c.self.inside.places.items) c.self.inside.slots.items c.self.inside.free.items _ c.self.invariant c.args.self.now c.self.view_is c.args.id c.in-Some.place is in
    let r = ap (λ (s : Span). s.holds) read in
    tabled_set c.self.inside.count (place_in c.self.inside.places.items) c.self.inside.slots.items c.self.inside.free.items _ c.self.invariant c.args.id c.in-Some.place _ is (ap (λ (y : SlotValue). y.id) seen) c.if-slot-gt0.true

pub returns-then-slot-gt0-clause-made : goal.returns-then-slot-gt0-clause-made
returns-then-slot-gt0-clause-made c =
    let is = sym c.find.ensures ∙ c.in-Some.is in
    let at = c.self.invariant.known c.args.id c.in-Some.place is in
    let seen = c.slot.view_is ∙ c.index_mut-slot.ensures.value ∙ get_or_default c.self.inside.slots.items c.in-Some.place c.index_mut-slot.result.now no_slot at.within in
    let e = ap (λ (y : SlotValue). y.span.holds) seen in
    let span = ap (λ (y : SlotValue). y.span) seen in
    let read = shown_some c.self.inside.count (place_in c.self.inside.places.items) c.self.inside.slots.items c.self.inside.free.items _ c.self.invariant c.args.self.now c.self.view_is c.args.id c.in-Some.place is in
    let r = ap (λ (s : Span). s.holds) read in
    shown_set c.self.inside.count (place_in c.self.inside.places.items) c.self.inside.slots.items c.self.inside.free.items _ c.self.invariant c.args.self.now c.self.view_is c.args.id c.in-Some.place _ _ is
    (ap (λ (s : Span). let t : Span = record s { holds = s.holds - 1 } in t) (span ∙ sym read) ∙ sym (less_more (span_at c.args.self.now.made c.args.id) (λ one. omega (arith, one, r, e, c.if-slot-gt0.true))))

pub returns-then-slot-gt0-clause-closed : goal.returns-then-slot-gt0-clause-closed
returns-then-slot-gt0-clause-closed c =
    let is = sym c.find.ensures ∙ c.in-Some.is in
    let at = c.self.invariant.known c.args.id c.in-Some.place is in
    let seen = c.slot.view_is ∙ c.index_mut-slot.ensures.value ∙ get_or_default c.self.inside.slots.items c.in-Some.place c.index_mut-slot.result.now no_slot at.within in
    let e = ap (λ (y : SlotValue). y.span.holds) seen in
    let span = ap (λ (y : SlotValue). y.span) seen in
    let read = shown_some c.self.inside.count (place_in c.self.inside.places.items) c.self.inside.slots.items c.self.inside.free.items _ c.self.invariant c.args.self.now c.self.view_is c.args.id c.in-Some.place is in
    let r = ap (λ (s : Span). s.holds) read in
    sym (ne_eqb (span_at c.args.self.now.made c.args.id).holds 1 (λ one. omega (arith, one, r, e, c.if-slot-gt0.true)))

pub returns-then-slot-gt0-clause-next : goal.returns-then-slot-gt0-clause-next
returns-then-slot-gt0-clause-next c =
    let is = sym c.find.ensures ∙ c.in-Some.is in
    let at = c.self.invariant.known c.args.id c.in-Some.place is in
    let seen = c.slot.view_is ∙ c.index_mut-slot.ensures.value ∙ get_or_default c.self.inside.slots.items c.in-Some.place c.index_mut-slot.result.now no_slot at.within in
    let e = ap (λ (y : SlotValue). y.span.holds) seen in
    let span = ap (λ (y : SlotValue). y.span) seen in
    let read = shown_some c.self.inside.count (place_in c.self.inside.places.items) c.self.inside.slots.items c.self.inside.free.items _ c.self.invariant c.args.self.now c.self.view_is c.args.id c.in-Some.place is in
    let r = ap (λ (s : Span). s.holds) read in
    sym (cond-false {A = Option ℕ} ((span_at c.args.self.now.made c.args.id).holds == 1) (span_at c.args.self.now.made c.args.id).parent None (ne_eqb (span_at c.args.self.now.made c.args.id).holds 1 (λ one. omega (arith, one, r, e, c.if-slot-gt0.true))))

pub invariant_of-self-2 : goal.invariant_of-self-2
invariant_of-self-2 c =
    let is = sym c.find.ensures ∙ c.in-Some.is in
    let at = c.self.invariant.known c.args.id c.in-Some.place is in
    let seen = c.slot.view_is ∙ c.index_mut-slot.ensures.value ∙ get_or_default c.self.inside.slots.items c.in-Some.place c.index_mut-slot.result.now no_slot at.within in
    let e = ap (λ (y : SlotValue). y.span.holds) seen in
    let read = shown_some c.self.inside.count (place_in c.self.inside.places.items) c.self.inside.slots.items c.self.inside.free.items _ c.self.invariant c.args.self.now c.self.view_is c.args.id c.in-Some.place is in
    let r = ap (λ (s : Span). s.holds) read in
    let some = some_room c.self.inside.count (place_in c.self.inside.places.items) c.self.inside.slots.items c.self.inside.free.items _ c.self.invariant c.args.id c.in-Some.place is in
    let ok = c.push.ensures.succeeds (omega (arith, some, c.self.inside.free.ok.0)) in
    tabled_same c.self.inside.count (place_in c.take_out.new.places.items) (place_in c.take_out.new.places.items) _ _ (c.self.inside.free.items ++ c.in-Some.place ∷ []) _ _ _
    (tabled_gone c.self.inside.count (place_in c.self.inside.places.items) c.self.inside.slots.items c.self.inside.free.items _ c.self.invariant c.args.id c.in-Some.place _ (place_in c.take_out.new.places.items) is c.take_out.ensures (let none : c.slot.inside.holds - 1 ≡ 0 = omega (arith, c.if-slot-gt0.false) in none))
    (λ q. refl) refl (c.push.ensures.items ∙ cond-true (is_ok c.push.result) (c.self.inside.free.items ++ c.in-Some.place ∷ []) c.self.inside.free.items ok) c.push.ensures.capacity

pub returns-clause-made : goal.returns-clause-made
returns-clause-made c =
    let is = sym c.find.ensures ∙ c.in-Some.is in
    let at = c.self.invariant.known c.args.id c.in-Some.place is in
    let seen = c.slot.view_is ∙ c.index_mut-slot.ensures.value ∙ get_or_default c.self.inside.slots.items c.in-Some.place c.index_mut-slot.result.now no_slot at.within in
    let e = ap (λ (y : SlotValue). y.span.holds) seen in
    let read = shown_some c.self.inside.count (place_in c.self.inside.places.items) c.self.inside.slots.items c.self.inside.free.items _ c.self.invariant c.args.self.now c.self.view_is c.args.id c.in-Some.place is in
    let r = ap (λ (s : Span). s.holds) read in
    let one : (span_at c.args.self.now.made c.args.id).holds ≡ 1 = omega (arith, e, r, c.requires, c.if-slot-gt0.false) in
    shown_gone c.self.inside.count (place_in c.self.inside.places.items) c.self.inside.slots.items c.self.inside.free.items _ c.self.invariant c.args.self.now c.self.view_is c.args.id c.in-Some.place _ (place_in c.take_out.new.places.items) _ is c.take_out.ensures (sym (less_last (span_at c.args.self.now.made c.args.id) one))

pub returns-clause-closed : goal.returns-clause-closed
returns-clause-closed c =
    let is = sym c.find.ensures ∙ c.in-Some.is in
    let at = c.self.invariant.known c.args.id c.in-Some.place is in
    let seen = c.slot.view_is ∙ c.index_mut-slot.ensures.value ∙ get_or_default c.self.inside.slots.items c.in-Some.place c.index_mut-slot.result.now no_slot at.within in
    let e = ap (λ (y : SlotValue). y.span.holds) seen in
    let read = shown_some c.self.inside.count (place_in c.self.inside.places.items) c.self.inside.slots.items c.self.inside.free.items _ c.self.invariant c.args.self.now c.self.view_is c.args.id c.in-Some.place is in
    let r = ap (λ (s : Span). s.holds) read in
    let one : (span_at c.args.self.now.made c.args.id).holds ≡ 1 = omega (arith, e, r, c.requires, c.if-slot-gt0.false) in
    sym (eq-eqb (span_at c.args.self.now.made c.args.id).holds 1 one)

pub returns-clause-next : goal.returns-clause-next
returns-clause-next c =
    let is = sym c.find.ensures ∙ c.in-Some.is in
    let at = c.self.invariant.known c.args.id c.in-Some.place is in
    let seen = c.slot.view_is ∙ c.index_mut-slot.ensures.value ∙ get_or_default c.self.inside.slots.items c.in-Some.place c.index_mut-slot.result.now no_slot at.within in
    let e = ap (λ (y : SlotValue). y.span.holds) seen in
    let read = shown_some c.self.inside.count (place_in c.self.inside.places.items) c.self.inside.slots.items c.self.inside.free.items _ c.self.invariant c.args.self.now c.self.view_is c.args.id c.in-Some.place is in
    let r = ap (λ (s : Span). s.holds) read in
    let one : (span_at c.args.self.now.made c.args.id).holds ≡ 1 = omega (arith, e, r, c.requires, c.if-slot-gt0.false) in
    ap (λ (y : SlotValue). y.span.parent) seen ∙ ap (λ (s : Span). s.parent) (sym read)
    ∙ sym (cond-true {A = Option ℕ} ((span_at c.args.self.now.made c.args.id).holds == 1) (span_at c.args.self.now.made c.args.id).parent None (eq-eqb (span_at c.args.self.now.made c.args.id).holds 1 one))
