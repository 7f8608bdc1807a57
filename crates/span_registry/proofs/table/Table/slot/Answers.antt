-- A span's slot is read at its place.
use Rattle.std.proofs.Common.{◌∙◌, sym, ap, arith}
use Rattle.span_registry.proofs.Common.{get_or_default, place_in, SlotValue, no_slot}
use Rattle.span_registry.proofs.SlotTableLemmas.{shown_some, shown_none}
use Rattle.span_registry.proofs.table.Table.slot.Goals as goal

pub index-requires : goal.index-requires
index-requires c = let within = (c.self.invariant.known c.args.id c.in-Some.place (sym c.find.ensures ∙ c.in-Some.is)).within in omega (arith, within, c.self.inside.slots.ok.0)

pub returns-in-Some-clause-some : goal.returns-in-Some-clause-some
returns-in-Some-clause-some c =
    let is = sym c.find.ensures ∙ c.in-Some.is in
    let at = c.self.invariant.known c.args.id c.in-Some.place is in
    ap (λ (y : SlotValue). y.span) (c.index.ensures ∙ get_or_default c.self.inside.slots.items c.in-Some.place c.index.result.now no_slot at.within)
    ∙ sym (shown_some c.self.inside.count (place_in c.self.inside.places.items) c.self.inside.slots.items c.self.inside.free.items _ c.self.invariant c.args.self.now c.self.view_is c.args.id c.in-Some.place is)

pub returns-in-None-clause-none : goal.returns-in-None-clause-none
returns-in-None-clause-none c = λ none. shown_none c.self.inside.count (place_in c.self.inside.places.items) c.self.inside.slots.items c.self.inside.free.items _ c.self.invariant c.args.self.now c.self.view_is c.args.id (sym c.find.ensures ∙ c.in-None.is)
