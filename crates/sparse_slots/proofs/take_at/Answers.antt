-- The value that was taken out.
use Rattle.std.proofs.Common.{rules, arith, sym, ◌-◌, length, ◌≡◌}
use Rattle.std.proofs.lemmas.Option.{slice_get_read}
use Rattle.sparse_slots.proofs.SlotsLemmas.{there, is_taken, takes_linked, takes_items, takes_value, moves, moves_linked, moves_items, moved_given}
use Rattle.sparse_slots.proofs.take_at.Goals as goal

pub swap_remove-value-requires : goal.swap_remove-value-requires
swap_remove-value-requires g c = there c.args.places.now.items c.args.live.now.items c.args.number c.args.place c.args.live.now.len c.requires.linked (search rules) c.requires.there (search rules)

pub returns-in_default-clause-value : goal.returns-in_default-clause-value
returns-in_default-clause-value g c = sym (takes_value c.args.places.now.items c.args.live.now.items c.args.number c.args.place c.swap_remove-value.result (search rules) c.requires.there
    (slice_get_read c.args.live.now.items c.args.live.now.len (c.args.place - 1) c.swap_remove-value.result (search rules) (there c.args.places.now.items c.args.live.now.items c.args.number c.args.place c.args.live.now.len c.requires.linked (search rules) c.requires.there (search rules)) c.swap_remove-value.ensures.value))

pub returns-in_default-clause-linked : goal.returns-in_default-clause-linked
returns-in_default-clause-linked g c = takes_linked c.args.places.now.items c.args.live.now.items c.swap_remove-value.new.self.items c.args.number c.args.place c.requires.linked (search rules) c.requires.there
    (is_taken c.args.live.now.items c.swap_remove-value.new.self.items (c.args.place - 1) c.args.live.now.len c.swap_remove-value.new.self.len c.swap_remove-value.result (search rules) (search rules) (search rules) c.swap_remove-value.ensures.by_index) (search rules)

pub returns-in_default-clause-spent : goal.returns-in_default-clause-spent
returns-in_default-clause-spent g c = takes_items c.args.places.now.items c.args.live.now.items c.swap_remove-value.new.self.items c.args.number c.args.place c.requires.linked (search rules) c.requires.there
    (is_taken c.args.live.now.items c.swap_remove-value.new.self.items (c.args.place - 1) c.args.live.now.len c.swap_remove-value.new.self.len c.swap_remove-value.result (search rules) (search rules) (search rules) c.swap_remove-value.ensures.by_index) (search rules)

pub index_mut-requires-in-Some : goal.index_mut-requires-in-Some
index_mut-requires-in-Some g c =
    let long : c.args.places.now.len ≡ length c.args.places.now.items = search rules in
    let within = moved_given c.args.places.now.items c.args.live.now.items c.swap_remove-value.new.self.items c.args.number c.in-Some.field-0.now
    (moves c.args.places.now.items c.args.live.now.items c.swap_remove-value.new.self.items c.args.number c.args.place c.in-Some.field-0.now c.requires.linked (search rules) c.requires.there
    (is_taken c.args.live.now.items c.swap_remove-value.new.self.items (c.args.place - 1) c.args.live.now.len c.swap_remove-value.new.self.len c.swap_remove-value.result (search rules) (search rules) (search rules) c.swap_remove-value.ensures.by_index)
    (slice_get_read c.swap_remove-value.new.self.items c.swap_remove-value.new.self.len (c.args.place - 1) c.in-Some.field-0.now (search rules) (search rules) (search rules)) (search rules)) in
    omega (arith, long, within)

pub returns-in-Some-clause-value : goal.returns-in-Some-clause-value
returns-in-Some-clause-value g c = sym (takes_value c.args.places.now.items c.args.live.now.items c.args.number c.args.place c.swap_remove-value.result (search rules) c.requires.there
    (slice_get_read c.args.live.now.items c.args.live.now.len (c.args.place - 1) c.swap_remove-value.result (search rules) (there c.args.places.now.items c.args.live.now.items c.args.number c.args.place c.args.live.now.len c.requires.linked (search rules) c.requires.there (search rules)) c.swap_remove-value.ensures.value))

pub returns-in-Some-clause-linked : goal.returns-in-Some-clause-linked
returns-in-Some-clause-linked g c = moves_linked c.args.places.now.items c.args.live.now.items c.swap_remove-value.new.self.items c.args.number c.args.place c.in-Some.field-0.now (search rules)
    (moves c.args.places.now.items c.args.live.now.items c.swap_remove-value.new.self.items c.args.number c.args.place c.in-Some.field-0.now c.requires.linked (search rules) c.requires.there
    (is_taken c.args.live.now.items c.swap_remove-value.new.self.items (c.args.place - 1) c.args.live.now.len c.swap_remove-value.new.self.len c.swap_remove-value.result (search rules) (search rules) (search rules) c.swap_remove-value.ensures.by_index)
    (slice_get_read c.swap_remove-value.new.self.items c.swap_remove-value.new.self.len (c.args.place - 1) c.in-Some.field-0.now (search rules) (search rules) (search rules)) (search rules))

pub returns-in-Some-clause-spent : goal.returns-in-Some-clause-spent
returns-in-Some-clause-spent g c = moves_items c.args.places.now.items c.args.live.now.items c.swap_remove-value.new.self.items c.args.number c.args.place c.in-Some.field-0.now (search rules)
    (moves c.args.places.now.items c.args.live.now.items c.swap_remove-value.new.self.items c.args.number c.args.place c.in-Some.field-0.now c.requires.linked (search rules) c.requires.there
    (is_taken c.args.live.now.items c.swap_remove-value.new.self.items (c.args.place - 1) c.args.live.now.len c.swap_remove-value.new.self.len c.swap_remove-value.result (search rules) (search rules) (search rules) c.swap_remove-value.ensures.by_index)
    (slice_get_read c.swap_remove-value.new.self.items c.swap_remove-value.new.self.len (c.args.place - 1) c.in-Some.field-0.now (search rules) (search rules) (search rules)) (search rules))
