-- A value that is there has a place.
use Rattle.std.proofs.Common.{rules, ◌≡◌, ◌-◌, get_or, None, is_some, true, sym, ap, subst, ◌∙◌}
use Rattle.std.proofs.lemmas.Option.{slice_get_read}
use Rattle.sparse_slots.proofs.SlotsLemmas.{reads, takes_value}
use Rattle.sparse_slots.proofs.Slots.at.Goals as goal

pub index-requires-2 : goal.index-requires-2
index-requires-2 g c = (reads c.self.inside.places.items c.self.inside.live.items c.args.number c.index.result.now c.self.inside.live.len c.self.invariant (subst (λ s. is_some (get_or s.items c.args.number None) ≡ true) (sym c.self.view_is) c.requires) (search rules) c.index.ensures).2

pub returns : goal.returns
returns g c =
    let read = reads c.self.inside.places.items c.self.inside.live.items c.args.number c.index.result.now c.self.inside.live.len c.self.invariant (subst (λ s. is_some (get_or s.items c.args.number None) ≡ true) (sym c.self.view_is) c.requires) (search rules) c.index.ensures in
    ap (λ s. get_or s.items c.args.number None) (sym c.self.view_is)
    ∙ sym (takes_value c.self.inside.places.items c.self.inside.live.items c.args.number c.index.result.now c.index-2.result.now read.0 read.1
    (slice_get_read c.self.inside.live.items c.self.inside.live.len (c.index.result.now - 1) c.index-2.result.now (search rules) read.2 c.index-2.ensures))
