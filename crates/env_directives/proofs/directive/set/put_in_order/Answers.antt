use Rattle.std.proofs.Common.{◌∙◌}
use Rattle.std.proofs.lemmas.List.{length-set}
use Rattle.env_directives.proofs.tables.PlacesLemmas.{replaced, inserted, searchable, refilled}
use Rattle.env_directives.proofs.directive.set.put_in_order.Goals as goal

pub returns-in-Ok-clause-ok : goal.returns-in-Ok-clause-ok
returns-in-Ok-clause-ok g c =
    let bound = rw c.as_slice.ensures at c.in-Ok.ensures.bound in
    let found = rw c.as_slice.ensures at c.in-Ok.ensures.ok in
    rw c.deref_mut.ensures.value (refilled _ _ (length-set _ _ _)
    ∙ replaced g.met.T.Ord.total c.args.directive c.args.directives.now.items c.in-Ok.place c.requires bound found)

pub returns-in_ok-insert-in-Err-clause-ok : goal.returns-in_ok-insert-in-Err-clause-ok
returns-in_ok-insert-in-Err-clause-ok g c =
    let bound = rw c.as_slice.ensures at c.in-Err.ensures.bound in
    let parted = rw c.as_slice.ensures at c.in-Err.ensures.position in
    let sides = parted (searchable g.met.T.Ord.total c.args.directive c.args.directives.now.items c.requires) in
    rw c.in_ok-insert-in-Err.ensures.ok (inserted g.met.T.Ord.total c.args.directive c.args.directives.now.items c.in-Err.place bound sides.0 sides.1)
