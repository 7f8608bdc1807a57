use Rattle.std.specs.Prelude.{◌≡◌, ◌∷◌}
use Rattle.env_directives.proofs.Common.{into_iter_items, pair_directive}
use Rattle.env_directives.proofs.tables.AddsLemmas.{more}
use Rattle.env_directives.proofs.targets.Targets.extend.Goals as goal

pub loop-target-preserved : goal.loop-target-preserved
loop-target-preserved c =
    let step : into_iter_items c.loop-target.target-iterator ≡ (c.in-Some.target, c.in-Some.level) ∷ into_iter_items c.next.new.self = c.in-Some.ensures.steps.0 in
    let begun = rw step at c.loop-target.invariant in
    rw (c.in_ok-add.ensures.ok, c.target_directive.ensures) (more _ _ _ _ _ (pair_directive (c.in-Some.target, c.in-Some.level)) _ begun)
