use Rattle.std.proofs.Common.{sym, ◌∙◌, ◌≡◌, ◌∷◌, Result, Ok, Err, OnErr}
use Rattle.env_directives.proofs.Common.{into_iter_items}
use Rattle.env_directives.proofs.tables.AddsLemmas.{more, done, refused}
use Rattle.env_directives.proofs.directive.set.DirectiveSet.extend.Goals as goal

pub loop-directive-preserved : goal.loop-directive-preserved
loop-directive-preserved g c =
    let step : into_iter_items c.loop-directive.directive-iterator ≡ c.in-Some.directive ∷ into_iter_items c.next.new.self = c.in-Some.ensures.steps.0 in
    let begun = rw step at c.loop-directive.invariant in
    rw c.in_ok-add.ensures.ok (more _ _ _ _ _ c.in-Some.directive _ begun)

on_err : {T E P : Type 0} (r : Result T E) → P → OnErr r P
on_err (Ok x) p = tt
on_err (Err e) p = p

pub returns-in_err-add-clause-memory_keeps : goal.returns-in_err-add-clause-memory_keeps
returns-in_err-add-clause-memory_keeps g c =
    let step : into_iter_items c.loop-directive.directive-iterator ≡ c.in-Some.directive ∷ into_iter_items c.next.new.self = c.in-Some.ensures.steps.0 in
    let begun = rw step at c.loop-directive.invariant in
    on_err c.from_residual.result (rw c.in_err-add.ensures.memory_leaves (refused _ _ _ _ _ c.in-Some.directive _ begun))

pub returns-clause-ok : goal.returns-clause-ok
returns-clause-ok g c = done _ _ _ _ _ _ (sym c.loop-directive.directive-iterator.rest.ok.0 ∙ c.in-None.ensures.steps.0) c.loop-directive.invariant
