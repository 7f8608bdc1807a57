use Rattle.std.specs.Prelude.{◌≡◌, ◌∷◌, [], codes, None, Some}
use Rattle.env_directives.proofs.Common.{cut_once}
use Rattle.env_directives.proofs.cuts.SeparatorsLemmas.{missed, cut_some}
use Rattle.env_directives.proofs.directive.target_and_names.Goals as goal

pub returns-in-Some : goal.returns-in-Some
returns-in-Some c =
    let parts : cut_once (codes "[{") c.args.front.now ≡ Some (c.in-Some.target.now, c.in-Some.fields.now) = cut_some 91 (123 ∷ []) c.args.front.now _ _ c.in-Some.ensures.cases in
    rw parts c.front_with_names.ensures

pub returns-in-None : goal.returns-in-None
returns-in-None c =
    let whole : cut_once (codes "[{") c.args.front.now ≡ None = missed (codes "[{") c.args.front.now c.in-None.ensures.cases in
    rw whole c.front_without_names.ensures
