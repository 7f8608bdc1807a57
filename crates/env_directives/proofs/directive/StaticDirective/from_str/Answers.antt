use Rattle.std.proofs.Common.{refl, sym, ◌∙◌, ◌≡◌, [], codes, None, Some, is_some, true, false}
use Rattle.env_directives.proofs.Common.{cut_once}
use Rattle.env_directives.proofs.cuts.SeparatorsLemmas.{missed, cut_some, contained}
use Rattle.env_directives.proofs.directive.StaticDirective.from_str.Goals as goal

pub returns-in_default : goal.returns-in_default
returns-in_default c =
    let whole : cut_once (codes "=") c.args.text.now ≡ None = missed (codes "=") c.args.text.now c.in_default.ensures.cases in
    rw whole c.bare.ensures

pub returns-then-contains : goal.returns-then-contains
returns-then-contains c =
    let parts : cut_once (codes "=") c.args.text.now ≡ Some (c.in-Some.front.now, c.in-Some.level.now) = cut_some 61 [] c.args.text.now _ _ c.in-Some.ensures.cases in
    let again : is_some (cut_once (codes "=") c.in-Some.level.now) ≡ true = sym (contained 61 [] c.in-Some.level.now _ c.contains.ensures.cases) ∙ c.if-contains.true in
    rw (parts, again) refl

pub returns : goal.returns
returns c =
    let parts : cut_once (codes "=") c.args.text.now ≡ Some (c.in-Some.front.now, c.in-Some.level.now) = cut_some 61 [] c.args.text.now _ _ c.in-Some.ensures.cases in
    let once : is_some (cut_once (codes "=") c.in-Some.level.now) ≡ false = sym (contained 61 [] c.in-Some.level.now _ c.contains.ensures.cases) ∙ c.if-contains.false in
    rw (parts, once) c.static_with_equals.ensures
