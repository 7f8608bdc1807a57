use Rattle.env_directives.proofs.Common.{ends_with, ends_text, cut_once}
use Rattle.std.proofs.Common.{refl, sym, ◌∙◌, ◌≡◌, ◌∷◌, [], codes, is_some, true, false, eqb}
use Rattle.env_directives.proofs.cuts.SeparatorsLemmas.{contained, trimmed}
use Rattle.env_directives.proofs.directive.names_between.Goals as goal

pub returns-then-contains : goal.returns-then-contains
returns-then-contains c =
    let again : is_some (cut_once (codes "[{") c.args.fields.now) ≡ true = sym (contained 91 (123 ∷ []) c.args.fields.now _ c.contains.ensures.cases) ∙ c.if-contains.true in
    rw again refl

pub returns-then-not-ends_with : goal.returns-then-not-ends_with
returns-then-not-ends_with c =
    let once : is_some (cut_once (codes "[{") c.args.fields.now) ≡ false = sym (contained 91 (123 ∷ []) c.args.fields.now _ c.contains.ensures.cases) ∙ c.if-contains.false in
    let open_ended : ends_with eqb c.args.fields.now (codes "}]") ≡ false = sym (ends_text _ (codes "}]") c.args.fields.now c.ends_with.ensures.cases) ∙ c.if-not-ends_with.true in
    rw (once, open_ended) refl

pub returns : goal.returns
returns c =
    let once : is_some (cut_once (codes "[{") c.args.fields.now) ≡ false = sym (contained 91 (123 ∷ []) c.args.fields.now _ c.contains.ensures.cases) ∙ c.if-contains.false in
    let ended : ends_with eqb c.args.fields.now (codes "}]") ≡ true = sym (ends_text _ (codes "}]") c.args.fields.now c.ends_with.ensures.cases) ∙ c.if-not-ends_with.false in
    rw (once, ended, trimmed c.args.fields.now c.trim_end_matches.result.now c.trim_end_matches.ensures.matches) c.nonempty.ensures
