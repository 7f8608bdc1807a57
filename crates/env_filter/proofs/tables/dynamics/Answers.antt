-- What is kept are the dynamic ones.
use Rattle.std.proofs.Common.{◌∙◌, ap, List, rules}
use Rattle.std.proofs.lemmas.Fn.{filter_same}
use Rattle.env_filter.proofs.Common.{Directive, directive_cmp, DirectiveTable, empty_table, with_all_added, is_dynamic}
use Rattle.env_filter.proofs.tables.dynamics.Goals as goal

pub returns : goal.returns
returns c =
    c.in_ok-extend.ensures.ok
    ∙ ap (λ (t : DirectiveTable Directive). with_all_added directive_cmp (λ (d : Directive). d.level) c.retain.new.self.items t) c.new-dynamics.ensures
    ∙ ap (λ (ds : List Directive). with_all_added directive_cmp (λ (d : Directive). d.level) ds empty_table)
    (filter_same _ is_dynamic _ (λ x b f' k. search rules) _ _ c.retain.ensures.filtered)
