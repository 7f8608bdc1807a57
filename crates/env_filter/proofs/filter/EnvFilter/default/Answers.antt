-- It has nothing.
use Rattle.std.proofs.Common.{sym, subst, true, ap, ◌∙◌}
use Rattle.env_filter.proofs.Common.{StaticDirective, Directive, DirectiveTable, empty_table, IsNewFilter, with_tables}
use Rattle.env_filter.proofs.Wholes.{new_default}
use Rattle.env_filter.proofs.filter.EnvFilter.default.Goals as goal

pub returns-clause-new : goal.returns-clause-new
returns-clause-new c =
    let statics = ap (λ (t : DirectiveTable StaticDirective). with_tables true t c.new-2.result) c.new.ensures in
    let dynamics = ap (λ (t : DirectiveTable Directive). with_tables true empty_table t) c.new-2.ensures in
    subst IsNewFilter (sym (c.with_tables.ensures ∙ statics ∙ dynamics)) (new_default true)
