-- Why the order on directives is total.
use Rattle.std.specs.Prelude.{is_some, length}
use Rattle.std.specs.Cmp.{IsTotalOrder, then_total, on_total, back_total, bool_cmp_total, nat_cmp_total}
use Rattle.std.specs.Cmp.Lexicographic.{options_total, lists_total}
use Rattle.std.specs.Option.{option_map}
use Rattle.env_directives.specs.orders.DirectiveOrder.{reach_cmp, parts_cmp, directive_cmp}
use Rattle.env_directives.specs.laws.FieldLemmas.{field_total}

reach_total : IsTotalOrder reach_cmp
reach_total = then_total (on_total (λ d. option_map length d.target) (options_total nat_cmp_total))
    (then_total (on_total (λ d. is_some d.in_span) bool_cmp_total) (on_total (λ d. length d.fields) nat_cmp_total))

parts_total : IsTotalOrder parts_cmp
parts_total = then_total (on_total (λ d. d.target) (options_total (lists_total nat_cmp_total)))
    (then_total (on_total (λ d. d.in_span) (options_total (lists_total nat_cmp_total))) (on_total (λ d. d.fields) (lists_total field_total)))

pub directive_total : IsTotalOrder directive_cmp
directive_total = back_total (then_total reach_total parts_total)
