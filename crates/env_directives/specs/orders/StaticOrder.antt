-- Which of two directives is the more specific: the order of a table.
use Rattle.std.specs.Prelude.{ℕ, length, Option}
use Rattle.std.specs.Option.{option_map, option_cmp}
use Rattle.std.specs.declared.cmp.Ordering.{Ordering}
use Rattle.std.specs.Ordering.{nat_cmp, on, flip_args, then_cmp}
use Rattle.std.specs.Cmp.Lexicographic.{slice_cmp}
use Rattle.env_directives.specs.orders.FieldOrder.{text_cmp}
use Rattle.env_directives.specs.declared.directive.StaticDirective.{StaticDirective}

-- the length of the target in bytes, if there is a target
abbrev pub target_length : StaticDirective → Option ℕ
target_length d = option_map length d.target

-- by the length of the target, no target being least, then by the number of field names, then by the target, and at last by the names
abbrev pub specificity_cmp : StaticDirective → StaticDirective → Ordering
specificity_cmp =
    then_cmp (then_cmp (then_cmp
    (on target_length (option_cmp nat_cmp))
    (on (λ d. length d.field_names) nat_cmp))
    (on (λ d. d.target) (option_cmp text_cmp)))
    (on (λ d. d.field_names) (slice_cmp text_cmp))

-- the other way round
abbrev pub most_specific_first : StaticDirective → StaticDirective → Ordering
most_specific_first = flip_args specificity_cmp
