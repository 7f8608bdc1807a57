-- How directives are ordered; their levels aren't read.
use Rattle.std.specs.Prelude.{◌≡◌, is_some, length}
use Rattle.std.specs.Cmp.Lexicographic.{slice_cmp}
use Rattle.std.specs.Option.{option_cmp, option_map}
use Rattle.std.specs.declared.cmp.Ordering.{Ordering}
use Rattle.std.specs.Ordering.{on, then_cmp, flip_args, nat_cmp, bool_cmp}
use Rattle.env_directives.specs.declared.env.directive.Directive.{Directive}
use Rattle.env_directives.specs.orders.FieldOrder.{text_cmp, field_cmp}

-- how much a directive asks: the longer target, of which none is least, then a span name, then the more fields
abbrev pub reach_cmp : Directive → Directive → Ordering
reach_cmp = then_cmp (on (λ d. option_map length d.target) (option_cmp nat_cmp)) (then_cmp (on (λ d. is_some d.in_span) bool_cmp) (on (λ d. length d.fields) nat_cmp))

-- where two ask as much: by target, then by span name, then by fields
abbrev pub parts_cmp : Directive → Directive → Ordering
parts_cmp = then_cmp (on (λ d. d.target) (option_cmp text_cmp)) (then_cmp (on (λ d. d.in_span) (option_cmp text_cmp)) (on (λ d. d.fields) (slice_cmp field_cmp)))

-- the more a directive asks, the earlier it stands
abbrev pub directive_cmp : Directive → Directive → Ordering
directive_cmp = flip_args (then_cmp reach_cmp parts_cmp)

-- two directives differ in their level at most
abbrev pub SameButLevel : Directive → Directive → Type 0
SameButLevel a b = (a.target ≡ b.target) × (a.in_span ≡ b.in_span) × (a.fields ≡ b.fields)
