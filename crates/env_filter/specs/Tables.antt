-- The two tables of a filter: which directives go where.
use Rattle.std.specs.Prelude.{ℕ, ◌==◌, ◌&&◌, ◌||◌, if◌then◌else◌, Bool, List, [], ◌∷◌, length, map, not, Option, Some, None, is_some}
use Rattle.std.specs.List.{list_any, filter}
use Rattle.std.specs.Option.{option_map}
use Rattle.env_directives.specs.declared.directive.StaticDirective.{StaticDirective}
use Rattle.env_directives.specs.declared.env.directive.Directive.{Directive}
use Rattle.env_directives.specs.declared.env.field.Match.{Match}
use Rattle.env_directives.specs.declared.env.field.ValueMatch.{ValueMatch}
use Rattle.env_directives.specs.declared.env.field.ValueMatch.TheVariants.{Bool as Truth, U64, I64, Pat, Debug}
use Rattle.env_directives.specs.orders.DirectiveOrder.{directive_cmp}
use Rattle.env_directives.specs.orders.StaticOrder.{most_specific_first}
use Rattle.env_directives.specs.orders.Table.{DirectiveTable, empty_table, with_added, with_all_added}
use Rattle.env_filter.specs.Filtering.{FilterState, asks_value}

-- a static directive can be judged by a callsite alone: it has no span name and asks for no value
abbrev pub is_static : Directive → Bool
is_static d = not (is_some d.in_span) && not (list_any asks_value d.fields)

-- a dynamic one may speak of spans: it has a span name or a field; so a directive can be both
abbrev pub is_dynamic : Directive → Bool
is_dynamic d = is_some d.in_span || not (length d.fields == 0)

abbrev pub static_of : Directive → StaticDirective
static_of d = record { target = d.target; field_names = map (λ field. field.name) d.fields; level = d.level }

-- a table after the static ones of some directives were added in turn
abbrev pub with_all_static : List Directive → DirectiveTable StaticDirective → DirectiveTable StaticDirective
with_all_static ds t = with_all_added most_specific_first (λ d. d.level) (map static_of (filter is_static ds)) t

-- the tables of some directives, in the order in which their text gave them
abbrev pub statics_of : List Directive → DirectiveTable StaticDirective
statics_of ds = with_all_static ds empty_table

abbrev pub dynamics_of : List Directive → DirectiveTable Directive
dynamics_of ds = with_all_added directive_cmp (λ d. d.level) (filter is_dynamic ds) empty_table

-- a pattern as the fixed text of its bytes
abbrev pub as_fixed_text : ValueMatch → ValueMatch
as_fixed_text (Pat pattern) = Debug pattern
as_fixed_text (Truth truth) = Truth truth
as_fixed_text (U64 number) = U64 number
as_fixed_text (I64 number) = I64 number
as_fixed_text (Debug text) = Debug text

abbrev pub fixed_field : Match → Match
fixed_field m = record m { value = option_map as_fixed_text m.value }

abbrev pub fixed_directive : Directive → Directive
fixed_directive d = record d { fields = map fixed_field d.fields }

-- a filter with one directive more, which goes to the static ones where it can, else to the dynamic ones
abbrev pub with_in_table : FilterState → Directive → FilterState
with_in_table f d =
    if is_static d then record f { statics = with_added most_specific_first (λ e. e.level) (static_of d) f.statics }
    else record f { dynamics = with_added directive_cmp (λ e. e.level) d f.dynamics }

-- and where patterns aren't taken, its patterns are fixed texts
abbrev pub with_directive : FilterState → Directive → FilterState
with_directive f d = with_in_table f (if f.patterns then d else fixed_directive d)

-- a filter with these tables, and no span and no level
abbrev pub with_tables : Bool → DirectiveTable StaticDirective → DirectiveTable Directive → FilterState
with_tables patterns statics dynamics = record { patterns = patterns; statics = statics; dynamics = dynamics; spans = λ id. None; lanes = λ lane. [] }

-- whether both tables are empty
abbrev pub has_no_directives : FilterState → Bool
has_no_directives f = length f.statics.directives == 0 && length f.dynamics.directives == 0

-- a filter that has a default directive, if there is one, where it would have none
abbrev pub or_default : Option Directive → FilterState → FilterState
or_default None f = f
or_default (Some d) f = if has_no_directives f then with_directive f d else f

-- the filter of some directives
abbrev pub filter_of : Bool → Option Directive → List Directive → FilterState
filter_of patterns default ds = or_default default (with_tables patterns (statics_of ds) (dynamics_of ds))
