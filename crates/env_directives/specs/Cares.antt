-- Which callsites a directive speaks of.
use Rattle.std.specs.Prelude.{ℕ, List, Bool, true, false, eqb, ◌==◌, length, ◌&&◌, ◌||◌, bytes_eq, map, Option}
use Rattle.std.specs.List.{list_any, list_all, starts_with}
use Rattle.std.specs.Option.{option_map_or}
use Rattle.trace_base.specs.declared.callsite.Callsite.{Callsite}
use Rattle.trace_base.specs.declared.callsite.Kind.{Kind}
use Rattle.trace_base.specs.declared.callsite.Kind.TheVariants.{Span, Event}
use Rattle.env_directives.specs.declared.directive.StaticDirective.{StaticDirective}
use Rattle.env_directives.specs.declared.env.directive.Directive.{Directive}

-- a text begins with another, if there is another
abbrev pub begins_with : Option (List ℕ) → List ℕ → Bool
begins_with start text = option_map_or (λ front. starts_with eqb text front) start true

-- a target begins with the directive's, if it has one
abbrev pub covers : StaticDirective → List ℕ → Bool
covers d target = begins_with d.target target

-- a callsite has fields of all these names
abbrev pub declares_all : Callsite → List (List ℕ) → Bool
declares_all c names = list_all (λ name. list_any (λ field. bytes_eq field name) c.fields) names

abbrev pub is_span : Kind → Bool
is_span Span = true
is_span Event = false

-- a directive without a target speaks of every target, and field names are asked of events alone
abbrev pub cares : StaticDirective → Callsite → Bool
cares d c = covers d c.target && (is_span c.kind || declares_all c d.field_names)

-- a directive without field names speaks of a target by itself
abbrev pub cares_about_target : StaticDirective → List ℕ → Bool
cares_about_target d target = covers d target && (length d.field_names == 0)

-- a directive that may speak of spans speaks of those within its target that have its span name, if it has one, and all its fields
abbrev pub cares_for_span : Directive → Callsite → Bool
cares_for_span d c =
    is_span c.kind && (begins_with d.target c.target && (option_map_or (λ name. bytes_eq c.name name) d.in_span true
    && declares_all c (map (λ field. field.name) d.fields)))
