-- What a filter prints.
use Rattle.std.specs.Prelude.{◌≡◌, ℕ, List, [], ◌∷◌, ◌++◌, false, true, None, codes, flat_map, map}
use Rattle.std.specs.Str.{trim}
use Rattle.env_directives.specs.reading.Cuts.{lacks}
use Rattle.env_directives.specs.reading.Forms.{IsDirective}
use Rattle.env_directives.specs.declared.directive.StaticDirective.{StaticDirective}
use Rattle.env_directives.specs.declared.env.directive.Directive.{Directive}
use Rattle.env_directives.specs.declared.env.field.Match.{Match}
use Rattle.env_directives.specs.printed.Printed.{directive_text, HasNoMinusZero}
use Rattle.env_directives.specs.printed.StaticPrinted.{static_text}
use Rattle.env_directives.specs.orders.Table.{DirectiveTable, greatest_of}
use Rattle.trace_base.specs.declared.level.LevelFilter.{LevelFilter}
use Rattle.trace_base.specs.words.Level.{greatest_verbosity}
use Rattle.env_filter.specs.texts.Building.{BuilderValue, default_builder}
use Rattle.env_filter.specs.Filtering.{Each, FilterState}
use Rattle.env_filter.specs.Tables.{statics_of, dynamics_of}

-- each item behind a comma
abbrev pub behind_commas : {X : Type 0} → (X → List ℕ) → List X → List ℕ
behind_commas text xs = flat_map (λ x. codes "," ++ text x) xs

-- dynamic directives with commas between them
abbrev pub dynamics_text : List Directive → List ℕ
dynamics_text [] = []
dynamics_text (d ∷ ds) = directive_text d ++ behind_commas directive_text ds

-- the static directives and then the dynamic ones, with commas between them
abbrev pub filter_text : List StaticDirective → List Directive → List ℕ
filter_text [] ds = dynamics_text ds
filter_text (s ∷ ss) ds = static_text s ++ (behind_commas static_text ss ++ behind_commas directive_text ds)

-- a static directive as the directive that prints the same
abbrev pub bare_field : List ℕ → Match
bare_field name = record { name = name; value = None }

abbrev pub as_directive : StaticDirective → Directive
as_directive s = record { in_span = None; fields = map bare_field s.field_names; target = s.target; level = s.level }

-- the directives that a filter prints, in order
abbrev pub printed_directives : List StaticDirective → List Directive → List Directive
printed_directives ss ds = map as_directive ss ++ ds

-- a directive prints no comma, and what it prints is read as that directive
abbrev pub IsReadBack : Directive → Type 0
IsReadBack d = (lacks (codes ",") (directive_text d) ≡ true) × IsDirective false (trim (directive_text d)) d

-- the directives that the filter of some directives prints
abbrev pub printed_of : List Directive → List Directive
printed_of ds = printed_directives (statics_of ds).directives (dynamics_of ds).directives

-- the greatest level of a table is that of one of its directives, and not of one that gave way to an equal one
abbrev pub HasOwnGreatest : {T : Type 0} → (T → LevelFilter) → DirectiveTable T → Type 0
HasOwnGreatest level t = greatest_verbosity t.greatest ≡ greatest_of (map (λ d. greatest_verbosity (level d)) t.directives)

abbrev pub HaveOwnGreatest : List Directive → Type 0
HaveOwnGreatest ds = HasOwnGreatest (λ s. s.level) (statics_of ds) × HasOwnGreatest (λ d. d.level) (dynamics_of ds)

-- no directive asks for the number 0 as one that was read behind a minus
abbrev pub HaveNoMinusZero : List Directive → Type 0
HaveNoMinusZero ds = Each (λ d. HasNoMinusZero d.fields) ds

-- what a filter prints
abbrev pub text_of : FilterState → List ℕ
text_of f = filter_text f.statics.directives f.dynamics.directives

-- a builder that takes no patterns and has no default
abbrev pub fixed_builder : BuilderValue
fixed_builder = record default_builder { patterns = false }
