-- How directives print.
use Rattle.std.specs.Prelude.{ℕ, List, [], ◌∷◌, ◌++◌, ◌==◌, ◌||◌, not, if◌then◌else◌, Option, is_some, length, codes, flat_map}
use Rattle.std.specs.Option.{unwrap_or}
use Rattle.trace_base.specs.words.Level.{level_filter_text}
use Rattle.env_directives.specs.declared.directive.StaticDirective.{StaticDirective}

-- texts with commas between them
abbrev pub comma_joined : List (List ℕ) → List ℕ
comma_joined [] = []
comma_joined (text ∷ texts) = text ++ flat_map (λ other. 44 ∷ other) texts

-- the names of fields between `[{` and `}]`, if there are any
abbrev pub field_brackets : List (List ℕ) → List ℕ
field_brackets names = if length names == 0 then [] else codes "[{" ++ comma_joined names ++ codes "}]"

-- a sign between the level and what stands before it, be it an empty target
abbrev pub equals_sign : Option (List ℕ) → List (List ℕ) → List ℕ
equals_sign target names = if is_some target || not (length names == 0) then codes "=" else []

abbrev pub static_text : StaticDirective → List ℕ
static_text d = unwrap_or d.target [] ++ field_brackets d.field_names ++ equals_sign d.target d.field_names ++ level_filter_text d.level
