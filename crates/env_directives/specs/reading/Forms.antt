-- The forms that a directive's text has, and what each of them means.
use Rattle.std.specs.Prelude.{◌≡◌, ℕ, List, [], ◌∷◌, ◌++◌, ◌==◌, ◌||◌, Bool, true, false, Option, None, Some, codes, flat_map, map, chars}
use Rattle.std.specs.List.{AllByRecursion}
use Rattle.std.specs.Option.{option_map}
use Rattle.trace_base.specs.declared.level.LevelFilter.{LevelFilter}
use Rattle.trace_base.specs.declared.level.LevelFilter.TheVariants.{TRACE}
use Rattle.trace_base.specs.words.LevelWords.{level_filter_of}
use Rattle.unicode.specs.Binary.{is_alphabetic}
use Rattle.ucd_category.specs.GeneralCategory.{general_category}
use Rattle.ucd_category.specs.GeneralCategoryGroup.{in_group}
use Rattle.ucd_category.specs.declared.GeneralCategoryGroup.TheVariants.{Number}
use Rattle.env_directives.specs.reading.Cuts.{lacks}
use Rattle.env_directives.specs.reading.Values.{field_of, HavePatterns}
use Rattle.env_directives.specs.declared.env.directive.Directive.{Directive}

-- whether a directive may begin with a character: an opening bracket, `-`, `:`, `_`, or one that is alphabetic or numeric
abbrev pub may_begin : ℕ → Bool
may_begin c = c == 91 || c == 45 || c == 58 || c == 95 || is_alphabetic c || in_group Number (general_category c)

-- whether a text begins with such a character
abbrev pub begins_as_directive : List ℕ → Bool
begins_as_directive text = begins_chars (chars text)
  where
    begins_chars : List ℕ → Bool
    begins_chars [] = false
    begins_chars (c ∷ cs) = may_begin c

-- What stands before the level: `head`, `head[span]` or `head[span{field,field}]`. Before a bracket the head may be empty.
pub data Front : Type 0 where
  bare : (head : List ℕ) → Front
  spanned : (head span : List ℕ) → Front
  fielded : (head span : List ℕ) (earlier : List (List ℕ)) (last : List ℕ) → Front

-- fields that a comma follows each
abbrev pub fields_with_commas : List (List ℕ) → List ℕ
fields_with_commas fields = flat_map (λ field. field ++ codes ",") fields

-- `head[span{field,`, and so on for each of the fields, and then more
abbrev pub text_up_to_fields : List ℕ → List ℕ → List (List ℕ) → List ℕ → List ℕ
text_up_to_fields head span fields more = head ++ (codes "[" ++ (span ++ (codes "{" ++ (fields_with_commas fields ++ more))))

-- what a front looks like
abbrev pub front_text : Front → List ℕ
front_text (bare head) = head
front_text (spanned head span) = head ++ (codes "[" ++ (span ++ codes "]"))
front_text (fielded head span earlier last) = text_up_to_fields head span earlier (last ++ codes "}]")

-- a head has no `=`, no opening bracket and no comma; a span name no closing bracket and no opening brace
abbrev pub IsHead : List ℕ → Type 0
IsHead head = lacks (codes "=[,") head ≡ true

abbrev pub IsSpanName : List ℕ → Type 0
IsSpanName span = lacks (codes "]{") span ≡ true

-- a field has at least one byte, and no comma and no closing brace
abbrev pub IsFieldText : List ℕ → Type 0
IsFieldText [] = ⊥
IsFieldText (b ∷ bs) = lacks (codes ",}") (b ∷ bs) ≡ true

abbrev pub IsOpened : List ℕ → List ℕ → List (List ℕ) → Type 0
IsOpened head span fields = IsHead head × IsSpanName span × AllByRecursion IsFieldText fields

abbrev pub IsDirectiveFront : Front → Type 0
IsDirectiveFront (bare head) = IsHead head
IsDirectiveFront (spanned head span) = IsHead head × IsSpanName span
IsDirectiveFront (fielded head span earlier last) = IsOpened head span earlier × IsFieldText last

-- A form: a front alone, or with a level's text behind `=`; a bare head and a level's text may have a comma behind them.
pub data DirectiveForm : Type 0 where
  alone : (front : Front) → DirectiveForm
  head_comma : (head : List ℕ) → DirectiveForm
  leveled : (front : Front) (level : List ℕ) → DirectiveForm
  leveled_comma : (front : Front) (level : List ℕ) → DirectiveForm

-- what a form looks like
abbrev pub form_text : DirectiveForm → List ℕ
form_text (alone front) = front_text front
form_text (head_comma head) = head ++ codes ","
form_text (leveled front level) = front_text front ++ (codes "=" ++ level)
form_text (leveled_comma front level) = front_text front ++ (codes "=" ++ (level ++ codes ","))

-- a level's text has no comma
abbrev pub IsLevelText : List ℕ → Type 0
IsLevelText level = lacks (codes ",") level ≡ true

abbrev pub IsForm : DirectiveForm → Type 0
IsForm (alone front) = IsDirectiveFront front
IsForm (head_comma head) = IsHead head
IsForm (leveled front level) = IsDirectiveFront front × IsLevelText level
IsForm (leveled_comma front level) = IsDirectiveFront front × IsLevelText level

-- a text, none where it is empty
abbrev pub unless_empty : List ℕ → Option (List ℕ)
unless_empty [] = None
unless_empty (b ∷ bs) = Some (b ∷ bs)

-- the directive for the targets that begin with a head, for all if it is empty
abbrev pub directive_of_target : List ℕ → LevelFilter → Directive
directive_of_target head level = record { in_span = None; fields = []; target = unless_empty head; level = level }

-- what a front asks for, at a level
abbrev pub directive_at : Bool → Front → LevelFilter → Directive
directive_at patterns (bare head) level = directive_of_target head level
directive_at patterns (spanned head span) level = record { in_span = Some span; fields = []; target = unless_empty head; level = level }
directive_at patterns (fielded head span earlier last) level =
    record { in_span = unless_empty span; fields = map (field_of patterns) (earlier ++ last ∷ []); target = unless_empty head; level = level }

-- a head alone is a level for all targets, if it reads as one, else a target, at TRACE
abbrev pub level_or_target : List ℕ → Option LevelFilter → Directive
level_or_target head (Some level) = directive_of_target [] level
level_or_target head None = directive_of_target head TRACE

abbrev pub head_alone : List ℕ → Directive
head_alone head = level_or_target head (level_filter_of head)

-- what a front alone asks for
abbrev pub directive_alone : Bool → Front → Directive
directive_alone patterns (bare head) = head_alone head
directive_alone patterns (spanned head span) = directive_at patterns (spanned head span) TRACE
directive_alone patterns (fielded head span earlier last) = directive_at patterns (fielded head span earlier last) TRACE

-- the level that a text behind `=` stands for: TRACE where it is empty
abbrev pub level_behind : List ℕ → Option LevelFilter
level_behind [] = Some TRACE
level_behind (b ∷ bs) = level_filter_of (b ∷ bs)

-- what a form means, with values of texts as patterns or as they stand; nothing where its level doesn't read
abbrev pub directive_of_form : Bool → DirectiveForm → Option Directive
directive_of_form patterns (alone front) = Some (directive_alone patterns front)
directive_of_form patterns (head_comma head) = Some (head_alone head)
directive_of_form patterns (leveled front level) = option_map (directive_at patterns front) (level_behind level)
directive_of_form patterns (leveled_comma front level) = option_map (directive_at patterns front) (level_behind level)

-- A text has a form for a directive if it begins as one may, and looks like a form that means the directive.
pub record HasForm (patterns : Bool) (text : List ℕ) (directive : Directive) : Type 0 where
  pub start : begins_as_directive text ≡ true
  pub form : DirectiveForm
  pub parts : IsForm form
  pub whole : text ≡ form_text form
  pub means : directive_of_form patterns form ≡ Some directive

-- The grammar: a text is that of a directive if it has a form for it; where patterns are wanted, each of these has to be one too.
abbrev pub IsDirective : Bool → List ℕ → Directive → Type 0
IsDirective false text directive = HasForm false text directive
IsDirective true text directive = HasForm true text directive × HavePatterns directive.fields
