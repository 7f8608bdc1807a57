-- Why a text is no directive. Without patterns it has one fault, the first from the left; where patterns are wanted, a text
-- with a refused value may also have another fault further right, and either may be told.
use Rattle.std.specs.Prelude.{◌≡◌, ℕ, List, [], ◌∷◌, ◌++◌, Bool, true, None, codes}
use Rattle.env_directives.specs.reading.Cuts.{is_among}
use Rattle.env_directives.specs.reading.Forms.{begins_as_directive, Front, front_text, IsDirectiveFront, IsLevelText, level_behind, text_up_to_fields, IsOpened, IsFieldText, HasForm}
use Rattle.env_directives.specs.reading.Values.{IsNoPatternField}
use Rattle.env_directives.specs.declared.directive.ParseError.{ParseError}
use Rattle.env_directives.specs.declared.directive.ParseError.TheVariants.{Shape, Level, Field, Pattern, Equals, Fields, Memory}
use Rattle.env_directives.specs.declared.env.directive.Directive.{Directive}

-- nothing, or a comma and anything behind it
abbrev pub IsEnd : List ℕ → Type 0
IsEnd [] = Unit {0}
IsEnd (b ∷ bs) = b ≡ 44

-- behind a front and its `=` stands a text, up to the end or a comma, that is no level
pub record HasBadLevel (text : List ℕ) : Type 0 where
  pub start : begins_as_directive text ≡ true
  pub front : Front
  pub level : List ℕ
  pub more : List ℕ
  pub parts : IsDirectiveFront front
  pub level_text : IsLevelText level
  pub ends : IsEnd more
  pub whole : text ≡ front_text front ++ (codes "=" ++ (level ++ more))
  pub unread : level_behind level ≡ None

-- among the fields, where one should begin, it ends
pub record HasEmptyField (text : List ℕ) : Type 0 where
  pub start : begins_as_directive text ≡ true
  pub head : List ℕ
  pub span : List ℕ
  pub earlier : List (List ℕ)
  pub stop : ℕ
  pub more : List ℕ
  pub parts : IsOpened head span earlier
  pub stops : is_among (codes ",}") stop ≡ true
  pub whole : text ≡ text_up_to_fields head span earlier (stop ∷ more)

-- the value of some field is a text that is refused as a pattern
pub record HasRefusedPattern (text : List ℕ) : Type 0 where
  pub start : begins_as_directive text ≡ true
  pub head : List ℕ
  pub span : List ℕ
  pub earlier : List (List ℕ)
  pub field : List ℕ
  pub stop : ℕ
  pub more : List ℕ
  pub parts : IsOpened head span earlier
  pub part : IsFieldText field
  pub stops : is_among (codes ",}") stop ≡ true
  pub whole : text ≡ text_up_to_fields head span earlier (field ++ stop ∷ more)
  pub value : IsNoPatternField field

-- what each fault says of a text; `Shape` is told where the text has no form and no other fault
abbrev pub HasFault : Bool → List ℕ → ParseError → Type 0
HasFault patterns text Shape = ((directive : Directive) → ¬ HasForm patterns text directive) × ¬ HasBadLevel text × ¬ HasEmptyField text
HasFault patterns text Level = HasBadLevel text
HasFault patterns text Field = HasEmptyField text
HasFault patterns text Pattern = (patterns ≡ true) × HasRefusedPattern text
HasFault patterns text Equals = ⊥
HasFault patterns text (Fields many) = ⊥
HasFault patterns text Memory = Unit {0}
