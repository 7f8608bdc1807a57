-- How a text is read, one cut after the other, as the code does it. `laws::grammar` says that this is what Forms and Faults say.
use Rattle.std.specs.List.{AllByRecursion}
use Rattle.std.specs.Prelude.{◌≡◌, ℕ, List, [], ◌∷◌, ◌++◌, ◌==◌, Bool, true, if◌then◌else◌, Option, None, Some, Result, Ok, Err, codes}
use Rattle.trace_base.specs.declared.level.LevelFilter.{LevelFilter}
use Rattle.trace_base.specs.declared.level.LevelFilter.TheVariants.{TRACE}
use Rattle.env_directives.specs.reading.Cuts.{pieces_at, is_among}
use Rattle.env_directives.specs.reading.Forms.{begins_as_directive, unless_empty, directive_of_target, head_alone, level_behind, fields_with_commas, IsSpanName, IsFieldText}
use Rattle.env_directives.specs.reading.Values.{field_of, IsNoPatternField}
use Rattle.env_directives.specs.declared.directive.ParseError.{ParseError}
use Rattle.env_directives.specs.declared.directive.ParseError.TheVariants.{Shape, Level, Field, Pattern, Memory}
use Rattle.env_directives.specs.declared.env.directive.Directive.{Directive}
use Rattle.env_directives.specs.declared.env.field.Match.{Match}

abbrev pub DirectiveRead : Type 0
DirectiveRead = Result Directive ParseError

-- the same directive at a level
abbrev pub at_level : Directive → LevelFilter → Directive
at_level d level = record d { level = level }

-- nothing may stand behind a last comma
unfoldable pub read_nothing_more : Directive → List ℕ → DirectiveRead
read_nothing_more d [] = Ok d
read_nothing_more d (b ∷ bs) = Err Shape

-- behind a level's text
abbrev pub read_behind : Directive → Option ℕ → List ℕ → DirectiveRead
read_behind d None rest = Ok d
read_behind d (Some stop) rest = read_nothing_more d rest

abbrev pub read_leveled : Directive → Option LevelFilter → Option ℕ → List ℕ → DirectiveRead
read_leveled d None stop rest = Err Level
read_leveled d (Some level) stop rest = read_behind (at_level d level) stop rest

-- behind `=`
unfoldable pub read_level : Directive → List ℕ → DirectiveRead
read_level d text = let pieces = pieces_at (codes ",") text in read_leveled d (level_behind pieces.front) pieces.stop pieces.rest

-- behind a bracket
unfoldable pub read_level_if_any : Directive → List ℕ → DirectiveRead
read_level_if_any d [] = Ok d
read_level_if_any d (b ∷ rest) = if b == 61 then read_level d rest else Err Shape

-- behind a closing brace
unfoldable pub read_close : Directive → List ℕ → DirectiveRead
read_close d [] = Err Shape
read_close d (b ∷ rest) = if b == 93 then read_level_if_any d rest else Err Shape

-- fields, and what stands behind their closing brace
abbrev pub FieldsRead : Type 0
FieldsRead = Result (List Match × List ℕ) ParseError

-- the same, with a field more in front
abbrev pub more_fields : Match → FieldsRead → FieldsRead
more_fields field (Ok read) = Ok (field ∷ read.0, read.1)
more_fields field (Err e) = Err e

-- at the end of a field, with what a comma and what a brace goes on to
abbrev pub field_ends : Bool → Option (List ℕ) → ℕ → List ℕ → FieldsRead → FieldsRead
field_ends patterns None stop rest later = Err Field
field_ends patterns (Some field) stop rest later =
    if stop == 125 then Ok (field_of patterns field ∷ [], rest) else more_fields (field_of patterns field) later

-- the fields of a text, of which one has begun
unfoldable pub read_fields : Bool → List ℕ → List ℕ → FieldsRead
read_fields patterns begun [] = Err Shape
read_fields patterns begun (b ∷ bs) =
    if is_among (codes ",}") b then field_ends patterns (unless_empty begun) b bs (read_fields patterns [] bs)
    else read_fields patterns (begun ++ b ∷ []) bs

-- behind the fields
abbrev pub read_fielded : Directive → FieldsRead → DirectiveRead
read_fielded d (Ok read) = read_close (record d { fields = read.0 }) read.1
read_fielded d (Err e) = Err e

-- behind a span's name
abbrev pub read_span : Bool → Directive → List ℕ → Option ℕ → List ℕ → DirectiveRead
read_span patterns d span None rest = Err Shape
read_span patterns d span (Some stop) rest =
    if stop == 93 then read_level_if_any (record d { in_span = Some span }) rest
    else read_fielded (record d { in_span = unless_empty span }) (read_fields patterns [] rest)

-- behind an opening bracket
unfoldable pub read_bracket : Bool → Directive → List ℕ → DirectiveRead
read_bracket patterns d text = let pieces = pieces_at (codes "]{") text in read_span patterns d pieces.front pieces.stop pieces.rest

-- behind a head
abbrev pub read_head : Bool → List ℕ → Option ℕ → List ℕ → DirectiveRead
read_head patterns head None rest = Ok (head_alone head)
read_head patterns head (Some stop) rest =
    if stop == 44 then read_nothing_more (head_alone head) rest else
    if stop == 61 then read_level (directive_of_target head TRACE) rest else
    read_bracket patterns (directive_of_target head TRACE) rest

-- a text without white space at its ends
unfoldable pub read_directive : Bool → List ℕ → DirectiveRead
read_directive patterns text =
    let pieces = pieces_at (codes "=[,") text in
    if begins_as_directive text then read_head patterns pieces.front pieces.stop pieces.rest else Err Shape

-- the fields of a text lead to one whose value is refused as a pattern
pub record LeadsToRefusedPattern (text : List ℕ) : Type 0 where
  pub earlier : List (List ℕ)
  pub field : List ℕ
  pub stop : ℕ
  pub more : List ℕ
  pub parts : AllByRecursion IsFieldText earlier
  pub part : IsFieldText field
  pub stops : is_among (codes ",}") stop ≡ true
  pub whole : text ≡ fields_with_commas earlier ++ (field ++ stop ∷ more)
  pub value : IsNoPatternField field

-- the same, behind a span's name
pub record SpanLeadsToRefusedPattern (text : List ℕ) : Type 0 where
  pub span : List ℕ
  pub more : List ℕ
  pub part : IsSpanName span
  pub whole : text ≡ span ++ (codes "{" ++ more)
  pub leads : LeadsToRefusedPattern more

-- what is answered is what was read, but for want of memory, and for no pattern where patterns are wanted and P holds
abbrev pub AnswersRead : {X Y : Type 0} → (X → Y) → Bool → Type 0 → Result X ParseError → Result Y ParseError → Type 0
AnswersRead view patterns P (Ok x) read = read ≡ Ok (view x)
AnswersRead view patterns P (Err Memory) read = Unit {0}
AnswersRead view patterns P (Err Pattern) read = (patterns ≡ true) × P
AnswersRead view patterns P (Err e) read = read ≡ Err e
