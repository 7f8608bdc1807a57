-- What the text of a field asks for: a name, and a value that it has to have.
use Rattle.std.specs.Prelude.{ℕ, ℤ, pos, negsuc, List, ◌^◌, Bool, true, false, if◌then◌else◌, Option, None, Some, codes, nat_lt, bytes_eq, unwrap_or, ◌≡◌, IsSome, IfSome}
use Rattle.std.specs.List.{AllByRecursion}
use Rattle.std.specs.Option.{option_and_then, option_map, option_or}
use Rattle.std.specs.Str.Parse.{without_leading_sign, signed_digits_value}
use Rattle.trace_base.specs.words.LevelWords.{digits_number, decimal_value}
use Rattle.env_directives.specs.reading.Cuts.{pieces_at}
use Rattle.env_directives.specs.Patterns.{IsPattern, IsNoPattern}
use Rattle.env_directives.specs.declared.directive.ParseError.{ParseError}
use Rattle.env_directives.specs.declared.directive.ParseError.TheVariants.{Shape, Level, Field, Pattern, Equals, Fields, Memory}
use Rattle.env_directives.specs.declared.env.field.Match.{Match}
use Rattle.env_directives.specs.declared.env.field.ValueMatch.{ValueMatch}
use Rattle.env_directives.specs.declared.env.field.ValueMatch.TheVariants.{Bool as Truth, U64, I64, Pat, Debug}

-- the number below 2^64 that a text writes, behind a plus or not
unfoldable pub u64_of : List ℕ → Option ℕ
u64_of text = option_and_then (λ n. if nat_lt n (2 ^ 64) then Some n else None) (decimal_value text)

-- whether a number is from -2^63 to 2^63 - 1
abbrev pub fits_i64 : ℤ → Bool
fits_i64 (pos n) = nat_lt n (2 ^ 63)
fits_i64 (negsuc n) = nat_lt n (2 ^ 63)

-- the number in that range that a text writes, behind a sign or not
unfoldable pub i64_of : List ℕ → Option ℤ
i64_of text = let z = signed_digits_value 10 text in
    option_and_then (λ _. if fits_i64 z then Some z else None) (digits_number (without_leading_sign text))

-- a text as a value: a pattern where those are wanted, else a text that has to be met as it stands
abbrev pub text_value : Bool → List ℕ → ValueMatch
text_value true text = Pat text
text_value false text = Debug text

-- the truth value that a text names
abbrev pub truth_of : List ℕ → Option Bool
truth_of text = if bytes_eq text (codes "true") then Some true else if bytes_eq text (codes "false") then Some false else None

-- the truth value or number that a text writes; a number that is both a u64 and an i64 is a u64
unfoldable pub plain_value : List ℕ → Option ValueMatch
plain_value text = option_or (option_map Truth (truth_of text)) (option_or (option_map U64 (u64_of text)) (option_map I64 (i64_of text)))

-- the value that a text writes
abbrev pub value_of : Bool → List ℕ → ValueMatch
value_of patterns text = unwrap_or (plain_value text) (text_value patterns text)

-- a field: its name, and the value between its first and its second `=`; what is behind a second one is dropped
unfoldable pub field_of : Bool → List ℕ → Match
field_of patterns text = let pieces = pieces_at (codes "=") text in
    record { name = pieces.front; value = option_map (λ _. value_of patterns (pieces_at (codes "=") pieces.rest).front) pieces.stop }

-- a value is a pattern only if its text is one
abbrev pub IsPatternIfAny : ValueMatch → Type 0
IsPatternIfAny (Pat text) = IsPattern text
IsPatternIfAny (Debug text) = Unit {0}
IsPatternIfAny (Truth truth) = Unit {0}
IsPatternIfAny (U64 number) = Unit {0}
IsPatternIfAny (I64 number) = Unit {0}

-- the patterns that fields ask for are patterns
abbrev pub HavePatterns : List Match → Type 0
HavePatterns fields = AllByRecursion (λ (field : Match). IfSome field.value IsPatternIfAny) fields

-- a text is no truth value and no number, and is refused as a pattern
abbrev pub IsNoPatternValue : List ℕ → Type 0
IsNoPatternValue text = (plain_value text ≡ None) × IsNoPattern text

-- a field has a value, which is refused as a pattern
abbrev pub IsNoPatternField : List ℕ → Type 0
IsNoPatternField text = let pieces = pieces_at (codes "=") text in
    IsSome pieces.stop × IsNoPatternValue (pieces_at (codes "=") pieces.rest).front

-- how reading a value may fail: for want of memory, or, where patterns are wanted and P holds, because it is no pattern
abbrev pub MayFail : Bool → Type 0 → ParseError → Type 0
MayFail patterns P Memory = Unit {0}
MayFail patterns P Pattern = (patterns ≡ true) × P
MayFail patterns P Shape = ⊥
MayFail patterns P Level = ⊥
MayFail patterns P Field = ⊥
MayFail patterns P Equals = ⊥
MayFail patterns P (Fields many) = ⊥
