-- Which level a text names: by a word in any case of ASCII, or by a number.
use Rattle.std.specs.Prelude.{◌≡◌, ℕ, List, [], ◌∷◌, ◌==◌, ◌&&◌, if◌then◌else◌, Option, None, Some, Result, Ok, find, length, nat_lt, MatchOption, IsErr}
use Rattle.std.specs.Option.{option_or, option_and_then}
use Rattle.std.specs.Str.{str_eq_ignore_ascii_case, all_ascii_digits}
use Rattle.std.specs.Str.Parse.{without_leading_plus, digits_value}
use Rattle.trace_base.specs.declared.level.Level.{Level}
use Rattle.trace_base.specs.declared.level.LevelFilter.{LevelFilter}
use Rattle.trace_base.specs.declared.level.LevelFilter.TheVariants as filter
use Rattle.trace_base.specs.words.Level.{greatest_verbosity, level_filter_text, level_of_filter}

-- every filter, from the one that lets nothing through
abbrev pub all_level_filters : List LevelFilter
all_level_filters = filter.OFF ∷ filter.ERROR ∷ filter.WARN ∷ filter.INFO ∷ filter.DEBUG ∷ filter.TRACE ∷ []

-- the filter whose text this is, in any case
unfoldable pub filter_of_word : List ℕ → Option LevelFilter
filter_of_word text = find (λ f. str_eq_ignore_ascii_case (level_filter_text f) text) all_level_filters

-- the number that one decimal digit or more writes
unfoldable pub digits_number : List ℕ → Option ℕ
digits_number digits = if nat_lt 0 (length digits) && all_ascii_digits digits then Some (digits_value 10 digits) else None

-- the same, behind a plus or not
abbrev pub decimal_value : List ℕ → Option ℕ
decimal_value text = digits_number (without_leading_plus text)

-- the filter that allows just this verbosity
unfoldable pub filter_of_number : ℕ → Option LevelFilter
filter_of_number n = find (λ f. greatest_verbosity f == n) all_level_filters

-- the filter that a word or a number names
unfoldable pub named_level_filter : List ℕ → Option LevelFilter
named_level_filter text = option_or (filter_of_word text) (option_and_then filter_of_number (decimal_value text))

-- the filter that a text reads as, ERROR where it is empty
abbrev pub level_filter_of : List ℕ → Option LevelFilter
level_filter_of [] = Some filter.ERROR
level_filter_of (b ∷ bs) = named_level_filter (b ∷ bs)

-- the level that a text reads as
abbrev pub level_of : List ℕ → Option Level
level_of text = option_and_then level_of_filter (named_level_filter text)

-- r is the value that is read, and an error exactly where there is none
abbrev pub IsReadAs : {X E : Type 0} → Option X → Result X E → Type 0
IsReadAs read r = MatchOption read (IsErr r) (λ x. r ≡ Ok x)
