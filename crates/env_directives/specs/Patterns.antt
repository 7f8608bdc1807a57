-- Patterns for whole texts.
use Rattle.std.specs.Prelude.{◌≡◌, ◌≢◌, ◌⊎◌, ℕ, List, ◌++◌, Bool, false, codes, chars, is_some}
use Rattle.std.specs.Option.{option_map_or}
use Rattle.regex.specs.Failures.{IsRightKind}
use Rattle.regex.specs.Patterns.{default_config, find_str}
use Rattle.regex.specs.Sources.{IsRefusal}
use Rattle.regex.specs.declared.error.Error.{Error}
use Rattle.regex.specs.declared.error.Error.TheVariants.{OutOfMemory}
use Rattle.regex_syntax.specs.Grammar.{read}
use Rattle.regex.specs.Strings.{regex_source, regex_config, IsReadFromSource}
use Rattle.regex.specs.declared.string.regex.Regex.{Regex}

-- the pattern that matches from the start of a text to its end what another matches somewhere
abbrev pub whole_pattern : List ℕ → List ℕ
whole_pattern pattern = codes "\\A(?:" ++ (pattern ++ codes ")\\z")

-- a regular expression is what a pattern for whole texts was read as
pub record IsCompiled (pattern : List ℕ) (regex : Regex) : Type 0 where
  pub source : regex_source regex ≡ whole_pattern pattern
  pub config : regex_config regex ≡ default_config
  pub read : IsReadFromSource regex

-- `regex` reads a pattern
pub record IsReadable (pattern : List ℕ) : Type 0 where
  pub regex : Regex
  pub source : regex_source regex ≡ pattern
  pub config : regex_config regex ≡ default_config
  pub read : IsReadFromSource regex

-- a text is a pattern, by itself and between the start and the end of a text
abbrev pub IsPattern : List ℕ → Type 0
IsPattern text = IsReadable text × IsReadable (whole_pattern text)

-- `regex` refuses a pattern, for another cause than want of memory
abbrev pub IsRefusedByRegex : List ℕ → Type 0
IsRefusedByRegex pattern = (why : Error) × (why ≢ OutOfMemory) × IsRefusal default_config pattern why × IsRightKind default_config pattern why

-- a text is refused as a pattern, by itself or between the start and the end of a text
abbrev pub IsNoPattern : List ℕ → Type 0
IsNoPattern text = IsRefusedByRegex text ⊎ IsRefusedByRegex (whole_pattern text)

-- whether a pattern matches the whole of a text: whether what `regex` reads between start and end is found there
unfoldable pub is_matched : List ℕ → List ℕ → Bool
is_matched pattern text = option_map_or (λ found. is_some (find_str found.0.value text 0)) (read default_config (chars (whole_pattern pattern))) false
