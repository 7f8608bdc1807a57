-- Which values meet what a directive asks of a field.
use Rattle.std.specs.Prelude.{ℕ, ℤ, pos, List, Bool, true, false, not, ◌==◌, Option, None, Some, bytes_eq}
use Rattle.std.specs.Fmt.{decimal, signed_decimal}
use Rattle.std.specs.Ordering.{int_eq}
use Rattle.trace_base.specs.words.Quote.{in_quotes}
use Rattle.trace_base.specs.declared.field.Value.{Value}
use Rattle.trace_base.specs.declared.field.Value.TheVariants as given
use Rattle.env_directives.specs.declared.env.field.ValueMatch.{ValueMatch}
use Rattle.env_directives.specs.declared.env.field.ValueMatch.TheVariants.{Bool as Truth, U64, I64, Pat, Debug}
use Rattle.env_directives.specs.Patterns.{is_matched}

-- whether a value is the truth value that is asked for
abbrev pub meets_truth : Bool → Value → Bool
meets_truth true (given.Bool truth) = truth
meets_truth false (given.Bool truth) = not truth
meets_truth wanted other = false

-- whether a value is the number that is asked for, which isn't negative
abbrev pub meets_u64 : ℕ → Value → Bool
meets_u64 wanted (given.U64 number) = number == wanted
meets_u64 wanted (given.I64 number) = int_eq number (pos wanted)
meets_u64 wanted other = false

abbrev pub meets_i64 : ℤ → Value → Bool
meets_i64 wanted (given.I64 number) = int_eq number wanted
meets_i64 wanted other = false

-- the debug text of a value that is no truth value and no number of 64 bits: an error has that of its message
abbrev pub matched_debug_text : Value → Option (List ℕ)
matched_debug_text (given.Str text) = Some (in_quotes text)
matched_debug_text (given.Debug text) = Some text
matched_debug_text (given.Error message chain) = Some message
matched_debug_text (given.I128 number) = Some (signed_decimal number)
matched_debug_text (given.U128 number) = Some (decimal number)
matched_debug_text other = None

-- a fixed text is met by a value of that debug text
abbrev pub is_equal_if_any : List ℕ → Option (List ℕ) → Bool
is_equal_if_any wanted None = false
is_equal_if_any wanted (Some text) = bytes_eq wanted text

-- what patterns are held against: a text as it stands, and the debug text of other values
abbrev pub matched_text : Value → Option (List ℕ)
matched_text (given.Str text) = Some text
matched_text value = matched_debug_text value

-- a pattern is met by a value that has a text which it matches
abbrev pub is_matched_if_any : List ℕ → Option (List ℕ) → Bool
is_matched_if_any pattern None = false
is_matched_if_any pattern (Some text) = is_matched pattern text

-- whether a value meets what is asked
abbrev pub meets : ValueMatch → Value → Bool
meets (Truth wanted) value = meets_truth wanted value
meets (U64 wanted) value = meets_u64 wanted value
meets (I64 wanted) value = meets_i64 wanted value
meets (Debug wanted) value = is_equal_if_any wanted (matched_debug_text value)
meets (Pat pattern) value = is_matched_if_any pattern (matched_text value)
