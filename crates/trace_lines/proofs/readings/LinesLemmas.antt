-- The value of a line, beside what its reader says of it.
use Rattle.trace_lines.proofs.Common.{Bool, Data, IsUtf8-from_is_utf8, List, None, Some, false, if◌then◌else◌, is_utf8, is_utf8-from_IsUtf8, line_value, read, refl, true, ℕ, ◌≡◌}
use Rattle.std.specs.Str.{IsUtf8}

pub read_value : (line : List ℕ) (d : Data) → IsUtf8 line → read line ≡ Some d → line_value line ≡ Some d
read_value line d text is = rw (is_utf8-from_IsUtf8 line text) is

no_value_if : (line : List ℕ) (b : Bool) → is_utf8 line ≡ b → (IsUtf8 line → read line ≡ None) → (if b then read line else None) ≡ None
no_value_if line true is none = none (IsUtf8-from_is_utf8 line is)
no_value_if line false is none = refl

pub no_value : (line : List ℕ) → (IsUtf8 line → read line ≡ None) → line_value line ≡ None
no_value line none = no_value_if line _ refl none
