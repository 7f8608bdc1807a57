-- Attributes that stand in a text.
use Rattle.trace_lines.proofs.Common.{Data, array, boolean, nested_value, null, number, object, otel_value_of, refl, string, text_list_of, ◌≡◌}

-- a value that nests is a list, or none of an attribute
pub list_nested : (d : Data) → otel_value_of (nested_value d) ≡ text_list_of (nested_value d)
list_nested null = refl
list_nested (boolean b) = refl
list_nested (number n) = refl
list_nested (string s) = refl
list_nested (array ds) = refl
list_nested (object ms) = refl
