-- The value of each attribute, status and time is read as it.
use Rattle.trace_lines.proofs.Common.{AreAttributesInRange, IsOtelValueInRange, LAST_MOMENT, List, Some, [], ap, arith, attribute_data, attribute_spelled, attribute_value, each, error_status_form, if_at_most, items, key_value, nat_tests, negsuc, option_and_then, option_map, otel_value_of, pos, refl, status_data, status_spelled, ℕ, ◌∙◌, ◌∷◌, ◌≡◌, ◌≤◌}
use Rattle.otel_base.specs.declared.status.Status.{Status}
use Rattle.otel_base.specs.declared.status.Status.TheVariants as status
use Rattle.otel_base.specs.declared.value.KeyValue.{KeyValue}
use Rattle.otel_base.specs.declared.value.OtelValue.{OtelValue}
use Rattle.otel_base.specs.declared.value.OtelValue.TheVariants as otel
use Rattle.trace_lines.proofs.readings.FieldsLemmas.{texts_read, small_number}

pub otel_read : (v : OtelValue) → IsOtelValueInRange v → otel_value_of (attribute_value v) ≡ Some v
otel_read (otel.Bool b) is = refl
otel_read (otel.I64 (pos n)) is = rw (small_number n is) refl
otel_read (otel.I64 (negsuc n)) is = refl
otel_read (otel.Str s) is = refl
otel_read (otel.List texts) is = rw (texts_read texts) refl

attribute_read : (attribute : KeyValue) → IsOtelValueInRange attribute.value → attribute_spelled (attribute_data attribute) ≡ Some attribute
attribute_read attribute is = ap (λ o. option_map key_value (option_map (λ v. (attribute.key, v)) o)) (otel_read attribute.value is)

pub attributes_read : (attributes : List KeyValue) → AreAttributesInRange attributes → each attribute_spelled (items attribute_data attributes) ≡ Some attributes
attributes_read [] all = refl
attributes_read (a ∷ attributes) all =
    ap (λ o. option_and_then (λ a. option_map (λ more. a ∷ more) (each attribute_spelled (items attribute_data attributes))) o) (attribute_read a all.0)
    ∙ ap (option_map (λ more. a ∷ more)) (attributes_read attributes all.1)

pub status_read : (written : Status) → status_spelled (status_data written) ≡ Some written
unfolding error_status_form
status_read status.Unset = refl
status_read (status.Error description) = refl
status_read status.Ok = refl

pub time_read : (time : ℕ) → time ≤ LAST_MOMENT → if_at_most LAST_MOMENT time ≡ Some time
time_read time most = grind (arith, nat_tests, most)
