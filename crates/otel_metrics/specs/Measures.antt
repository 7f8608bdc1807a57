-- What the values of an event are: numbers for instruments, attributes, or nothing.
use Rattle.std.specs.Prelude.{ℕ, ℤ, pos, negsuc, List, [], Option, None, Some, if◌then◌else◌, slice_get, nat_lt, ◌^◌, map, flat_map, option_map}
use Rattle.std.specs.Option.{option_to_list, option_map_or}
use Rattle.std.specs.Fmt.{decimal, signed_decimal}
use Rattle.otel_base.specs.declared.value.KeyValue.{KeyValue}
use Rattle.otel_base.specs.declared.value.OtelValue.{OtelValue}
use Rattle.otel_base.specs.declared.value.OtelValue.TheVariants as told
use Rattle.trace_base.specs.declared.callsite.Callsite.{Callsite}
use Rattle.trace_base.specs.declared.field.Value.{Value}
use Rattle.trace_base.specs.declared.field.Value.TheVariants as given
use Rattle.trace_base.specs.declared.field.ValueSet.{ValueSet}
use Rattle.otel_metrics.specs.declared.family.Family.{Family}
use Rattle.otel_metrics.specs.declared.family.Family.TheVariants.{Gauge, MonotonicCounter, Counter, Histogram}
use Rattle.otel_metrics.specs.declared.measure.Measure.{Measure}
use Rattle.otel_metrics.specs.declared.measure.MetricKind.{MetricKind}
use Rattle.otel_metrics.specs.declared.measure.MetricKind.TheVariants.{CounterU64, UpDownCounterI64, HistogramU64, GaugeU64, GaugeI64}
use Rattle.otel_metrics.specs.declared.visitor.Number.{Number}
use Rattle.otel_metrics.specs.Families.{family_of, is_metrics_event}

-- whether a number is one of 63 bits
abbrev pub if_fits_i64 : {A : Type 0} → ℕ → A → Option A
if_fits_i64 n a = if nat_lt n (2 ^ 63) then Some a else None

-- ---- numbers

-- what a number from 0 on is to an instrument of a family
abbrev pub natural_as_number : Family → ℕ → Option (MetricKind × ℤ)
natural_as_number Gauge n = Some (GaugeU64, pos n)
natural_as_number MonotonicCounter n = Some (CounterU64, pos n)
natural_as_number Counter n = if_fits_i64 n (UpDownCounterI64, pos n)
natural_as_number Histogram n = Some (HistogramU64, pos n)

-- what a signed number is to one: a monotonic counter doesn't fall, and no signed number is one of a histogram
abbrev pub signed_as_number : Family → ℤ → Option (MetricKind × ℤ)
signed_as_number Gauge z = Some (GaugeI64, z)
signed_as_number MonotonicCounter (pos n) = Some (CounterU64, pos n)
signed_as_number MonotonicCounter (negsuc n) = None
signed_as_number Counter z = Some (UpDownCounterI64, z)
signed_as_number Histogram z = None

abbrev pub value_as_number : Family → Value → Option (MetricKind × ℤ)
value_as_number family (given.U64 n) = natural_as_number family n
value_as_number family (given.I64 z) = signed_as_number family z
value_as_number family _ = None

abbrev pub number_named : List ℕ → MetricKind × ℤ → Number
number_named name n = record { kind = n.0; name = name; value = n.1 }

-- the number of a field of a family
abbrev pub number_of : Option (Family × List ℕ) → Value → Option Number
number_of None value = None
number_of (Some family) value = option_map (number_named family.1) (value_as_number family.0 value)

-- ---- attributes

-- a number is an attribute where no instrument takes it for its name
abbrev pub natural_as_attribute : Option Family → ℕ → Option OtelValue
natural_as_attribute None n = if_fits_i64 n (told.I64 (pos n))
natural_as_attribute (Some family) n = None

abbrev pub signed_as_attribute : Option Family → ℤ → Option OtelValue
signed_as_attribute None z = Some (told.I64 z)
signed_as_attribute (Some Histogram) z = Some (told.I64 z)
signed_as_attribute (Some family) z = None

-- all else is an attribute as it is, or by its text
abbrev pub value_as_attribute : Option Family → Value → Option OtelValue
value_as_attribute family (given.U64 n) = natural_as_attribute family n
value_as_attribute family (given.I64 z) = signed_as_attribute family z
value_as_attribute family (given.Bool b) = Some (told.Bool b)
value_as_attribute family (given.Str text) = Some (told.Str text)
value_as_attribute family (given.Debug text) = Some (told.Str text)
value_as_attribute family (given.I128 z) = Some (told.Str (signed_decimal z))
value_as_attribute family (given.U128 n) = Some (told.Str (decimal n))
value_as_attribute family (given.Error message chain) = Some (told.Str message)

abbrev pub attribute_named : List ℕ → OtelValue → KeyValue
attribute_named name value = record { key = name; value = value }

abbrev pub attribute_in : Option Family → List ℕ → Value → Option KeyValue
attribute_in family name value = option_map (attribute_named name) (value_as_attribute family value)

-- the attribute of a field, under its whole name
abbrev pub attribute_of : List ℕ → Value → Option KeyValue
attribute_of name value = attribute_in (option_map (λ f. f.0) (family_of name)) name value

-- ---- events

-- what the value at a place of a callsite's fields is; one at a place past the fields is nothing
abbrev pub at_place : {A : Type 0} → (List ℕ → Value → Option A) → Callsite → ℕ × Value → List A
at_place of c pair = option_map_or (λ name. option_to_list (of name pair.1)) (slice_get c.fields pair.0) []

abbrev pub numbers_at : Callsite → ℕ × Value → List Number
numbers_at = at_place (λ name value. number_of (family_of name) value)

abbrev pub attributes_at : Callsite → ℕ × Value → List KeyValue
attributes_at = at_place attribute_of

-- the numbers and the attributes of an event, in the order of its values
abbrev pub numbers : Callsite → ValueSet → List Number
numbers c values = flat_map (numbers_at c) values.pairs

abbrev pub attributes : Callsite → ValueSet → List KeyValue
attributes c values = flat_map (attributes_at c) values.pairs

-- the measures: each number, with all attributes of the event
abbrev pub measure_of : List KeyValue → Number → Measure
measure_of attributes n = record { kind = n.kind; name = n.name; value = n.value; attributes = attributes }

abbrev pub measures : Callsite → ValueSet → List Measure
measures c values = if is_metrics_event c then map (measure_of (attributes c values)) (numbers c values) else []
