-- Busy times, and what trees need of a finished span.
use Rattle.std.specs.Prelude.{ℕ, pos, negsuc, Bool, List, [], ◌∷◌, codes, bytes_eq}
use Rattle.std.specs.List.{filter}
use Rattle.otel_base.specs.declared.value.KeyValue.{KeyValue}
use Rattle.otel_base.specs.declared.value.OtelValue.{OtelValue}
use Rattle.otel_base.specs.declared.value.OtelValue.TheVariants as value
use Rattle.otel_base.specs.declared.record.Record.{Record}
use Rattle.trace_tree.specs.declared.span.TreeSpan.{TreeSpan}

-- a whole number that isn't negative as it is, and anything else as 0
abbrev pub nanoseconds_of : OtelValue → ℕ
nanoseconds_of (value.I64 (pos n)) = n
nanoseconds_of (value.I64 (negsuc n)) = 0
nanoseconds_of (value.Bool b) = 0
nanoseconds_of (value.Str t) = 0
nanoseconds_of (value.List ts) = 0

-- whether an attribute is named busy_ns
abbrev pub is_busy_attribute : KeyValue → Bool
is_busy_attribute a = bytes_eq a.key (codes "busy_ns")

-- what the last one is worth, or n where there is none
abbrev pub last_nanoseconds : ℕ → List KeyValue → ℕ
last_nanoseconds n [] = n
last_nanoseconds n (a ∷ rest) = last_nanoseconds (nanoseconds_of a.value) rest

-- what the last attribute named busy_ns is worth, 0 where there is none
abbrev pub busy_attribute_of : Record → ℕ
busy_attribute_of r = last_nanoseconds 0 (filter is_busy_attribute r.attributes)

-- what trees need of a finished span
abbrev pub tree_span : Record → TreeSpan
tree_span r = record { trace = r.context.trace; span = r.context.span; parent = r.parent; name = r.name; busy = busy_attribute_of r }
