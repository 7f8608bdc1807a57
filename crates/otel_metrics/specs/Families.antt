-- The kinds of instruments that the name of a field begins with.
use Rattle.std.specs.Prelude.{ℕ, List, Bool, ◌&&◌, true, false, Option, None, Some, is_some, if◌then◌else◌, codes, drop, eqb, length}
use Rattle.std.specs.List.{list_any, starts_with}
use Rattle.trace_base.specs.declared.callsite.Callsite.{Callsite}
use Rattle.trace_base.specs.declared.callsite.Kind.{Kind}
use Rattle.trace_base.specs.declared.callsite.Kind.TheVariants.{Span, Event}
use Rattle.otel_metrics.specs.declared.family.Family.{Family}
use Rattle.otel_metrics.specs.declared.family.Family.TheVariants.{Gauge, MonotonicCounter, Counter, Histogram}

-- what stands behind a front of a text, where it has that front
abbrev pub text_behind : List ℕ → List ℕ → Option (List ℕ)
text_behind front text = if starts_with eqb text front then Some (drop (length front) text) else None

-- the family, where the text has its front, else what else is read
abbrev pub family_or : Family → Option (List ℕ) → Option (Family × List ℕ) → Option (Family × List ℕ)
family_or family None other = other
family_or family (Some rest) other = Some (family, rest)

-- the family that a field's name begins with, and what stands behind it
unfoldable pub family_of : List ℕ → Option (Family × List ℕ)
family_of name = family_or Gauge (text_behind (codes "gauge.") name) (family_or MonotonicCounter (text_behind (codes "monotonic_counter.") name)
    (family_or Counter (text_behind (codes "counter.") name) (family_or Histogram (text_behind (codes "histogram.") name) None)))

abbrev pub is_of_family : List ℕ → Bool
is_of_family name = is_some (family_of name)

abbrev pub is_event : Kind → Bool
is_event Span = false
is_event Event = true

-- a metrics event is one whose callsite declares a field of a family, whatever values are given
abbrev pub is_metrics_event : Callsite → Bool
is_metrics_event c = is_event c.kind && list_any is_of_family c.fields
