-- The measures that wait in a layer, and what the hooks of one do.
use Rattle.std.specs.Prelude.{◌≡◌, ℕ, List, [], ◌++◌, if◌then◌else◌, length, ◌≤◌}
use Rattle.trace_base.specs.declared.callsite.Callsite.{Callsite}
use Rattle.trace_base.specs.declared.subscriber.Interest.{Interest}
use Rattle.trace_base.specs.declared.subscriber.Interest.TheVariants.{Always, Never}
use Rattle.trace_base.specs.layers.Hooks.{Hook, OnEvent, Preparation, ForEvent}
use Rattle.otel_metrics.specs.declared.measure.Measure.{Measure}
use Rattle.otel_metrics.specs.Families.{is_metrics_event}
use Rattle.otel_metrics.specs.Measures.{measures}

-- what a filter of metrics makes of a callsite
abbrev pub interest_in : Callsite → Interest
interest_in c = if is_metrics_event c then Always else Never

-- the measures that wait, oldest first, and the room for more
pub record MeasuresWithRoom : Type 0 where
  pub measures : List Measure
  pub room : ℕ

-- what a hook adds: an event its measures
abbrev pub measures_of_hook : Hook → List Measure
measures_of_hook (OnEvent reached lane at callsite values) = measures callsite values
measures_of_hook _ = []

-- room for an event's measures, which were made before
abbrev pub IsReadyEvent : Preparation → List Measure → ℕ → Type 0
IsReadyEvent (ForEvent reached callsite values) made room = (made ≡ measures callsite values) × (length made ≤ room)
IsReadyEvent _ made room = Unit {0}

-- the measures of a hook stand behind those that wait
abbrev pub AddsMeasuresOf : MeasuresWithRoom → Hook → MeasuresWithRoom → Type 0
AddsMeasuresOf s hook t = t.measures ≡ s.measures ++ measures_of_hook hook
