-- The measures that a layer over any subscriber keeps.
use Rattle.std.specs.Prelude.{ℕ, List, []}
use Rattle.trace_base.specs.Gate.{WorldValue}
use Rattle.trace_base.specs.Calls.{SubscriberCall, Event}
use Rattle.span_registry.specs.declared.layered.Layered.{Layered}
use Rattle.span_handles.specs.Worlds.{read_subscriber}
use Rattle.otel_metrics.specs.declared.measure.Measure.{Measure}
use Rattle.otel_metrics.specs.Measures.{measures}
use Rattle.otel_metrics.specs.Waiting.{MeasuresWithRoom}

abbrev pub waiting_measures : {S : Type 0} → Layered MeasuresWithRoom S → List Measure
waiting_measures s = s.layer.measures

abbrev pub measures_over : {S : Type 0} → WorldValue (Layered MeasuresWithRoom S) → ℕ → List Measure
measures_over world dispatch = read_subscriber waiting_measures [] world dispatch

-- what a call adds
abbrev pub measures_of_call : SubscriberCall → List Measure
measures_of_call (Event lane at parent site callsite values) = measures callsite values
measures_of_call _ = []
