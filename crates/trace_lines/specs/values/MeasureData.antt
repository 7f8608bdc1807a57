-- The JSON of a measure.
use Rattle.std.specs.Prelude.{ℕ, List, [], ◌∷◌, codes}
use Rattle.serde_json.specs.Data.{Data, number, string, object}
use Rattle.serde_json.specs.Find.{of_integer}
use Rattle.otel_metrics.specs.declared.measure.Measure.{Measure}
use Rattle.otel_metrics.specs.declared.measure.MetricKind.{MetricKind}
use Rattle.otel_metrics.specs.declared.measure.MetricKind.TheVariants.{CounterU64, UpDownCounterI64, HistogramU64, GaugeU64, GaugeI64}
use Rattle.trace_lines.specs.reading.Object.{by_name, whole_number}
use Rattle.trace_lines.specs.values.RecordData.{attributes_data}

-- the name of a kind of instruments
abbrev pub instrument_name : MetricKind → List ℕ
instrument_name CounterU64 = codes "counter_u64"
instrument_name UpDownCounterI64 = codes "up_down_counter_i64"
instrument_name HistogramU64 = codes "histogram_u64"
instrument_name GaugeU64 = codes "gauge_u64"
instrument_name GaugeI64 = codes "gauge_i64"

-- a measure of the event on a line: what its instrument is told, and the event's attributes
abbrev pub measure_data : ℕ → Measure → Data
measure_data line measure = object (by_name (
    (codes "line", whole_number line)
    ∷ (codes "instrument", string (instrument_name measure.kind))
    ∷ (codes "name", string measure.name)
    ∷ (codes "value", number (of_integer measure.value))
    ∷ (codes "attributes", attributes_data measure.attributes) ∷ []))
