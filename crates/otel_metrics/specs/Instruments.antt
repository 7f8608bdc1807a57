-- Instruments, each known from its first use on.
use Rattle.std.specs.Prelude.{ℕ, List, [], ◌∷◌, ◌++◌, Bool, true, false, ◌&&◌, Option, if◌then◌else◌, bytes_eq, position, is_some}
use Rattle.otel_metrics.specs.declared.measure.Measure.{Measure}
use Rattle.otel_metrics.specs.declared.measure.MetricKind.{MetricKind}
use Rattle.otel_metrics.specs.declared.measure.MetricKind.TheVariants.{CounterU64, UpDownCounterI64, HistogramU64, GaugeU64, GaugeI64}
use Rattle.otel_metrics.specs.declared.instruments.Instrument.{Instrument}

abbrev pub same_kind : MetricKind → MetricKind → Bool
same_kind CounterU64 CounterU64 = true
same_kind UpDownCounterI64 UpDownCounterI64 = true
same_kind HistogramU64 HistogramU64 = true
same_kind GaugeU64 GaugeU64 = true
same_kind GaugeI64 GaugeI64 = true
same_kind _ _ = false

abbrev pub instrument_of : Measure → Instrument
instrument_of m = record { kind = m.kind; name = m.name }

abbrev pub is_instrument_of : Measure → Instrument → Bool
is_instrument_of m instrument = same_kind instrument.kind m.kind && bytes_eq instrument.name m.name

-- the place of a measure's instrument, if it is known
abbrev pub place_of : Measure → List Instrument → Option ℕ
place_of m known = position (is_instrument_of m) known

-- the instruments with a measure's
abbrev pub with_instrument : Measure → List Instrument → List Instrument
with_instrument m known = if is_some (place_of m known) then known else known ++ instrument_of m ∷ []
