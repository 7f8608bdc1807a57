-- What requests come to: the history of their effects, and what that is in numbers.
use Rattle.std.specs.Prelude.{ℕ, ◌+◌, ℤ, pos, negsuc, List, [], ◌∷◌, ◌++◌, length, Option, Some, None, Ok, Err, if◌then◌else◌, codes, bytes_eq}
use Rattle.std.specs.List.{sum_by}
use Rattle.otel_base.specs.declared.record.Record.{Record}
use Rattle.otel_base.specs.declared.value.KeyValue.{KeyValue}
use Rattle.otel_base.specs.declared.value.OtelValue.{OtelValue}
use Rattle.otel_base.specs.declared.value.OtelValue.TheVariants as otel
use Rattle.span_script.specs.declared.request.Request.{Request}
use Rattle.span_script.specs.Setups.{Setup}
use Rattle.span_script.specs.Tables.{History, Effect, tables}
use Rattle.span_script.specs.calls.Here.{Resolved}
use Rattle.span_script.specs.Effects.{effect_of}
use Rattle.span_script.specs.calls.Spans.{open_spans}
use Rattle.span_script.specs.Outcomes.{records_of_history}
use Rattle.serde_json.specs.Data.{Data, object}
use Rattle.trace_lines.specs.reading.Object.{by_name, whole_number, line_of}
use Rattle.trace_lines.specs.declared.write.summary.Summary.{Summary}

-- goes on with an effect, if there is one
abbrev pub history_unless_refused : Resolved → (Effect → Option History) → Option History
history_unless_refused (Ok effect) go = go effect
history_unless_refused (Err why) go = None

-- the history that requests make of one, if each of them has an effect
abbrev pub history_after : Setup → History → List Request → Option History
history_after setup h [] = Some h
history_after setup h (request ∷ requests) =
    history_unless_refused (effect_of setup (tables setup h) request) (λ effect. history_after setup (h ++ effect ∷ []) requests)

-- ---- the summary

abbrev pub natural_or_zero : ℤ → ℕ
natural_or_zero (pos n) = n
natural_or_zero (negsuc n) = 0

abbrev pub number_in : OtelValue → ℕ
number_in (otel.Bool b) = 0
number_in (otel.I64 z) = natural_or_zero z
number_in (otel.Str s) = 0
number_in (otel.List texts) = 0

-- the nanoseconds that an attribute says a span was entered for
abbrev pub busy_in : KeyValue → ℕ
busy_in attribute = if bytes_eq attribute.key (codes "busy_ns") then number_in attribute.value else 0

abbrev pub busy_of : Record → ℕ
busy_of r = sum_by busy_in r.attributes

abbrev pub event_count : Record → ℕ
event_count r = length r.events

-- A history is written as a reply for each request, a line for each record, and the end line.
abbrev pub summary_of : Setup → History → Summary
summary_of setup h = record {
  busy = sum_by busy_of (records_of_history setup h);
  events = sum_by event_count (records_of_history setup h);
  lines = length h + length (records_of_history setup h) + 1;
  open_spans = open_spans (tables setup h);
  records = length (records_of_history setup h);
  requests = length h;
}

-- the line of a summary
abbrev pub summary_data : Summary → Data
summary_data summary = object (by_name (
    (codes "busy", whole_number summary.busy)
    ∷ (codes "events", whole_number summary.events)
    ∷ (codes "lines", whole_number summary.lines)
    ∷ (codes "open", whole_number summary.open_spans)
    ∷ (codes "records", whole_number summary.records)
    ∷ (codes "requests", whole_number summary.requests) ∷ []))

unfoldable pub summary_text : Summary → List ℕ
summary_text summary = line_of (summary_data summary)
