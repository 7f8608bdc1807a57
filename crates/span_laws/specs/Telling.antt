-- What a span's record tells of the span: its id, its times and its attributes.
use Rattle.std.specs.Prelude.{◌≡◌, ℕ, List, ◌++◌, is_some, Option, Some, None}
use Rattle.otel_base.specs.declared.record.Record.{Record}
use Rattle.otel_base.specs.declared.value.KeyValue.{KeyValue}
use Rattle.otel_base.specs.Ids.{ids_or_zeros}
use Rattle.otel_state.specs.Content.{closing_count_attributes, closing_times_attributes}
use Rattle.otel_state.specs.States.{SpanData}
use Rattle.otel_state.specs.Times.{end_of}
use Rattle.span_script.specs.Setups.{Setup}

-- the id of a record's span, and of an open span, 0 before its start
abbrev pub id_of : Record → ℕ
id_of r = r.context.span

abbrev pub id_in_data : Option SpanData → ℕ
id_in_data None = 0
id_in_data (Some span_data) = (ids_or_zeros span_data.own).span

-- It starts with the making, and ends with the last exit, else with the close.
pub record TellsStartAndEnd (made : ℕ) (left : Option ℕ) (closed : ℕ) (r : Record) : Type 0 where
  pub start : r.start ≡ made
  pub end : r.end ≡ end_of left closed

-- The first attributes, those that ops added, in order, and then those of the close: how many events were counted, where
-- events are counted, and the times.
pub record TellsAttributes (setup : Setup) (first more : List KeyValue) (counted : ℕ) (r : Record) : Type 0 where
  pub busy : ℕ
  pub idle : ℕ
  pub told : r.attributes ≡ first ++ more ++ closing_count_attributes (is_some setup.counting) counted ++ closing_times_attributes setup.layer.inactivity busy idle
