-- What a summary counts of a text that was written.
use Rattle.std.specs.Prelude.{◌≡◌, ℕ, List, ◌++◌, flat_map, length}
use Rattle.std.specs.List.{range_with_len, sum_by}
use Rattle.otel_base.specs.declared.record.Record.{Record}
use Rattle.span_script.specs.declared.reply.Reply.{Reply}
use Rattle.trace_lines.specs.declared.write.summary.Summary.{Summary}
use Rattle.trace_lines.specs.Lines.{lines_of}
use Rattle.trace_lines.specs.Replay.{busy_of, event_count}
use Rattle.trace_lines.specs.text.Texts.{end_text}
use Rattle.trace_laws.specs.Written.{answer_lines}

-- the records of answers
abbrev pub records_in : List (Reply × List Record) → List Record
records_in all = flat_map (λ answer. answer.1) all

-- A text is that of some answers to requests on the lines from the second on, and of the end line, and a summary counts its
-- lines, its answers and its records, with their events and busy times, and tells the open spans that its end line tells.
pub record Counts (text : List ℕ) (all : List (Reply × List Record)) (summary : Summary) : Type 0 where
  pub is : text ≡ answer_lines 0 (range_with_len 2 (length all)) all ++ end_text summary.open_spans summary.records
  pub requests : summary.requests ≡ length all
  pub records : summary.records ≡ length (records_in all)
  pub events : summary.events ≡ sum_by event_count (records_in all)
  pub busy : summary.busy ≡ sum_by busy_of (records_in all)
  pub lines : summary.lines ≡ length (lines_of text)
