-- How the run of the script that is made for a number is summed up.
use Rattle.std.specs.Prelude.{◌≡◌, ℕ, ◌+◌, List, [], ◌++◌, length, Some}
use Rattle.std.specs.List.{sum_by}
use Rattle.otel_base.specs.declared.record.Record.{Record}
use Rattle.span_script.specs.declared.request.Request.{Request}
use Rattle.span_script.specs.Tables.{History, tables}
use Rattle.span_script.specs.Fits.{PipelineState, StandsFor}
use Rattle.span_script.specs.Outcomes.{records_of_history}
use Rattle.trace_lines.specs.Generated.{generated_setup, generated_requests, generated_script}
use Rattle.trace_lines.specs.Replay.{history_after, busy_of, event_count, summary_of}
use Rattle.trace_lines.specs.Report.{IsValid}
use Rattle.trace_lines.specs.declared.write.summary.Summary.{Summary}
use Rattle.trace_run.specs.Commands.Make.{generated_summary_line}
use Rattle.trace_run.specs.declared.script.make.Totals.{Totals}

-- The script is valid, each of its requests has an effect, and a summary is that of these effects.
pub record SumsUp (rounds : ℕ) (summary : Summary) : Type 0 where
  pub valid : IsValid (generated_script rounds)
  pub history : History
  pub runs : history_after generated_setup [] (generated_requests rounds) ≡ Some history
  pub summary_is : summary ≡ summary_of generated_setup history

-- the script is valid, and a text is its summary
abbrev pub IsGeneratedSummaryLine : ℕ → List ℕ → Type 0
IsGeneratedSummaryLine rounds text = IsValid (generated_script rounds) × (text ≡ generated_summary_line rounds)

-- the totals with those of some records more
abbrev pub with_records : Totals → List Record → Totals
with_records totals finished = record totals {
  busy = totals.busy + sum_by busy_of finished;
  events = totals.events + sum_by event_count finished;
  records = totals.records + length finished;
}

-- those of so many requests without a record
abbrev pub totals_of_requests : ℕ → Totals
totals_of_requests n = record { busy = 0; events = 0; records = 0; requests = n }

abbrev pub totals_of : History → Totals
totals_of h = with_records (totals_of_requests (length h)) (records_of_history generated_setup h)

-- A pipeline stands for a history, its records are taken, and the totals are those of the history.
pub record StandsWithTotals (h : History) (kept : PipelineState) (totals : Totals) : Type 0 where
  pub setup : kept.setup ≡ generated_setup
  pub stands : StandsFor kept (tables generated_setup h)
  pub taken : kept.recording.finished ≡ []
  pub totals_are : totals ≡ totals_of h

-- Behind a history some requests were served: they have effects, and the totals are those of all effects.
pub record ServesRequests (requests : List Request) (h : History) (kept : PipelineState) (totals : Totals) : Type 0 where
  pub history : History
  pub counts : StandsWithTotals history kept totals
  pub replays : (more : List Request) → history_after generated_setup h (requests ++ more) ≡ history_after generated_setup history more
