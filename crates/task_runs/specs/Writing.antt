-- What is written of requests that a pipeline ran.
use Rattle.std.specs.Prelude.{◌≡◌, ◌+◌, ◌++◌, ℕ, List, [], ◌∷◌, length, slice_get}
use Rattle.span_script.specs.declared.request.Request.{Request}
use Rattle.span_script.specs.Setups.{Setup}
use Rattle.span_script.specs.Tables.{History, tables}
use Rattle.span_script.specs.Fits.{PipelineState, StandsFor}
use Rattle.span_script.specs.Outcomes.{history_from, history_of, records_of_history}
use Rattle.trace_lines.specs.Report.{record_lines}
use Rattle.task_runs.specs.declared.runner.Runner.{Runner}
use Rattle.task_runs.specs.declared.text.RecordLines.{RecordLines}

-- where requests stand of which some are left, and the records so far are written
pub record WrittenSoFar (setup : Setup) (requests left : List Request) (now : PipelineState) (lines : RecordLines) : Type 0 where
  pub history : History
  pub setup_is : now.setup ≡ setup
  pub stands : StandsFor now (tables setup history)
  pub taken : now.recording.finished ≡ []
  pub text_is : lines.text.items ≡ record_lines 1 (records_of_history setup history)
  pub count_is : lines.count ≡ length (records_of_history setup history)
  pub goes_on : history_of setup requests ≡ history ++ history_from setup (tables setup history) left
  pub places : (n : ℕ) → slice_get requests (length history + n) ≡ slice_get left n

-- a request was served and its records written, whichever requests came before and come behind it
abbrev pub RunsRequest : Runner → Request → Runner → Type 0
RunsRequest old request new = (setup : Setup) (requests left : List Request) → WrittenSoFar setup requests (request ∷ left) old.pipeline old.lines
    → WrittenSoFar setup requests left new.pipeline new.lines
