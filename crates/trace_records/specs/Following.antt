-- How a script stands that has followed some lines, whichever lines come behind them.
use Rattle.std.specs.Prelude.{◌≡◌, ℕ, List, [], ◌++◌, ◌⊎◌, length, map, true, false, Option, Some, None, Result, Ok, Err}
use Rattle.otel_base.specs.declared.record.Record.{Record}
use Rattle.span_script.specs.Tables.{History, tables}
use Rattle.span_script.specs.calls.Spans.{open_spans}
use Rattle.span_script.specs.Fits.{PipelineState, StandsFor}
use Rattle.span_script.specs.Outcomes.{records_of_history}
use Rattle.input_lines.specs.Refusals.{HasRefusalLine, are_blank}
use Rattle.trace_records.specs.declared.finished.FinishedSpans.{FinishedSpans}
use Rattle.input_lines.specs.declared.refused_line.RefusedLine.{RefusedLine}
use Rattle.trace_records.specs.declared.script.ScriptRun.{ScriptRun}
use Rattle.trace_records.specs.declared.script.ScriptStage.{ScriptStage}
use Rattle.trace_records.specs.declared.script.ScriptStage.TheVariants as stage
use Rattle.trace_records.specs.Scripts.{ScriptHistory, script_on, script_from, script_of}

-- what is kept beside the records and the measures that are to be taken
abbrev pub without_outputs : PipelineState → PipelineState
without_outputs kept = record kept { recording = record kept.recording { finished = [] }; measures = [] }

-- All lines are blank, and nothing finished.
pub record IsOpening {K : Type 0} (most : Option ℕ) (lines : List (List ℕ)) (count : ℕ) (finished : FinishedSpans K) : Type 0 where
  pub blank : are_blank lines ≡ true
  pub no_spans : finished.spans.items ≡ []
  pub no_lanes : finished.lanes.items ≡ []
  pub script_is : (more : List (List ℕ)) → script_of most (lines ++ more) ≡ script_from most count more

-- The pipeline stands for the requests so far, of whose records what is wanted (of) is kept, and the script goes on with the
-- lines that follow.
pub record IsRunning {K : Type 0} (of : Record → K) (most : Option ℕ) (lines : List (List ℕ)) (count : ℕ) (kept : PipelineState) (finished : FinishedSpans K) : Type 0 where
  pub history : History
  pub some : are_blank lines ≡ false
  pub stands : StandsFor kept (tables kept.setup history)
  pub taken : kept.recording.finished ≡ []
  pub spans_are : finished.spans.items ≡ map of (records_of_history kept.setup history)
  pub lane_count_is : finished.lane_count ≡ length kept.setup.ids
  pub script_is : (more : List (List ℕ))
      → script_of most (lines ++ more) ≡ script_on kept.setup history finished.lanes.items count more

-- A line is refused, whichever lines follow.
pub record IsStopped (most : Option ℕ) (lines : List (List ℕ)) (refused : RefusedLine) : Type 0 where
  pub some : are_blank lines ≡ false
  pub is_told : HasRefusalLine refused.told
  pub script_is : (more : List (List ℕ)) → script_of most (lines ++ more) ≡ Err refused

-- what holds at each stage
abbrev pub StandsAt : {K : Type 0} → (Record → K) → Option ℕ → ScriptStage → List (List ℕ) → ℕ → FinishedSpans K → Type 0
StandsAt of most stage.Opening lines count finished = IsOpening most lines count finished
StandsAt of most (stage.Running pipeline) lines count finished = IsRunning of most lines count pipeline finished
StandsAt of most (stage.Refused refused) lines count finished = IsStopped most lines refused

-- what a script keeps that has followed these lines
abbrev pub HasFollowed : {K : Type 0} → (Record → K) → Option ℕ → List (List ℕ) → ScriptRun K → Type 0
HasFollowed of most lines run = StandsAt of most run.stage lines run.line_count run.finished

-- the line that is refused whatever lines follow, if there is one; else all are blank or a script
abbrev pub TellsRefusedLine : Option ℕ → List (List ℕ) → Option RefusedLine → Type 0
TellsRefusedLine most lines (Some refused) = IsStopped most lines refused
TellsRefusedLine most lines None = (are_blank lines ≡ true) ⊎ ((script : ScriptHistory) × (script_of most lines ≡ Ok script))

-- ---- the end

-- the finished spans of a script, of each of which what is wanted (of) is kept
pub record AreFinishedSpansOf {K : Type 0} (of : Record → K) (script : ScriptHistory) (finished : FinishedSpans K) : Type 0 where
  pub spans_are : finished.spans.items ≡ map of (records_of_history script.setup script.history)
  pub lanes_are : finished.lanes.items ≡ script.lanes
  pub lane_count : finished.lane_count ≡ length script.setup.ids
  pub left_open : finished.open_spans ≡ open_spans (tables script.setup script.history)

-- what came of the lines
abbrev pub EndsAs : {K : Type 0} → (Record → K) → Option ℕ → List (List ℕ) → Result (FinishedSpans K) RefusedLine → Type 0
EndsAs of most lines (Ok finished) = (script : ScriptHistory) × (script_of most lines ≡ Ok script) × AreFinishedSpansOf of script finished
EndsAs of most lines (Err refused) = (script_of most lines ≡ Err refused) × HasRefusalLine refused.told
