-- What lines are answered, whichever lines follow them.
use Rattle.std.specs.Prelude.{◌≡◌, ℕ, List, [], ◌++◌, ◌+◌, Bool, true, false}
use Rattle.trace_lines.specs.declared.signal.Signal.{Signal}
use Rattle.span_script.specs.declared.reply.Reply.{Reply}
use Rattle.span_script.specs.Tables.{History, tables}
use Rattle.span_script.specs.Fits.{PipelineState, StandsFor}
use Rattle.trace_lines.specs.Report.{with_text_before, answer_text, answer_count, report_on, report_from}
use Rattle.input_lines.specs.Refusals.{are_blank}
use Rattle.trace_records.specs.Following.{without_outputs}
use Rattle.trace_stream.specs.Streams.{IsFrontOf}
use Rattle.trace_stream.specs.reading.Breaks.{AnswersAll}
use Rattle.trace_stream.specs.declared.answers.Answers.{Answers}
use Rattle.trace_stream.specs.declared.answers.RunStage.{RunStage}
use Rattle.trace_stream.specs.declared.answers.RunStage.TheVariants as stage
use Rattle.trace_stream.specs.declared.written.Written.{Written}

-- no record and no measure waits to be taken
pub record IsEmptied (kept : PipelineState) : Type 0 where
  pub records : kept.recording.finished ≡ []
  pub measures : kept.measures ≡ []

-- Settings came, the pipeline stands for the requests so far, their records and measures are taken, and behind
-- what is written, with so many records or measures, comes the report on the lines that follow.
pub record IsRunning (signal : Signal) (lines : List (List ℕ)) (count : ℕ) (kept : PipelineState) (text : List ℕ) (tally : ℕ) : Type 0 where
  pub history : History
  pub some : are_blank lines ≡ false
  pub stands : StandsFor kept (tables kept.setup history)
  pub taken : IsEmptied kept
  pub report_is : (more : List (List ℕ)) → report_from signal 0 (lines ++ more)
      ≡ with_text_before text (report_on signal kept.setup history count tally more)

-- A request on a line that was served is answered: what is told of it stands behind what was written before, and no record
-- and no measure waits any more.
pub record IsAnswered (signal : Signal) (line : ℕ) (reply : Reply) (old new : PipelineState) (before after : Written) : Type 0 where
  pub text : after.text.items
      ≡ before.text.items ++ answer_text signal line before.count reply old.recording.finished old.measures
  pub count : after.count ≡ before.count + answer_count signal old.recording.finished old.measures
  pub taken : IsEmptied new
  pub state : without_outputs new ≡ without_outputs old

-- all lines are blank, and nothing is written
pub record IsOpening (signal : Signal) (lines : List (List ℕ)) (count : ℕ) (text : List ℕ) (tally : ℕ) : Type 0 where
  pub blank : are_blank lines ≡ true
  pub empty : text ≡ []
  pub none : tally ≡ 0
  pub report_is : (more : List (List ℕ)) → report_from signal 0 (lines ++ more) ≡ report_from signal count more

-- a line is refused, and its refusal line is the last of the text
pub record IsStopped (signal : Signal) (lines : List (List ℕ)) (text : List ℕ) : Type 0 where
  pub some : are_blank lines ≡ false
  pub report_is : (more : List (List ℕ))
      → report_from signal 0 (lines ++ more) ≡ record { written = text; accepted = false }

abbrev pub AnswersAt : Signal → RunStage → List (List ℕ) → ℕ → List ℕ → ℕ → Type 0
AnswersAt signal stage.Opening lines count text tally = IsOpening signal lines count text tally
AnswersAt signal (stage.Running pipeline) lines count text tally = IsRunning signal lines count pipeline text tally
AnswersAt signal stage.Refused lines count text tally = IsStopped signal lines text

-- how a run stands behind a request, by whether it was served
abbrev pub StandsBehindRequest : Signal → Bool → List (List ℕ) → ℕ → PipelineState → List ℕ → ℕ → Type 0
StandsBehindRequest signal true lines count kept text tally = IsRunning signal lines count kept text tally
StandsBehindRequest signal false lines count kept text tally = IsStopped signal lines text

-- the answers to these lines, of which this text was put before
abbrev pub AnswersTo : Signal → List ℕ → List (List ℕ) → Answers → Type 0
AnswersTo signal put lines answers =
    AnswersAt signal answers.stage lines answers.line_count (put ++ answers.written.text.items) answers.written.count

abbrev pub is_refused : RunStage → Bool
is_refused stage.Opening = false
is_refused (stage.Running pipeline) = false
is_refused stage.Refused = true

-- what a text is for lines at which an input breaks off, by whether it ends with a refusal line
abbrev pub AnswersBrokenOff : Signal → Bool → List (List ℕ) → List ℕ → Type 0
AnswersBrokenOff signal true lines text = IsStopped signal lines text
AnswersBrokenOff signal false lines text = AnswersAll signal lines text
    × ((more : List (List ℕ)) → IsFrontOf text (report_from signal 0 (lines ++ more)).written)
