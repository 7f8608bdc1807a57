-- How a run stands between two pieces of its input.
use Rattle.std.specs.Prelude.{◌≡◌, ℕ, List, ◌++◌, Bool, true, false, Option, Result, Ok, Err}
use Rattle.trace_lines.specs.declared.signal.Signal.{Signal}
use Rattle.trace_lines.specs.Report.{report, output}
use Rattle.trace_stream.specs.Streams.{Puts, PutsFront}
use Rattle.trace_stream.specs.reading.Breaks.{has_feed, whole_part, whole_lines}
use Rattle.trace_stream.specs.reading.Answers.{AnswersTo}
use Rattle.trace_stream.specs.declared.progress.Progress.{Progress}
use Rattle.trace_stream.specs.declared.status.Status.{Status}
use Rattle.trace_stream.specs.declared.status.Status.TheVariants as ends

-- Of these bytes the whole lines are answered, behind a text that was put, and what comes behind them is kept.
pub record HasAnsweredLines (signal : Signal) (put front : List ℕ) (progress : Progress) : Type 0 where
  pub parts : front ≡ whole_part front ++ progress.partial_line.items
  pub rest : has_feed progress.partial_line.items ≡ false
  pub answered : AnswersTo signal put (whole_lines front) progress.answers

-- the same, where a sink gained that text
pub record IsMidway (signal : Signal) (before now : Option (List ℕ)) (front : List ℕ) (progress : Progress) : Type 0 where
  pub put : List ℕ
  pub puts : Puts before now put
  pub keeps : HasAnsweredLines signal put front progress

-- Whatever bytes follow, the sink gained a front of their output.
abbrev pub HasFront : Signal → Option (List ℕ) → Option (List ℕ) → List ℕ → Type 0
HasFront signal before now front = (tail : List ℕ) → PutsFront before now (output signal (front ++ tail))

-- how a run stands behind these bytes, by whether it can go on
abbrev pub FeedsTo : {E : Type 0} → Signal → Result (Unit {0}) E → Option (List ℕ) → Option (List ℕ) → List ℕ → Progress → Type 0
FeedsTo signal (Ok done) before now front progress = IsMidway signal before now front progress
FeedsTo signal (Err why) before now front progress = HasFront signal before now front

-- the sink gained all that is written for these bytes
abbrev pub Reports : Signal → Bool → Option (List ℕ) → Option (List ℕ) → List ℕ → Type 0
Reports signal accepted before now front =
    (text : List ℕ) × (report signal front ≡ record { written = text; accepted = accepted }) × Puts before now text

-- how a run ends where no byte follows these
abbrev pub FinishesRun : {E : Type 0} → Signal → Result Bool E → Option (List ℕ) → Option (List ℕ) → List ℕ → Type 0
FinishesRun signal (Ok accepted) before now front = Reports signal accepted before now front
FinishesRun signal (Err why) before now front = PutsFront before now (output signal front)

-- the status by whether all lines are accepted
abbrev pub status_if_accepted : Bool → Status
status_if_accepted true = ends.Ok
status_if_accepted false = ends.Refused
