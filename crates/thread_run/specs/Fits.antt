-- Which histories and records fit a script.
use Rattle.std.specs.Prelude.{◌≡◌, ℕ, ◌<◌, List, length, Some, slice_index_or}
use Rattle.otel_base.specs.declared.record.Record.{Record}
use Rattle.trace_threads.specs.declared.history.Entry.{Entry}
use Rattle.trace_threads.specs.declared.making.Making.{Making}
use Rattle.trace_threads.specs.Shared.{content_of}
use Rattle.trace_threads.specs.Turns.{entries}
use Rattle.thread_script.specs.declared.script.ThreadScript.{ThreadScript}
use Rattle.thread_script.specs.Asks.{DoesAll}
use Rattle.thread_script.specs.Plans.{plan_of, asks_of_worker}
use Rattle.thread_handles.specs.declared.gather.Ended.{Ended}
use Rattle.thread_run.specs.Spans.{shared_making}

-- A history of the shared span at a place does what each worker's list asks of it and nothing else, and the record is its
-- content.
pub record FitsScript (script : ThreadScript) (place : ℕ) (log : List Entry) (finished : Record) : Type 0 where
  pub making : Making
  pub of_span : shared_making script place ≡ Some making
  pub does : DoesAll making.made_at (length script.workers) (asks_of_worker (plan_of script) place making.made_at script.workers) log
  pub content : finished ≡ content_of making log

-- the pass that comes with it is of a span that was made so, and has seen just that history
pub record FitsEnded (script : ThreadScript) (place : ℕ) (e : Ended) : Type 0 where
  pub fits : FitsScript script place e.history e.finished
  pub origin : e.pass.view.origin ≡ fits.making
  pub seen : entries e.pass.view.seen ≡ e.history

-- one for each shared span, in order
abbrev pub AllFit : ThreadScript → List Ended → Type 0
AllFit script es =
    (length es ≡ length script.shared)
    × ((place : ℕ) (d : Ended) → place < length es → FitsEnded script place (slice_index_or es place d))
