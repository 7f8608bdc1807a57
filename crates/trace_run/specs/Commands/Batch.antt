-- What `batch` does: it runs a script of at most eight lanes, and writes the records of its finished spans in batches.
use Rattle.std.specs.Prelude.{ℕ, ◌<◌, ◌≤◌, List, Bool, Some}
use Rattle.batch_lines.specs.Texts.{TellsBatches}
use Rattle.span_script.specs.calls.Spans.{open_spans}
use Rattle.span_script.specs.Outcomes.{records_of_history}
use Rattle.span_script.specs.Tables.{tables}
use Rattle.trace_batch.specs.declared.relay.TheConstants.{MAX_LANES}
use Rattle.trace_records.specs.Inputs.{TellsRun, accepts_within}
use Rattle.trace_records.specs.Scripts.{ScriptHistory, script_of}
use Rattle.trace_stream.specs.reading.AllLines.{meaning_of_all_lines}
use Rattle.trace_stream.specs.Meaning.{Meaning}
use Rattle.trace_run.specs.declared.batch.TheConstants.{MAX_BATCH_ITEMS}

-- the records of a script, in batches of n
abbrev pub TellsBatchesOf : ℕ → ScriptHistory → List ℕ → Type 0
TellsBatchesOf n script text =
    TellsBatches n (records_of_history script.setup script.history) script.lanes (open_spans (tables script.setup script.history)) text

-- the records of the script of at most eight lanes that lines come to, in batches of n, or the refusal line alone
abbrev pub TellsBatchesOfLines : ℕ → List (List ℕ) → List ℕ → Type 0
TellsBatchesOfLines n lines text = TellsRun (TellsBatchesOf n) (script_of (Some MAX_LANES) lines) text

-- the lines of a script of at most eight lanes
abbrev pub accepts_batch : List (List ℕ) → Bool
accepts_batch lines = accepts_within (Some MAX_LANES) lines

abbrev pub meaning_of_batches : ℕ → Meaning
meaning_of_batches size = record (meaning_of_all_lines accepts_batch (TellsBatchesOfLines size)) { IsPossible = (0 < size) × (size ≤ MAX_BATCH_ITEMS) }
