-- What `tree` does: it runs a script, and writes its finished spans as trees.
use Rattle.std.specs.Prelude.{ℕ, List, map, None}
use Rattle.span_script.specs.calls.Spans.{open_spans}
use Rattle.span_script.specs.Outcomes.{records_of_history}
use Rattle.span_script.specs.Tables.{tables}
use Rattle.trace_lines.specs.Report.{accepts}
use Rattle.trace_records.specs.Inputs.{TellsRun}
use Rattle.trace_records.specs.Scripts.{ScriptHistory, script_of}
use Rattle.trace_stream.specs.reading.AllLines.{meaning_of_all_lines}
use Rattle.trace_stream.specs.Meaning.{Meaning}
use Rattle.trace_tree.specs.Busy.{tree_span}
use Rattle.tree_lines.specs.Texts.{TellsTree}

-- the trees of the records of a script, of each of which they tell what trees need
abbrev pub TellsTreeOf : ScriptHistory → List ℕ → Type 0
TellsTreeOf script text =
    TellsTree (map tree_span (records_of_history script.setup script.history)) (open_spans (tables script.setup script.history)) text

-- the trees of the script that lines come to, or the refusal line alone
abbrev pub TellsTrees : List (List ℕ) → List ℕ → Type 0
TellsTrees lines text = TellsRun TellsTreeOf (script_of None lines) text

abbrev pub meaning_of_trees : Meaning
meaning_of_trees = meaning_of_all_lines accepts TellsTrees
