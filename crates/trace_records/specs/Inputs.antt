-- What is written for a whole input, and which lines are refused whatever lines follow, where a script may have so many lanes.
use Rattle.std.specs.Prelude.{◌≡◌, ℕ, List, ◌++◌, length, Bool, Option, Ok, Err, is_ok}
use Rattle.span_script.specs.calls.Spans.{open_spans}
use Rattle.span_script.specs.Outcomes.{records_of_history}
use Rattle.span_script.specs.Tables.{tables}
use Rattle.trace_lines.specs.text.Texts.{refusal_text, end_text}
use Rattle.input_lines.specs.declared.refused_line.RefusedLine.{RefusedLine}
use Rattle.trace_records.specs.Scripts.{ScriptHistory, ScriptResult, script_of}
use Rattle.trace_records.specs.Following.{IsStopped}

-- no line is refused, a settings line is among them, and it gives no more lanes than the most, if there is a most
abbrev pub accepts_within : Option ℕ → List (List ℕ) → Bool
accepts_within most lines = is_ok (script_of most lines)

-- what is written of a script, or the refusal line alone
abbrev pub TellsRun : (ScriptHistory → List ℕ → Type 0) → ScriptResult → List ℕ → Type 0
TellsRun Tells (Ok script) text = Tells script text
TellsRun Tells (Err refused) text = text ≡ refusal_text refused.line refused.told

-- A line is refused, whatever lines follow, and the text is its refusal line.
abbrev pub AreRefused : Option ℕ → List (List ℕ) → List ℕ → Type 0
AreRefused most lines text = (refused : RefusedLine) × IsStopped most lines refused × (text ≡ refusal_text refused.line refused.told)

-- ---- beside a run that tells traces

-- the line that such a run writes last: its end line, by the spans left open and the records, or the refusal line
abbrev pub last_line_of : ScriptResult → List ℕ
last_line_of (Ok script) = end_text (open_spans (tables script.setup script.history)) (length (records_of_history script.setup script.history))
last_line_of (Err refused) = refusal_text refused.line refused.told

abbrev pub EndsWith : List ℕ → List ℕ → Type 0
EndsWith last text = (front : List ℕ) × (text ≡ front ++ last)
