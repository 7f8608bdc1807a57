-- What is written for the lines of a script for threads.
use Rattle.std.specs.Prelude.{◌≡◌, ℕ, List, [], Bool, Result, Ok, Err, is_ok}
use Rattle.trace_lines.specs.text.Texts.{refusal_text}
use Rattle.input_lines.specs.declared.refused_line.RefusedLine.{RefusedLine}
use Rattle.thread_script.specs.declared.script.ThreadScript.{ThreadScript}
use Rattle.thread_handles.specs.declared.gather.Ended.{Ended}
use Rattle.thread_lines.specs.Steps.{script_of}
use Rattle.thread_run.specs.Fits.{AllFit}
use Rattle.thread_run.specs.Texts.{ended_text}

-- no line is refused, and a settings line is among them
abbrev pub accepts_threads : List (List ℕ) → Bool
accepts_threads lines = is_ok (script_of lines)

-- Each shared span of a script has a history that fits and its record, and the text is their lines and the end line; or nothing
-- came of a refused line, and the text is the refusal line alone.
abbrev pub TellsOf : Result ThreadScript RefusedLine → List Ended → List ℕ → Type 0
TellsOf (Ok script) ended text = AllFit script ended × (text ≡ ended_text ended)
TellsOf (Err refused) ended text = (ended ≡ []) × (text ≡ refusal_text refused.line refused.told)

-- the text is written for the lines, where this came of their spans
abbrev pub TellsEnded : List (List ℕ) → List Ended → List ℕ → Type 0
TellsEnded lines ended text = TellsOf (script_of lines) ended text

-- whatever came of them
abbrev pub TellsThreads : List (List ℕ) → List ℕ → Type 0
TellsThreads lines text = (ended : List Ended) × TellsEnded lines ended text
