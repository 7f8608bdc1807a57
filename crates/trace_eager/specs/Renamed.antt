-- The text of a script whose spans start early, by the same script without that.
use Rattle.std.specs.Prelude.{◌≡◌, ℕ, ◌+◌, List, [], ◌∷◌, map, true, if◌then◌else◌, Option, Some, None, MatchOption, Result, Ok, Err}
use Rattle.span_script.specs.declared.settings.Settings.{Settings}
use Rattle.span_script.specs.Outcomes.{outcome_of}
use Rattle.span_script.specs.Setups.{setup_by}
use Rattle.span_eager.specs.Early.{MayStartEarly, answers, eager_id, lazy_setup}
use Rattle.span_eager.specs.Renaming.{renamed_answer}
use Rattle.trace_lines.specs.declared.told.Told.{Told}
use Rattle.trace_lines.specs.Lines.{is_blank}
use Rattle.trace_lines.specs.reading.Spelled.{settings_spelled}
use Rattle.trace_eager.specs.Written.{answers_text, line_numbers, requests_of}

-- the settings of a script, the number of their line, and the lines behind it
pub record Script : Type 0 where
  pub settings : Settings
  pub line_number : ℕ
  pub lines : List (List ℕ)

abbrev pub script_by : Result Settings Told → ℕ → List (List ℕ) → Option Script
script_by (Ok settings) number lines = Some (record { settings = settings; line_number = number; lines = lines })
script_by (Err why) number lines = None

-- the first line that isn't blank is the settings line, so many lines having come before
abbrev pub script_from : ℕ → List (List ℕ) → Option Script
script_from n [] = None
script_from n (text ∷ lines) = if is_blank text then script_from (n + 1) lines else script_by (settings_spelled text) (n + 1) lines

-- what is written of the script where no span starts at its making, with each id replaced by the number of its span's making
abbrev pub renamed_text : Script → List ℕ
renamed_text script =
    let setup = lazy_setup (setup_by script.settings) in
    let requests = requests_of script.lines in
    answers_text 0 (line_numbers script.line_number script.lines) (map (renamed_answer (eager_id setup requests)) (answers setup requests)) (outcome_of setup requests).left_open

-- a text of such a script, if spans start early in it and that changes ids alone
abbrev pub RenamesIds : Script → List ℕ → Type 0
RenamesIds script text = script.settings.layer.eager ≡ true → MayStartEarly (lazy_setup (setup_by script.settings)) (requests_of script.lines) → text ≡ renamed_text script

abbrev pub IsRenamed : List (List ℕ) → List ℕ → Type 0
IsRenamed lines text = MatchOption (script_from 0 lines) (Unit {0}) (λ script. RenamesIds script text)
