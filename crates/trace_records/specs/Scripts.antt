-- What the lines of a script come to: the history of its requests, or the first line that is refused.
use Rattle.std.specs.Prelude.{ℕ, ◌+◌, List, [], ◌∷◌, ◌++◌, length, map, nat_le, Bool, true, false, Option, Some, None, Result, Ok, Err, if◌then◌else◌}
use Rattle.otel_base.specs.declared.record.Record.{Record}
use Rattle.span_script.specs.declared.settings.Settings.{Settings}
use Rattle.span_script.specs.declared.request.Request.{Request}
use Rattle.span_script.specs.Admission.{OpeningRead, opening_read}
use Rattle.span_script.specs.Setups.{Setup, setup_by}
use Rattle.span_script.specs.Tables.{History, tables, records_of}
use Rattle.trace_lines.specs.declared.told.Told.{Told}
use Rattle.trace_lines.specs.declared.told.Told.TheVariants as told
use Rattle.trace_lines.specs.Lines.{is_blank}
use Rattle.trace_lines.specs.reading.Spelled.{settings_spelled, request_spelled}
use Rattle.trace_lines.specs.Report.{effect_of_line}
use Rattle.input_lines.specs.declared.refused_line.RefusedLine.{RefusedLine}

-- A script that ran: what its settings fix, the history of its requests, and for each record of that the lane of the drop
-- that closed the span, by its place.
pub record ScriptHistory : Type 0 where
  pub setup : Setup
  pub history : History
  pub lanes : List ℕ

-- the script, or the line that is refused
abbrev pub ScriptResult : Type 0
ScriptResult = Result ScriptHistory RefusedLine

-- goes on, or is refused at a line
abbrev pub run_unless_refused : {A : Type 0} → Result A Told → ℕ → (A → ScriptResult) → ScriptResult
run_unless_refused (Ok x) line go = go x
run_unless_refused (Err why) line go = Err (record { line = line; told = why })

-- ---- the settings line

-- whether so many lanes are no more than the most that are taken, if there is a most
abbrev pub allows_lanes : Option ℕ → ℕ → Bool
allows_lanes None lanes = true
allows_lanes (Some most) lanes = nat_le lanes most

-- what settings fix; a text of directives that isn't read is refused before too many lanes
abbrev pub setup_if_read : OpeningRead → Bool → Setup → Result Setup Told
setup_if_read (Err unread) few setup = Err (told.Directive unread.0 unread.1)
setup_if_read (Ok read) false setup = Err told.Lanes
setup_if_read (Ok read) true setup = Ok setup

abbrev pub setup_of_settings : Option ℕ → Result Settings Told → Result Setup Told
setup_of_settings most (Err why) = Err why
setup_of_settings most (Ok settings) = setup_if_read (opening_read settings.filter settings.counting) (allows_lanes most (length settings.lanes)) (setup_by settings)

-- what the settings on a line fix, or why the line is refused
unfoldable pub setup_of_line : Option ℕ → List ℕ → Result Setup Told
setup_of_line most text = setup_of_settings most (settings_spelled text)

-- ---- the lines

-- the lane of the request that a line spells, by its place
abbrev pub lane_spelled : Result Request Told → ℕ
lane_spelled (Ok request) = request.lane_place
lane_spelled (Err why) = 0

-- for each record that comes of a line the lane of its request
abbrev pub lanes_on : List ℕ → List Record → List ℕ
lanes_on text finished = map (λ r. lane_spelled (request_spelled text)) finished

-- the script whose request lines follow, so many lines having come before
abbrev pub script_on : Setup → History → List ℕ → ℕ → List (List ℕ) → ScriptResult
script_on setup h lanes n [] = Ok (record { setup = setup; history = h; lanes = lanes })
script_on setup h lanes n (text ∷ lines) =
    if is_blank text then script_on setup h lanes (n + 1) lines else
    run_unless_refused (effect_of_line setup (tables setup h) text) (n + 1)
    (λ effect. script_on setup (h ++ effect ∷ []) (lanes ++ lanes_on text (records_of (tables setup h) effect)) (n + 1) lines)

-- The first line that isn't blank is the settings line. If there is none, the lines are refused at their end.
abbrev pub script_from : Option ℕ → ℕ → List (List ℕ) → ScriptResult
script_from most n [] = Err (record { line = n + 1; told = told.BadLine })
script_from most n (text ∷ lines) =
    if is_blank text then script_from most (n + 1) lines else
    run_unless_refused (setup_of_line most text) (n + 1) (λ setup. script_on setup [] [] (n + 1) lines)

-- what lines come to, where a script may have so many lanes
abbrev pub script_of : Option ℕ → List (List ℕ) → ScriptResult
script_of most lines = script_from most 0 lines
