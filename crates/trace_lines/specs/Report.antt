-- What a run writes for its input, and whether it accepts it.
use Rattle.std.specs.Prelude.{◌≡◌, ℕ, ◌+◌, ◌≤◌, List, [], ◌∷◌, ◌++◌, length, flat_map, Bool, true, false, if◌then◌else◌, Result, Ok, Err}
use Rattle.otel_base.specs.declared.record.Record.{Record}
use Rattle.otel_metrics.specs.declared.measure.Measure.{Measure}
use Rattle.trace_lines.specs.declared.limits.TheConstants.{MAX_INPUT}
use Rattle.span_script.specs.declared.settings.Settings.{Settings}
use Rattle.trace_lines.specs.declared.signal.Signal.{Signal}
use Rattle.trace_lines.specs.declared.signal.Signal.TheVariants as signal
use Rattle.trace_lines.specs.declared.told.Told.{Told}
use Rattle.trace_lines.specs.declared.told.Told.TheVariants as told
use Rattle.span_script.specs.declared.request.Request.{Request}
use Rattle.span_script.specs.declared.reply.Reply.{Reply}
use Rattle.span_script.specs.Admission.{OpeningRead, opening_read}
use Rattle.span_script.specs.Setups.{Setup, setup_by}
use Rattle.span_script.specs.Tables.{History, Effect, Tables, tables, records_of}
use Rattle.span_script.specs.calls.Here.{Resolved}
use Rattle.span_script.specs.Effects.{effect_of}
use Rattle.span_script.specs.calls.Spans.{open_spans}
use Rattle.trace_lines.specs.Lines.{lines_of, is_blank}
use Rattle.trace_lines.specs.reading.Spelled.{settings_spelled, request_spelled}
use Rattle.trace_lines.specs.text.Texts.{reply_text, record_text, measure_text, refusal_text, end_text, measures_end_text}

-- what is written, and whether no line is refused
pub record Report : Type 0 where
  pub written : List ℕ
  pub accepted : Bool

-- a text in front of what is written
abbrev pub with_text_before : List ℕ → Report → Report
with_text_before text report = record { written = text ++ report.written; accepted = report.accepted }

-- the run ends at a refused line, with its refusal line
abbrev pub refused_report : ℕ → Told → Report
refused_report line why = record { written = refusal_text line why; accepted = false }

-- the record lines, which are numbered in the order of writing
abbrev pub record_lines : ℕ → List Record → List ℕ
record_lines number [] = []
record_lines number (finished ∷ more) = record_text number finished ++ record_lines (number + 1) more

-- the measure lines of the event on a line
abbrev pub measure_lines : ℕ → List Measure → List ℕ
measure_lines line measures = flat_map (measure_text line) measures

-- what is written for the request on a line, so many records or measures having come before: its reply, and the records
-- of the spans that it closed; or its measures
abbrev pub answer_text : Signal → ℕ → ℕ → Reply → List Record → List Measure → List ℕ
answer_text signal.Traces line count answer finished measures = reply_text line answer ++ record_lines (count + 1) finished
answer_text signal.Metrics line count answer finished measures = measure_lines line measures

-- how many records or measures these are
abbrev pub answer_count : Signal → List Record → List Measure → ℕ
answer_count signal.Traces finished measures = length finished
answer_count signal.Metrics finished measures = length measures

-- the end line, by how many spans are open, and how many records or measures were written
abbrev pub last_text : Signal → ℕ → ℕ → List ℕ
last_text signal.Traces spans count = end_text spans count
last_text signal.Metrics spans count = measures_end_text count

-- why the step is refused, as the line's refusal
abbrev pub step_or_refusal : Resolved → Result Effect Told
step_or_refusal (Ok effect) = Ok effect
step_or_refusal (Err refusal) = Err (told.Step refusal)

abbrev pub effect_of_request : Setup → Tables → Result Request Told → Result Effect Told
effect_of_request setup t (Ok request) = step_or_refusal (effect_of setup t request)
effect_of_request setup t (Err why) = Err why

-- the effect of the request that a line spells, or why the line is refused
unfoldable pub effect_of_line : Setup → Tables → List ℕ → Result Effect Told
effect_of_line setup t text = effect_of_request setup t (request_spelled text)

abbrev pub report_on_effect : Result Effect Told → (Effect → Report) → ℕ → Report
report_on_effect (Ok effect) go line = go effect
report_on_effect (Err why) go line = refused_report line why

-- The report on the request lines, so many lines and so many records or measures having come before. Each line's request
-- is one effect more of the history.
abbrev pub report_on : Signal → Setup → History → ℕ → ℕ → List (List ℕ) → Report
report_on signal setup h n count [] = record { written = last_text signal (open_spans (tables setup h)) count; accepted = true }
report_on signal setup h n count (text ∷ lines) =
    if is_blank text then report_on signal setup h (n + 1) count lines else
    report_on_effect (effect_of_line setup (tables setup h) text)
    (λ effect. with_text_before (answer_text signal (n + 1) count effect.reply (records_of (tables setup h) effect) effect.measures)
    (report_on signal setup (h ++ effect ∷ []) (n + 1) (count + answer_count signal (records_of (tables setup h) effect) effect.measures) lines)) (n + 1)

-- a run isn't opened where a text of the settings has a piece that is no directive
abbrev pub report_on_opening : OpeningRead → Report → ℕ → Report
report_on_opening (Ok read) report line = report
report_on_opening (Err unread) report line = refused_report line (told.Directive unread.0 unread.1)

abbrev pub report_on_settings : Result Settings Told → (Settings → Report) → ℕ → Report
report_on_settings (Ok settings) go line = report_on_opening (opening_read settings.filter settings.counting) (go settings) line
report_on_settings (Err why) go line = refused_report line why

-- The first line that isn't blank is the settings line. If there is none, the input is refused at its end.
abbrev pub report_from : Signal → ℕ → List (List ℕ) → Report
report_from signal n [] = refused_report (n + 1) told.BadLine
report_from signal n (text ∷ lines) =
    if is_blank text then report_from signal (n + 1) lines else
    report_on_settings (settings_spelled text) (λ settings. report_on signal (setup_by settings) [] (n + 1) 0 lines) (n + 1)

abbrev pub report : Signal → List ℕ → Report
report signal bytes = report_from signal 0 (lines_of bytes)

-- the output of some bytes
abbrev pub output : Signal → List ℕ → List ℕ
output signal bytes = (report signal bytes).written

-- no line is refused, which doesn't depend on what is told
abbrev pub accepts : List (List ℕ) → Bool
accepts lines = (report_from signal.Traces 0 lines).accepted

-- Bytes are valid if they are no more than an input may have, have a settings line, and none of their lines
-- is refused.
pub record IsValid (bytes : List ℕ) : Type 0 where
  pub short : length bytes ≤ MAX_INPUT
  pub accepted : accepts (lines_of bytes) ≡ true
