-- What is written for some bytes.
use Rattle.std.proofs.Common.{◌≡◌, ℕ, ◌+◌, List, [], ◌∷◌, ◌++◌, length, Bool, true, false, Option, Some, None, Ok, Err, suc, refl, ap, subst, ◌∙◌, arith, if◌then◌else◌, ok_or, slice_index_or}
use Rattle.span_script.specs.declared.settings.Settings.{Settings}
use Rattle.trace_laws.proofs.Common.{OpeningRead, opening_read, outcome_of, setup_by, answers, script_by, script_from, line_numbers, requests_of, is_blank, lines_of, report_on_opening, report_on_settings, output, report_from, report_on, settings_spelled, value_on_line, refusal_text, IsOutput, first_line_number, answer_lines, last_line, opened_text, first_bad_line}
use Rattle.trace_lines.specs.declared.signal.Signal.TheVariants as signal
use Rattle.trace_lines.specs.declared.told.Told.TheVariants.{BadLine}
use Rattle.trace_lines.specs.forms.Forms.{all_of}
use Rattle.trace_lines.specs.forms.SettingsForm.{settings_form}
use Rattle.trace_laws.proofs.AnswersLemmas.{text_is}

by_read : (read : OpeningRead) (settings : Settings) (n : ℕ) (lines : List (List ℕ))
    → (report_on_opening read (report_on signal.Traces (setup_by settings) [] n 0 lines) n).written ≡ opened_text read (record { settings = settings; line_number = n; lines = lines })
by_read (Ok read) settings n lines =
    let setup = setup_by settings in
    let outcome = outcome_of setup (requests_of lines) in
    let many : 0 + length outcome.records ≡ length outcome.records = omega arith in
    text_is setup lines [] n 0
    ∙ ap (λ (k : ℕ). answer_lines 0 (line_numbers n lines) (answers setup (requests_of lines)) ++ last_line (line_numbers n lines) outcome.refused (first_bad_line n lines) outcome.left_open k) many
by_read (Err unread) settings n lines = refl

by_line : (b : Bool) (o : Option Settings) (n : ℕ) (lines : List (List ℕ)) → IsOutput (first_line_number (n + 1) lines) (script_from (n + 1) lines) (report_from signal.Traces (n + 1) lines).written
    → IsOutput (slice_index_or (if b then line_numbers (n + 1) lines else (n + 1) ∷ line_numbers (n + 1) lines) 0 (n + suc (length lines) + 1))
    (if b then script_from (n + 1) lines else script_by (ok_or o BadLine) (n + 1) lines)
    (if b then report_from signal.Traces (n + 1) lines else report_on_settings (ok_or o BadLine) (λ settings. report_on signal.Traces (setup_by settings) [] (n + 1) 0 lines) (n + 1)).written
by_line true o n lines rest =
    let past : n + 1 + length lines + 1 ≡ n + suc (length lines) + 1 = omega arith in
    subst (λ (k : ℕ). IsOutput (slice_index_or (line_numbers (n + 1) lines) 0 k) (script_from (n + 1) lines) (report_from signal.Traces (n + 1) lines).written) past rest
by_line false None n lines rest = refl
by_line false (Some settings) n lines rest = by_read (opening_read settings.filter settings.counting) settings (n + 1) lines

output_from : (lines : List (List ℕ)) (n : ℕ) → IsOutput (first_line_number n lines) (script_from n lines) (report_from signal.Traces n lines).written
unfolding settings_spelled
output_from [] n = ap (λ (k : ℕ). refusal_text k BadLine) (omega arith)
output_from (text ∷ lines) n = by_line (is_blank text) (value_on_line (all_of settings_form) text) n lines (output_from lines (n + 1))

pub is_output : (bytes : List ℕ) → IsOutput (first_line_number 0 (lines_of bytes)) (script_from 0 (lines_of bytes)) (output signal.Traces bytes)
is_output bytes = output_from (lines_of bytes) 0
