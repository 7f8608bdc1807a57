-- Where spans start early, what is written is the text of the same script without that, with other ids.
use Rattle.std.proofs.Common.{◌≡◌, ℕ, ◌+◌, List, [], ◌∷◌, Bool, true, false, Option, Some, Result, Ok, Err, ap, ap₂, ◌∙◌}
use Rattle.std.specs.Prelude.{if◌then◌else◌, MatchOption}
use Rattle.otel_base.specs.declared.record.Record.{Record}
use Rattle.span_script.specs.declared.outcome.Outcome.{Outcome}
use Rattle.span_script.specs.declared.reply.Reply.{Reply}
use Rattle.span_script.specs.declared.settings.Settings.{Settings}
use Rattle.span_script.specs.Admission.{OpeningRead, opening_read}
use Rattle.span_script.specs.Setups.{setup_by}
use Rattle.span_eager.proofs.SameOutcomes.{each_early_is_late, early_is_late}
use Rattle.trace_lines.specs.declared.signal.Signal.TheVariants as signal
use Rattle.trace_lines.specs.declared.told.Told.{Told}
use Rattle.trace_lines.specs.Lines.{is_blank}
use Rattle.trace_lines.specs.Report.{Report, accepts, report_on_opening, report_on_settings, report_from, report_on}
use Rattle.trace_lines.specs.reading.Spelled.{settings_spelled}
use Rattle.trace_eager.specs.Renamed.{IsRenamed, RenamesIds, Script, script_by, script_from}
use Rattle.trace_eager.specs.Written.{answers_text, line_numbers, requests_of}
use Rattle.trace_eager.proofs.AnswersLemmas.{text_of_answers}

renames : (settings : Settings) (n : ℕ) (lines : List (List ℕ)) → (report_on signal.Traces (setup_by settings) [] n 0 lines).accepted ≡ true
    → RenamesIds (record { settings = settings; line_number = n; lines = lines }) (report_on signal.Traces (setup_by settings) [] n 0 lines).written
renames settings n lines accepted eager may =
    let setup = setup_by settings in
    let requests = requests_of lines in
    text_of_answers setup n lines accepted
    ∙ ap₂ (λ (all : List (Reply × List Record)) (left : ℕ). answers_text 0 (line_numbers n lines) all left) (each_early_is_late setup requests eager may)
    (ap (λ (o : Outcome). o.left_open) (early_is_late setup requests eager may))

abbrev IsRenamedBy : Option Script → Report → Type 0
IsRenamedBy script r = r.accepted ≡ true → MatchOption script (Unit {0}) (λ script. RenamesIds script r.written)

by_read : (read : OpeningRead) (settings : Settings) (n : ℕ) (lines : List (List ℕ))
    → IsRenamedBy (Some (record { settings = settings; line_number = n; lines = lines })) (report_on_opening read (report_on signal.Traces (setup_by settings) [] n 0 lines) n)
by_read (Err unread) settings n lines accepted = absurd (cc accepted)
by_read (Ok read) settings n lines accepted = renames settings n lines accepted

by_line : (b : Bool) (spelled : Result Settings Told) (n : ℕ) (lines : List (List ℕ)) → IsRenamedBy (script_from (n + 1) lines) (report_from signal.Traces (n + 1) lines)
    → IsRenamedBy (if b then script_from (n + 1) lines else script_by spelled (n + 1) lines)
    (if b then report_from signal.Traces (n + 1) lines else report_on_settings spelled (λ settings. report_on signal.Traces (setup_by settings) [] (n + 1) 0 lines) (n + 1))
by_line true spelled n lines rest = rest
by_line false (Err why) n lines rest = λ accepted. absurd (cc accepted)
by_line false (Ok settings) n lines rest = by_read (opening_read settings.filter settings.counting) settings (n + 1) lines

renamed_from : (lines : List (List ℕ)) (n : ℕ) → IsRenamedBy (script_from n lines) (report_from signal.Traces n lines)
renamed_from [] n = λ accepted. absurd (cc accepted)
renamed_from (text ∷ lines) n = by_line (is_blank text) (settings_spelled text) n lines (renamed_from lines (n + 1))

pub is_renamed : (lines : List (List ℕ)) → accepts lines ≡ true → IsRenamed lines (report_from signal.Traces 0 lines).written
is_renamed lines accepted = renamed_from lines 0 accepted
