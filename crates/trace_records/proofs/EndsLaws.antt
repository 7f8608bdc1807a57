-- What a run that tells traces writes last for the same lines.
use Rattle.std.proofs.Common.{◌≡◌, ℕ, ◌+◌, List, [], ◌∷◌, ◌++◌, refl, sym, ap, ◌∙◌, length, append_assoc, length-append, Bool, true, false, None, Result, Ok, Err, if◌then◌else◌}
use Rattle.trace_records.proofs.Common.{Record, Settings, OpeningRead, opening_read, open_spans, records_of_history, Setup, setup_by, History, Effect, no_tables, tables, records_of, records_push, Told, is_blank, settings_spelled, Report, report_on_effect, effect_of_line, answer_text, report_on, report_from, report_on_settings, report_on_opening, ScriptResult, run_unless_refused, setup_if_read, setup_of_settings, setup_of_line, lanes_on, script_on, script_from, script_of, EndsWith, last_line_of}
use Rattle.trace_lines.specs.declared.signal.Signal.TheVariants as signal
use Rattle.trace_lines.specs.text.Texts.{end_text}

ends_if : (b : Bool) (v w : ScriptResult) (x y : Report) → EndsWith (last_line_of v) x.written → EndsWith (last_line_of w) y.written → EndsWith (last_line_of (if b then v else w)) (if b then x else y).written
ends_if true v w x y first second = first
ends_if false v w x y first second = second

ends_all : (text : List ℕ) → EndsWith text text
ends_all text = ([], refl)

ends_behind : (front last text : List ℕ) → EndsWith last text → EndsWith last (front ++ text)
ends_behind front last text ends = (front ++ ends.0, ap (λ (t : List ℕ). front ++ t) ends.1 ∙ sym (append_assoc front ends.0 last))

ends_following : (r : Result Effect Told) (go : Effect → Report) (goes : Effect → ScriptResult) (line : ℕ) → ((e : Effect) → EndsWith (last_line_of (goes e)) (go e).written)
    → EndsWith (last_line_of (run_unless_refused r line goes)) (report_on_effect r go line).written
ends_following (Ok e) go goes line same = same e
ends_following (Err why) go goes line same = ends_all _

ends_on : (setup : Setup) (h : History) (lanes : List ℕ) (n count : ℕ) (lines : List (List ℕ)) → count ≡ length (records_of_history setup h)
    → EndsWith (last_line_of (script_on setup h lanes n lines)) (report_on signal.Traces setup h n count lines).written
ends_on setup h lanes n count [] is = ([], ap (λ (c : ℕ). end_text (open_spans (tables setup h)) c) is)
ends_on setup h lanes n count (text ∷ lines) is =
    ends_if (is_blank text) _ _ _ _ (ends_on setup h lanes (n + 1) count lines is)
    (ends_following (effect_of_line setup (tables setup h) text) _ _ (n + 1)
    (λ e.
    let finished : List Record = records_of (tables setup h) e in
    let more : count + length finished ≡ length (records_of_history setup (h ++ e ∷ [])) =
    ap (λ (c : ℕ). c + length finished) is ∙ sym (length-append (records_of_history setup h) finished) ∙ sym (ap length (records_push (no_tables setup) h e)) in
    ends_behind (answer_text signal.Traces (n + 1) count e.reply finished e.measures) _ _
    (ends_on setup (h ++ e ∷ []) (lanes ++ lanes_on text finished) (n + 1) (count + length finished) lines more)))

ends_read : (read : OpeningRead) (report : Report) (setup : Setup) (goes : Setup → ScriptResult) (line : ℕ) → EndsWith (last_line_of (goes setup)) report.written
    → EndsWith (last_line_of (run_unless_refused (setup_if_read read true setup) line goes)) (report_on_opening read report line).written
ends_read (Ok read) report setup goes line same = same
ends_read (Err unread) report setup goes line same = ends_all _

ends_opening : (s : Result Settings Told) (go : Settings → Report) (goes : Setup → ScriptResult) (line : ℕ) → ((settings : Settings) → EndsWith (last_line_of (goes (setup_by settings))) (go settings).written)
    → EndsWith (last_line_of (run_unless_refused (setup_of_settings None s) line goes)) (report_on_settings s go line).written
ends_opening (Ok settings) go goes line same = ends_read (opening_read settings.filter settings.counting) (go settings) (setup_by settings) goes line (same settings)
ends_opening (Err why) go goes line same = ends_all _

ends_from : (n : ℕ) (lines : List (List ℕ)) → EndsWith (last_line_of (script_from None n lines)) (report_from signal.Traces n lines).written
unfolding setup_of_line
ends_from n [] = ends_all _
ends_from n (text ∷ lines) =
    ends_if (is_blank text) _ _ _ _ (ends_from (n + 1) lines)
    (ends_opening (settings_spelled text) _ _ (n + 1) (λ settings. ends_on (setup_by settings) [] [] (n + 1) 0 lines refl))

pub ends_with : (lines : List (List ℕ)) → EndsWith (last_line_of (script_of None lines)) (report_from signal.Traces 0 lines).written
ends_with lines = ends_from 0 lines
