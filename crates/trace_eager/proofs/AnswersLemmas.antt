-- The report on lines of which none is refused is the text of their requests' answers.
use Rattle.std.proofs.Common.{◌≡◌, ℕ, ◌+◌, List, [], ◌∷◌, ◌++◌, length, fold, Bool, true, false, Result, Ok, Err, refl, ap, ◌∙◌}
use Rattle.std.specs.Prelude.{if◌then◌else◌}
use Rattle.std.proofs.lemmas.List.Sums.{fold_push}
use Rattle.span_script.specs.declared.request.Request.{Request}
use Rattle.span_script.specs.calls.Here.{Resolved}
use Rattle.span_script.specs.Effects.{effect_of}
use Rattle.span_script.specs.calls.Spans.{open_spans}
use Rattle.span_script.specs.Outcomes.{with_effects_behind, history_from, outcome_of}
use Rattle.span_script.specs.Setups.{Setup}
use Rattle.span_script.specs.Tables.{Effect, History, Tables, after_effect, no_tables, records_of, tables}
use Rattle.span_eager.specs.Early.{answers, answers_from}
use Rattle.trace_lines.specs.declared.signal.Signal.TheVariants as signal
use Rattle.trace_lines.specs.declared.told.Told.{Told}
use Rattle.trace_lines.specs.Lines.{is_blank}
use Rattle.trace_lines.specs.Report.{Report, with_text_before, step_or_refusal, effect_of_line, effect_of_request, report_on_effect, report_on, answer_text, answer_count}
use Rattle.trace_lines.specs.reading.Spelled.{request_spelled}
use Rattle.trace_eager.specs.Written.{answers_text, with_request_if_spelled, line_numbers, requests_of}

module _ (setup : Setup) where
  -- what stands on lines, behind a history, after so many lines and records
  abbrev report : History → ℕ → ℕ → List (List ℕ) → Report
  report h n count lines = report_on signal.Traces setup h n count lines

  abbrev text_on : Tables → ℕ → List ℕ → History → List ℕ
  text_on t count ns rest = answers_text count ns (answers_from t rest) (open_spans (fold after_effect t rest))

  abbrev IsText : Report → Tables → ℕ → List ℕ → List Request → Type 0
  IsText r t count ns requests = r.accepted ≡ true → r.written ≡ text_on t count ns (history_from setup t requests)

  module _ (lines : List (List ℕ)) (behind_it : (h : History) (n count : ℕ) → IsText (report h n count lines) (tables setup h) count (line_numbers n lines) (requests_of lines)) (h : History) (n count : ℕ) where
    abbrev t : Tables
    t = tables setup h

    abbrev go : Effect → Report
    go e = with_text_before (answer_text signal.Traces (n + 1) count e.reply (records_of t e) e.measures) (report (h ++ e ∷ []) (n + 1) (count + answer_count signal.Traces (records_of t e) e.measures) lines)

    by_effect : (r : Resolved) → (report_on_effect (step_or_refusal r) go (n + 1)).accepted ≡ true
        → (report_on_effect (step_or_refusal r) go (n + 1)).written ≡ text_on t count ((n + 1) ∷ line_numbers (n + 1) lines) (with_effects_behind r (λ e. history_from setup (after_effect t e) (requests_of lines)))
    by_effect (Err refusal) accepted = absurd (cc accepted)
    by_effect (Ok e) accepted =
        let more = count + length (records_of t e) in
        ap (λ (rest : List ℕ). answer_text signal.Traces (n + 1) count e.reply (records_of t e) e.measures ++ rest)
        (behind_it (h ++ e ∷ []) (n + 1) more accepted
        ∙ ap (λ (u : Tables). text_on u more (line_numbers (n + 1) lines) (history_from setup u (requests_of lines))) (fold_push after_effect (no_tables setup) h e))

    pub by_blank : (b : Bool) (spelled : Result Request Told)
        → IsText (if b then report h (n + 1) count lines else report_on_effect (effect_of_request setup t spelled) go (n + 1)) t count
        (if b then line_numbers (n + 1) lines else (n + 1) ∷ line_numbers (n + 1) lines) (if b then requests_of lines else with_request_if_spelled spelled (requests_of lines))
    by_blank true spelled accepted = behind_it h (n + 1) count accepted
    by_blank false (Err why) accepted = absurd (cc accepted)
    by_blank false (Ok request) accepted = by_effect (effect_of setup t request) accepted

  text_is : (lines : List (List ℕ)) (h : History) (n count : ℕ) → IsText (report h n count lines) (tables setup h) count (line_numbers n lines) (requests_of lines)
  unfolding effect_of_line
  text_is [] h n count accepted = refl
  text_is (text ∷ lines) h n count accepted = by_blank lines (text_is lines) h n count (is_blank text) (request_spelled text) accepted

pub text_of_answers : (setup : Setup) (n : ℕ) (lines : List (List ℕ)) → (report_on signal.Traces setup [] n 0 lines).accepted ≡ true
    → (report_on signal.Traces setup [] n 0 lines).written ≡ answers_text 0 (line_numbers n lines) (answers setup (requests_of lines)) (outcome_of setup (requests_of lines)).left_open
text_of_answers setup n lines accepted = text_is setup lines [] n 0 accepted
