-- What is written for request lines are the lines of their answers, and the last line is that of the outcome.
use Rattle.std.proofs.Common.{◌≡◌, ℕ, suc, ◌+◌, List, [], ◌∷◌, ◌++◌, length, fold, Bool, true, false, Option, Some, None, Result, Ok, Err, refl, sym, ap, ◌∙◌, arith, append_assoc, if◌then◌else◌, slice_get, option_and_then}
use Rattle.std.proofs.lemmas.List.{length-append}
use Rattle.trace_laws.proofs.Common.{fold_push, Refusal, Request, Resolved, effect_of, open_spans, with_effects_behind, history_from, records_from, refusal_at, Setup, Effect, History, Tables, after_effect, no_tables, records_of, tables, answers_from, with_request_if_spelled, line_numbers, requests_of, Told, is_blank, Report, with_text_before, step_or_refusal, effect_of_line, effect_of_request, report_on_effect, report_on, answer_text, answer_count, request_spelled, answer_lines, last_line, first_bad_line, bad_line_or}
use Rattle.trace_lines.specs.declared.signal.Signal.TheVariants as signal

module _ (setup : Setup) where
  -- what stands on lines, behind a history, after so many lines and records
  abbrev report : History → ℕ → ℕ → List (List ℕ) → Report
  report h n count lines = report_on signal.Traces setup h n count lines

  -- the first refused request behind a history that requests give from some tables on
  abbrev refused_of : Tables → List Request → History → Option (ℕ × Refusal)
  refused_of t requests h = option_and_then (λ request. refusal_at (length h) (effect_of setup (fold after_effect t h) request)) (slice_get requests (length h))

  abbrev text_by : Tables → ℕ → List ℕ → Option (ℕ × Told) → List Request → History → List ℕ
  text_by t count numbers unread requests h =
      answer_lines count numbers (answers_from t h)
      ++ last_line numbers (refused_of t requests h) unread (open_spans (fold after_effect t h)) (count + length (records_from t h))

  abbrev text_of : Tables → ℕ → ℕ → List (List ℕ) → List ℕ
  text_of t n count lines = text_by t count (line_numbers n lines) (first_bad_line n lines) (requests_of lines) (history_from setup t (requests_of lines))

  -- a request in front counts its number away
  shifted : (o : Option Request) (f : Request → Resolved) (p number : ℕ) (numbers : List ℕ) (unread : Option (ℕ × Told)) (left count : ℕ)
      → last_line numbers (option_and_then (λ request. refusal_at p (f request)) o) unread left count
      ≡ last_line (number ∷ numbers) (option_and_then (λ request. refusal_at (suc p) (f request)) o) unread left count
  shifted None f p number numbers None left count = refl
  shifted None f p number numbers (Some u) left count = refl
  shifted (Some request) f p number numbers unread left count = by_effect (f request) unread
    where
      by_effect : (r : Resolved) (unread : Option (ℕ × Told)) → last_line numbers (refusal_at p r) unread left count ≡ last_line (number ∷ numbers) (refusal_at (suc p) r) unread left count
      by_effect (Ok e) None = refl
      by_effect (Ok e) (Some u) = refl
      by_effect (Err why) unread = refl

  module _ (lines : List (List ℕ)) (behind_it : (h : History) (n count : ℕ) → (report h n count lines).written ≡ text_of (tables setup h) n count lines) (h : History) (n count : ℕ) where
    abbrev t : Tables
    t = tables setup h

    abbrev go : Effect → Report
    go e = with_text_before (answer_text signal.Traces (n + 1) count e.reply (records_of t e) e.measures) (report (h ++ e ∷ []) (n + 1) (count + answer_count signal.Traces (records_of t e) e.measures) lines)

    abbrev later : Effect → History
    later e = history_from setup (after_effect t e) (requests_of lines)

    -- one effect more in front
    in_turn : (request : Request) (e : Effect) (rest : List ℕ) → rest ≡ text_of (after_effect t e) (n + 1) (count + length (records_of t e)) lines
        → answer_text signal.Traces (n + 1) count e.reply (records_of t e) e.measures ++ rest
        ≡ text_by t count ((n + 1) ∷ line_numbers (n + 1) lines) (first_bad_line (n + 1) lines) (request ∷ requests_of lines) (e ∷ later e)
    in_turn request e rest is =
        let first = answer_text signal.Traces (n + 1) count e.reply (records_of t e) e.measures in
        let more = count + length (records_of t e) in
        let numbers = line_numbers (n + 1) lines in
        let unread = first_bad_line (n + 1) lines in
        let left = open_spans (fold after_effect (after_effect t e) (later e)) in
        let many = length-append (records_of t e) (records_from (after_effect t e) (later e)) in
        let sum : more + length (records_from (after_effect t e) (later e)) ≡ count + length (records_of t e ++ records_from (after_effect t e) (later e)) = omega (arith, many) in
        ap (λ (text : List ℕ). first ++ text) is
        ∙ ap (λ (text : List ℕ). first ++ (answer_lines more numbers (answers_from (after_effect t e) (later e)) ++ text))
        (shifted (slice_get (requests_of lines) (length (later e))) (λ q. effect_of setup (fold after_effect (after_effect t e) (later e)) q) (length (later e)) (n + 1) numbers unread left (more + length (records_from (after_effect t e) (later e)))
        ∙ ap (λ (many : ℕ). last_line ((n + 1) ∷ numbers) (refused_of t (request ∷ requests_of lines) (e ∷ later e)) unread left many) sum)
        ∙ sym (append_assoc first (answer_lines more numbers (answers_from (after_effect t e) (later e))) (last_line ((n + 1) ∷ numbers) (refused_of t (request ∷ requests_of lines) (e ∷ later e)) unread left (count + length (records_of t e ++ records_from (after_effect t e) (later e)))))

    by_effect : (request : Request) (r : Resolved) → effect_of setup t request ≡ r
        → (report_on_effect (step_or_refusal r) go (n + 1)).written
        ≡ text_by t count ((n + 1) ∷ line_numbers (n + 1) lines) (first_bad_line (n + 1) lines) (request ∷ requests_of lines) (with_effects_behind r later)
    by_effect request (Err why) is =
        ap (λ (x : Resolved). last_line ((n + 1) ∷ line_numbers (n + 1) lines) (refusal_at 0 x) (first_bad_line (n + 1) lines) (open_spans t) (count + 0)) (sym is)
    by_effect request (Ok e) is =
        let more = count + length (records_of t e) in
        in_turn request e _ (behind_it (h ++ e ∷ []) (n + 1) more ∙ ap (λ (u : Tables). text_of u (n + 1) more lines) (fold_push after_effect (no_tables setup) h e))

    pub by_blank : (b : Bool) (spelled : Result Request Told)
        → (if b then report h (n + 1) count lines else report_on_effect (effect_of_request setup t spelled) go (n + 1)).written
        ≡ text_by t count (if b then line_numbers (n + 1) lines else (n + 1) ∷ line_numbers (n + 1) lines)
        (if b then first_bad_line (n + 1) lines else bad_line_or spelled (n + 1) (first_bad_line (n + 1) lines))
        (if b then requests_of lines else with_request_if_spelled spelled (requests_of lines))
        (history_from setup t (if b then requests_of lines else with_request_if_spelled spelled (requests_of lines)))
    by_blank true spelled = behind_it h (n + 1) count
    by_blank false (Err why) = refl
    by_blank false (Ok request) = by_effect request (effect_of setup t request) refl

  pub text_is : (lines : List (List ℕ)) (h : History) (n count : ℕ) → (report h n count lines).written ≡ text_of (tables setup h) n count lines
  unfolding effect_of_line
  text_is [] h n count = ap (λ (k : ℕ). last_line [] None None (open_spans (tables setup h)) k) (omega arith)
  text_is (text ∷ lines) h n count = by_blank lines (text_is lines) h n count (is_blank text) (request_spelled text)
