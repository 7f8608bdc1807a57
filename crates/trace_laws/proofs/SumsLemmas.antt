-- The summary of a made script counts what is written of it.
use Rattle.std.proofs.Common.{◌≡◌, ℕ, ◌+◌, ◌≤◌, List, [], ◌∷◌, ◌++◌, length, map, Bool, true, Option, Some, None, Ok, Err, refl, sym, ap, ap₂, subst, ◌∙◌, arith, append-nil, option_and_then, if◌then◌else◌}
use Rattle.trace_laws.proofs.Common.{range_with_len, Record, Refusal, Reply, Request, OpeningRead, opening_read, Resolved, effect_of, open_spans, history_from, history_of, outcome_of, records_of_history, refusal_at, refusal_behind, Setup, Effect, History, Tables, after_effect, no_tables, tables, answers, answers_from, Script, script_from, line_numbers, requests_of, Told, lines_of, IsValid, Report, accepts, report_on_opening, output, report_on, end_text, Counts, records_in, IsOutput, first_line_number, answer_lines, last_line, opened_text, outcome_text, first_bad_line}
use Rattle.std.specs.List.{sum_by}
use Rattle.std.proofs.lemmas.List.{length-append}
use Rattle.std.proofs.lemmas.List.FromFn.{length-range_with_len}
use Rattle.std.proofs.lemmas.Option.{slice_get_past}
use Rattle.span_script.proofs.runs.RunLemmas.{goes_on_with}
use Rattle.trace_lines.specs.declared.signal.Signal.TheVariants as signal
use Rattle.trace_lines.specs.Generated.{generated_lines, generated_requests, generated_script, generated_settings, generated_setup, request_line}
use Rattle.trace_lines.specs.Replay.{busy_of, event_count, history_unless_refused, history_after, summary_of}
use Rattle.trace_lines.proofs.made.LinesLemmas.{Each, HasLine, made_each, script_lines, settings_read}
use Rattle.trace_laws.proofs.FeedsLemmas.{all_lines, end_line}
use Rattle.trace_laws.proofs.FrontsLemmas.{records_are}
use Rattle.trace_laws.proofs.OutputLemmas.{is_output}

-- ---- the requests of the lines

requests_back : (requests : List Request) → Each HasLine requests → requests_of (map request_line requests) ≡ requests
requests_back [] all = refl
requests_back (r ∷ requests) all = rw (all.0.shown, all.0.spells, requests_back requests all.1) refl

all_spelled : (n : ℕ) (requests : List Request) → Each HasLine requests → first_bad_line n (map request_line requests) ≡ None
all_spelled n [] all = refl
all_spelled n (r ∷ requests) all = rw (all.0.shown, all.0.spells) (all_spelled (n + 1) requests all.1)

numbers_are : (n : ℕ) (requests : List Request) → Each HasLine requests → line_numbers n (map request_line requests) ≡ range_with_len (n + 1) (length requests)
numbers_are n [] all = refl
numbers_are n (r ∷ requests) all =
    let behind = line_numbers (n + 1) (map request_line requests) in
    ap (λ (b : Bool). if b then behind else (n + 1) ∷ behind) all.0.shown ∙ ap (λ (numbers : List ℕ). (n + 1) ∷ numbers) (numbers_are (n + 1) requests all.1)

made_from : (n : ℕ) → n ≤ 50000 → script_from 0 (lines_of (generated_script n)) ≡ Some (record { settings = generated_settings; line_number = 1; lines = map request_line (generated_requests n) })
made_from n few = ap (script_from 0) (script_lines n few) ∙ rw settings_read refl

-- ---- the history of requests that are all served

going : (r : Resolved) (next : Effect → Option History) (h : History) → history_unless_refused r next ≡ Some h → (e : Effect) × (r ≡ Ok e) × (next e ≡ Some h)
going (Ok e) next h is = (e, refl, is)
going (Err why) next h is = absurd (cc is)

module _ (setup : Setup) where
  replayed_is : (requests : List Request) (h all : History) → history_after setup h requests ≡ Some all → all ≡ h ++ history_from setup (tables setup h) requests
  replayed_is [] h all is = (let same : h ≡ all = cc is in sym same ∙ sym (append-nil h))
  replayed_is (r ∷ requests) h all is =
      let on = going (effect_of setup (tables setup h) r) (λ e. history_after setup (h ++ e ∷ []) requests) all is in
      replayed_is requests (h ++ on.0 ∷ []) all on.2 ∙ sym (goes_on_with setup h r requests on.0 on.1)

  replayed_many : (requests : List Request) (h all : History) → history_after setup h requests ≡ Some all → length all ≡ length h + length requests
  replayed_many [] h all is = (let same : h ≡ all = cc is in let many = ap (λ (x : History). length x) same in omega (arith, many))
  replayed_many (r ∷ requests) h all is =
      let on = going (effect_of setup (tables setup h) r) (λ e. history_after setup (h ++ e ∷ []) requests) all is in
      let rest = replayed_many requests (h ++ on.0 ∷ []) all on.2 in
      let one = length-append h (on.0 ∷ []) in
      omega (arith, rest, one)

  none_refused : (requests : List Request) (h : History) → length requests ≤ length h → refusal_behind setup requests h ≡ None
  none_refused requests h all = ap (option_and_then (λ request. refusal_at (length h) (effect_of setup (tables setup h) request))) (slice_get_past requests (length h) all)

answers_many : (setup : Setup) (requests : List Request) → length (answers setup requests) ≡ length (history_of setup requests)
answers_many setup requests = by_history (history_of setup requests) (no_tables setup)
  where
    by_history : (h : History) (t : Tables) → length (answers_from t h) ≡ length h
    by_history [] t = refl
    by_history (e ∷ h) t = let rest = by_history h (after_effect t e) in omega (arith, rest)

-- ---- the summary

is_opened : (read : OpeningRead) (report : Report) (line : ℕ) → (report_on_opening read report line).accepted ≡ true → read ≡ Ok tt
is_opened (Ok read) report line accepted = refl
is_opened (Err unread) report line accepted = absurd (cc accepted)

module _ (n : ℕ) (few : n ≤ 50000) (valid : IsValid (generated_script n)) (h : History) (is : history_after generated_setup [] (generated_requests n) ≡ Some h) where
  abbrev requests : List Request
  requests = generated_requests n

  abbrev lines : List (List ℕ)
  lines = map request_line requests

  abbrev script : Script
  script = record { settings = generated_settings; line_number = 1; lines = lines }

  abbrev all : List (Reply × List Record)
  all = answers generated_setup requests

  abbrev done : History
  done = history_of generated_setup requests

  each : Each HasLine requests
  each = made_each n few

  same : h ≡ done
  same = replayed_is generated_setup requests [] h is

  many : length done ≡ length requests
  many = let count = replayed_many generated_setup requests [] h is in let alike = ap (λ (x : History). length x) same in omega (arith, count, alike)

  opening_is : accepts (generated_lines n) ≡ (report_on_opening (opening_read generated_settings.filter generated_settings.counting) (report_on signal.Traces generated_setup [] 1 0 lines) 1).accepted
  opening_is = rw (accepts, settings_read) refl

  read : opening_read generated_settings.filter generated_settings.counting ≡ Ok tt
  read = is_opened (opening_read generated_settings.filter generated_settings.counting) (report_on signal.Traces generated_setup [] 1 0 lines) 1
      (sym opening_is ∙ sym (ap (λ ls. accepts ls) (script_lines n few)) ∙ valid.accepted)

  abbrev numbers : List ℕ
  numbers = range_with_len 2 (length all)

  numbered : line_numbers 1 lines ≡ numbers
  numbered = let answered = answers_many generated_setup requests in numbers_are 1 requests each ∙ ap (range_with_len 2) (omega (arith, many, answered))

  written : output signal.Traces (generated_script n) ≡ answer_lines 0 numbers all ++ end_text (open_spans (tables generated_setup done)) (length (records_of_history generated_setup done))
  written =
      subst (λ (o : Option Script). IsOutput (first_line_number 0 (lines_of (generated_script n))) o (output signal.Traces (generated_script n))) (made_from n few) (is_output (generated_script n))
      ∙ ap (λ (r : OpeningRead). opened_text r script) read
      ∙ ap (λ (rs : List Request). outcome_text (line_numbers 1 lines) (first_bad_line 1 lines) (answers generated_setup rs) (outcome_of generated_setup rs)) (requests_back requests each)
      ∙ ap₂ (λ (refused : Option (ℕ × Refusal)) (unread : Option (ℕ × Told)). answer_lines 0 (line_numbers 1 lines) all ++ last_line (line_numbers 1 lines) refused unread (open_spans (tables generated_setup done)) (length (records_of_history generated_setup done)))
      (none_refused generated_setup requests done (omega (arith, many))) (all_spelled 1 requests each)
      ∙ ap (λ (ns : List ℕ). answer_lines 0 ns all ++ end_text (open_spans (tables generated_setup done)) (length (records_of_history generated_setup done))) numbered

  counted : Counts (output signal.Traces (generated_script n)) all (summary_of generated_setup done)
  counted =
      let found : records_in all ≡ records_of_history generated_setup done = records_are (no_tables generated_setup) done in
      let answered = answers_many generated_setup requests in
      let recorded = ap (λ (rs : List Record). length rs) found in
      record {
        is = written;
        requests = sym answered;
        records = sym recorded;
        events = ap (λ (rs : List Record). sum_by event_count rs) (sym found);
        busy = ap (λ (rs : List Record). sum_by busy_of rs) (sym found);
        lines =
            let apart = all_lines 0 numbers all (end_text (open_spans (tables generated_setup done)) (length (records_of_history generated_setup done))) (length-range_with_len 2 (length all)) in
            let last = end_line (open_spans (tables generated_setup done)) (length (records_of_history generated_setup done)) in
            let whole = ap (λ (text : List ℕ). length (lines_of text)) written in
            omega (arith, answered, recorded, apart, last, whole);
      }

  pub made_counts : Counts (output signal.Traces (generated_script n)) all (summary_of generated_setup h)
  made_counts = subst (λ (x : History). Counts (output signal.Traces (generated_script n)) all (summary_of generated_setup x)) (sym same) counted
