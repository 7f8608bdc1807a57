-- A made script whose requests have effects is valid.
use Rattle.trace_lines.proofs.Common.{Effect, Err, History, IsValid, List, Ok, OpeningRead, Option, Report, Request, Resolved, Setup, Some, [], accepts, answer_count, ap, effect_of, effect_of_line, effect_of_request, generated_requests, generated_script, generated_settings, generated_setup, history_after, history_unless_refused, map, opening_read, records_of, refl, report_on, report_on_effect, report_on_opening, request_line, step_or_refusal, tables, true, ℕ, ◌++◌, ◌+◌, ◌∙◌, ◌∷◌, ◌≡◌, ◌≤◌}
use Rattle.trace_lines.specs.declared.signal.Signal.TheVariants as signal
use Rattle.trace_lines.proofs.made.LinesLemmas.{Each, HasLine, made_each, script_lines, script_short, settings_read}

step_accepted : (resolved : Resolved) (next : Effect → Option History) (go : Effect → Report) (line : ℕ) (h : History) → history_unless_refused resolved next ≡ Some h
    → ((e : Effect) → next e ≡ Some h → (go e).accepted ≡ true) → (report_on_effect (step_or_refusal resolved) go line).accepted ≡ true
step_accepted (Ok e) next go line h is on = on e is
step_accepted (Err why) next go line h is on = absurd (cc is)

effect_is : (setup : Setup) (h : History) (r : Request) → HasLine r → effect_of_line setup (tables setup h) (request_line r) ≡ step_or_refusal (effect_of setup (tables setup h) r)
unfolding effect_of_line
effect_is setup h r line = ap (effect_of_request setup (tables setup h)) line.spells

accepted_on : (setup : Setup) (h : History) (n count : ℕ) (requests : List Request) (all : History) → Each HasLine requests → history_after setup h requests ≡ Some all
    → (report_on signal.Traces setup h n count (map request_line requests)).accepted ≡ true
accepted_on setup h n count [] all lines is = refl
accepted_on setup h n count (r ∷ requests) all lines is =
    rw (lines.0.shown, effect_is setup h r lines.0)
    (step_accepted (effect_of setup (tables setup h) r) (λ e. history_after setup (h ++ e ∷ []) requests) _ (n + 1) all is
    (λ e on. accepted_on setup (h ++ e ∷ []) (n + 1) (count + answer_count signal.Traces (records_of (tables setup h) e) e.measures) requests all lines.1 on))

is_opened : (read : OpeningRead) (report : Report) (line : ℕ) → read ≡ Ok tt → report_on_opening read report line ≡ report
is_opened read report line is = rw is refl

pub made_valid : (n : ℕ) (h : History) → n ≤ 50000 → opening_read generated_settings.filter generated_settings.counting ≡ Ok tt → history_after generated_setup [] (generated_requests n) ≡ Some h → IsValid (generated_script n)
made_valid n h few read is = record {
  short = script_short n few;
  accepted = ap (λ ls. accepts ls) (script_lines n few) ∙ rw (accepts, settings_read)
      (ap (λ (r : Report). r.accepted) (is_opened (opening_read generated_settings.filter generated_settings.counting) (report_on signal.Traces generated_setup [] 1 0 (map request_line (generated_requests n))) 1 read)
      ∙ accepted_on generated_setup [] 1 0 (generated_requests n) h (made_each n few) is);
}
