-- What a script's answers tell of its spans.
use Rattle.std.proofs.Common.{◌≡◌, ℕ, ◌≤◌, ◌&&◌, List, [], ◌∷◌, ◌++◌, length, Bool, not, Option, Some, Ok, refl, sym, ap, subst, ◌∙◌, inl, inr, nat_lt, slice_get}
use Rattle.trace_laws.proofs.Common.{cases_lt, Record, Request, opening_read, is_open, history_of, records_of_history, Setup, setup_by, Effect, History, no_tables, tables, answers, IsHistory, none, occurrences, EachRecord, Script, script_from, requests_of, lines_of, output, AnswersEach, AreAnswers, HoldsCalls, TellsSpans, TellsScript, IsOutput, first_line_number, opened_text}
use Rattle.std.proofs.lemmas.Bool.{lt-ltb, le-ltb}
use Rattle.span_laws.specs.Makings.{HasContextOf}
use Rattle.span_laws.proofs.spans.ChildrenLemmas.{children_first}
use Rattle.span_laws.proofs.records.HistoriesLemmas.{closed_once, closed_when_ended, only_made_closed}
use Rattle.span_laws.proofs.records.MadeRecordsLemmas.{IsStepOf, each_known}
use Rattle.span_laws.proofs.spans.RequestedSpansLemmas.{if_admitted}
use Rattle.span_laws.proofs.records.OwnContextsLemmas.{is_under}
use Rattle.span_laws.proofs.steps.LegalLemmas.{scripts_are_legal}
use Rattle.trace_base.specs.Spans.{is_in}
use Rattle.trace_lines.specs.declared.signal.Signal.TheVariants as signal
use Rattle.trace_laws.proofs.FrontsLemmas.{answers_each, closed_is, front_legal, front_step, is_refused, records_are, replies_are}
use Rattle.trace_laws.proofs.OutputLemmas.{is_output}

-- which spans a legal history has closed
ended : (setup : Setup) (h : History) (s : ℕ) → IsHistory setup h → is_in s (tables setup h).closed ≡ (nat_lt s (length (tables setup h).spans) && not (is_open (tables setup h).handles s))
ended setup h s legal = elim (cases_lt s (length (tables setup h).spans)) [
  | inl made ↦ closed_when_ended setup h s legal made ∙ ap (λ (b : Bool). b && not (is_open (tables setup h).handles s)) (sym (lt-ltb s (length (tables setup h).spans) made))
  | inr past ↦ only_made_closed setup h s legal past ∙ ap (λ (b : Bool). b && not (is_open (tables setup h).handles s)) (sym (le-ltb s (length (tables setup h).spans) past))
]

module _ (setup : Setup) (requests : List Request) where
  abbrev h : History
  h = history_of setup requests

  legal : IsHistory setup h
  legal = scripts_are_legal setup requests

  -- each effect is that of the request at its place, behind a legal front
  abbrev IsAt : History → Request → Type 0
  IsAt fore request = slice_get requests (length fore) ≡ Some request

  step_at : (fore rest : History) (e : Effect) → h ≡ fore ++ e ∷ rest → IsStepOf setup fore e IsAt
  step_at fore rest e is =
      let step = front_step setup requests (no_tables setup) fore rest e is in
      (step.0, step.1, front_legal setup requests [] (no_tables setup) refl none fore (e ∷ rest) is, step.2)

  -- what holds of each record holds of it behind its reply
  each_answer : (P : ℕ → Record → Type 0) → EachRecord P (tables setup h).closed (records_of_history setup h) → AnswersEach P h (answers setup requests)
  each_answer P each = answers_each setup P requests [] (no_tables setup) refl none (subst (λ (ids : List ℕ). EachRecord P ids (records_of_history setup h)) (closed_is (no_tables setup) h) each)

  pub tells_spans : TellsSpans setup requests h (answers setup requests)
  tells_spans = record {
    legal = legal;
    refused = is_refused setup requests (no_tables setup);
    admitted = λ fore rest e is.
        let step = step_at fore rest e is in
        record { request = step.0; is_request = step.1; effect = step.3; made = if_admitted setup fore step.0 e step.2 step.3 };
    answered = each_answer (HoldsCalls setup requests h) (each_known setup h legal IsAt step_at);
    contexts = each_answer (HasContextOf setup h) (is_under setup h legal);
    once = λ s. subst (λ (ids : List ℕ). occurrences s ids ≤ 1) (closed_is (no_tables setup) h) (closed_once setup h s legal);
    when_ended = λ fore rest s is.
        subst (λ (ids : List ℕ). is_in s ids ≡ (nat_lt s (length (tables setup fore).spans) && not (is_open (tables setup fore).handles s))) (closed_is (no_tables setup) fore)
        (ended setup fore s (front_legal setup requests [] (no_tables setup) refl none fore rest is));
    child_first = λ s p up fore rest above is. children_first setup h s p up fore rest legal above (closed_is (no_tables setup) h ∙ is);
  }

  pub are_answers : AreAnswers setup requests (answers setup requests)
  are_answers = record { replies = replies_are (no_tables setup) h; records = records_are (no_tables setup) h }

pub tells_script : (bytes : List ℕ) (script : Script) → script_from 0 (lines_of bytes) ≡ Some script
    → opening_read script.settings.filter script.settings.counting ≡ Ok tt → TellsScript script (output signal.Traces bytes)
tells_script bytes script is read = record {
  written = subst (λ (o : Option Script). IsOutput (first_line_number 0 (lines_of bytes)) o (output signal.Traces bytes)) is (is_output bytes) ∙ ap (λ r. opened_text r script) read;
  outcome = are_answers (setup_by script.settings) (requests_of script.lines);
  spans = tells_spans (setup_by script.settings) (requests_of script.lines);
}
