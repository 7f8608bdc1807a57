-- The record lines of requests that a pipeline runs one after another.
use Rattle.std.proofs.Common.{◌≡◌, ℕ, ◌+◌, List, [], ◌∷◌, ◌++◌, length, None, refl, sym, ap, subst, ◌∙◌, append_assoc, append-nil, length-append, slice_get, add-one, arith}
use Rattle.std.specs.Prelude.{option_and_then, Result, Ok, Err, IfOk, OnOk}
use Rattle.std.proofs.lemmas.List.{length_push}
use Rattle.std.proofs.Math.Nat.{add-zero, zero-add}
use Rattle.otel_base.specs.declared.memory.Memory.{Memory}
use Rattle.otel_base.specs.declared.record.Record.{Record}
use Rattle.span_script.specs.declared.reply.Reply.{Reply}
use Rattle.span_script.specs.declared.request.Request.{Request}
use Rattle.span_script.specs.Setups.{Setup}
use Rattle.span_script.specs.Tables.{History, Tables, no_tables, tables, records_of}
use Rattle.span_script.specs.Effects.{effect_of}
use Rattle.span_script.specs.calls.Spans.{open_spans}
use Rattle.span_script.specs.Fits.{PipelineState, StandsFor, IsServedByHistory}
use Rattle.span_script.specs.Outcomes.{history_from, history_of, records_of_history, refusal_at, refusal_behind, outcome_of}
use Rattle.span_script.proofs.runs.RunLemmas.{records_push, goes_on_with}
use Rattle.trace_lines.specs.Report.{record_lines}
use Rattle.trace_lines.specs.text.Texts.{record_text, end_text}
use Rattle.trace_records.specs.Following.{without_outputs}
use Rattle.trace_records.proofs.FollowingLemmas.{stands_beside}
use Rattle.trace_tasks.specs.TapeTurns.{TakesAll}
use Rattle.task_runs.specs.declared.runner.Runner.{Runner}
use Rattle.task_runs.specs.declared.text.RecordLines.{RecordLines}
use Rattle.task_runs.specs.Texts.{TellsOutcome}
use Rattle.task_runs.specs.Writing.{WrittenSoFar, RunsRequest}

lines_append : (n : ℕ) (rs ss : List Record) → record_lines n (rs ++ ss) ≡ record_lines n rs ++ record_lines (n + length rs) ss
lines_append n [] ss = ap (λ (k : ℕ). record_lines k ss) (sym (add-zero n))
lines_append n (r ∷ rs) ss =
    ap (λ (t : List ℕ). record_text n r ++ t) (lines_append (n + 1) rs ss)
    ∙ sym (append_assoc (record_text n r) (record_lines (n + 1) rs) (record_lines ((n + 1) + length rs) ss))
    ∙ ap (λ (k : ℕ). (record_text n r ++ record_lines (n + 1) rs) ++ record_lines k ss) {x = (n + 1) + length rs} {y = n + length (r ∷ rs)} (omega arith)

pub written_first : (requests : List Request) (now : PipelineState) (lines : RecordLines) → StandsFor now (tables now.setup []) → now.recording.finished ≡ [] → lines.text.items ≡ [] → lines.count ≡ 0
    → WrittenSoFar now.setup requests requests now lines
written_first requests now lines stands taken text count = record {
  history = [];
  setup_is = refl;
  stands = stands;
  taken = taken;
  text_is = text;
  count_is = count;
  goes_on = refl;
  places = λ n. ap (slice_get requests) (zero-add n);
}

-- ---- one request more

-- the lines of some records, and of those of one request more
text_more : (rs ss finished : List Record) (count : ℕ) (before after : List ℕ) → after ≡ before ++ record_lines (count + 1) finished → before ≡ record_lines 1 rs → count ≡ length rs → finished ≡ ss
    → after ≡ record_lines 1 (rs ++ ss)
text_more rs ss finished count before after is text counted same =
    let next : count + 1 ≡ 1 + length rs = omega (arith, counted) in
    is
    ∙ ap (λ (t : List ℕ). t ++ record_lines (count + 1) finished) text
    ∙ ap (λ (k : ℕ). record_lines 1 rs ++ record_lines k finished) next
    ∙ ap (λ (fs : List Record). record_lines 1 rs ++ record_lines (1 + length rs) fs) same
    ∙ sym (lines_append 1 rs ss)

count_more : (rs ss finished : List Record) (count after : ℕ) → after ≡ count + length finished → count ≡ length rs → finished ≡ ss → after ≡ length (rs ++ ss)
count_more rs ss finished count after is counted same =
    is ∙ ap (λ (fs : List Record). count + length fs) same ∙ ap (λ (n : ℕ). n + length ss) counted ∙ sym (length-append rs ss)

written_own : (requests left : List Request) (request : Request) (old mid new : PipelineState) (before after : RecordLines) (answer : Reply)
    → (w : WrittenSoFar old.setup requests (request ∷ left) old before) → IsServedByHistory (effect_of old.setup (tables old.setup w.history) request) w.history old mid answer
    → after.text.items ≡ before.text.items ++ record_lines (before.count + 1) mid.recording.finished → after.count ≡ before.count + length mid.recording.finished
    → new.recording.finished ≡ [] → without_outputs new ≡ without_outputs mid → WrittenSoFar old.setup requests left new after
written_own requests left request old mid new before after answer w did text count taken state = record {
  history = w.history ++ did.effect ∷ [];
  setup_is = ap (λ (k : PipelineState). k.setup) state ∙ did.setup;
  stands = stands_beside mid new (tables old.setup (w.history ++ did.effect ∷ [])) state did.stands;
  taken = taken;
  text_is = text_more so_far more mid.recording.finished before.count before.text.items after.text.items text w.text_is w.count_is finished ∙ ap (record_lines 1) (sym push);
  count_is = count_more so_far more mid.recording.finished before.count after.count count w.count_is finished ∙ ap (λ (rs : List Record). length rs) (sym push);
  goes_on = w.goes_on ∙ goes_on_with old.setup w.history request left did.effect did.is;
  places = λ n. ap (slice_get requests) (place n) ∙ w.places (n + 1) ∙ ap (slice_get (request ∷ left)) (add-one n);
}
  where
    so_far : List Record
    so_far = records_of_history old.setup w.history

    more : List Record
    more = records_of (tables old.setup w.history) did.effect

    finished : mid.recording.finished ≡ more
    finished = did.records ∙ ap (λ (rs : List Record). rs ++ records_of (tables old.setup w.history) did.effect) w.taken

    push : records_of_history old.setup (w.history ++ did.effect ∷ []) ≡ so_far ++ more
    push = records_push (no_tables old.setup) w.history did.effect

    place : (n : ℕ) → length (w.history ++ did.effect ∷ []) + n ≡ length w.history + (n + 1)
    place n = let e = length_push w.history did.effect in omega (arith, e)

pub written_next : (setup : Setup) (requests left rest : List Request) (request : Request) (old mid new : PipelineState) (before after : RecordLines) (answer : Reply)
    → rest ≡ request ∷ left
    → ((h : History) → StandsFor old (tables old.setup h) → IsServedByHistory (effect_of old.setup (tables old.setup h) request) h old mid answer)
    → after.text.items ≡ before.text.items ++ record_lines (before.count + 1) mid.recording.finished → after.count ≡ before.count + length mid.recording.finished
    → new.recording.finished ≡ [] → without_outputs new ≡ without_outputs mid
    → WrittenSoFar setup requests rest old before → WrittenSoFar setup requests left new after
written_next setup requests left rest request old mid new before after answer rest_is steps text count taken state so_far =
    let here : WrittenSoFar old.setup requests rest old before = subst (λ (s : Setup). WrittenSoFar s requests rest old before) (sym so_far.setup_is) so_far in
    let w : WrittenSoFar old.setup requests (request ∷ left) old before = subst (λ (rs : List Request). WrittenSoFar old.setup requests rs old before) rest_is here in
    subst (λ (s : Setup). WrittenSoFar s requests left new after) so_far.setup_is
    (written_own requests left request old mid new before after answer w (steps w.history w.stands) text count taken state)

-- whatever requests came before and come behind, if memory was to be had
pub runs : (request : Request) (old mid new : PipelineState) (before after : RecordLines) (answer : Reply) (result : Result (Unit {0}) Memory)
    → ((h : History) → StandsFor old (tables old.setup h) → IsServedByHistory (effect_of old.setup (tables old.setup h) request) h old mid answer)
    → OnOk result (after.text.items ≡ before.text.items ++ record_lines (before.count + 1) mid.recording.finished) → OnOk result (after.count ≡ before.count + length mid.recording.finished)
    → OnOk result (new.recording.finished ≡ []) → without_outputs new ≡ without_outputs mid
    → OnOk result ((setup : Setup) (requests left : List Request) → WrittenSoFar setup requests (request ∷ left) old before → WrittenSoFar setup requests left new after)
runs request old mid new before after answer (Ok x) steps text count taken state = λ setup requests left so_far. written_next setup requests left (request ∷ left) request old mid new before after answer refl steps text count taken state so_far
runs request old mid new before after answer (Err e) steps text count taken state = tt

runs_all : (setup : Setup) (requests rs left : List Request) (old new : Runner) → TakesAll RunsRequest rs old new → WrittenSoFar setup requests (rs ++ left) old.pipeline old.lines → WrittenSoFar setup requests left new.pipeline new.lines
runs_all setup requests [] left old new is so_far = subst (λ (r : Runner). WrittenSoFar setup requests left r.pipeline r.lines) (sym is) so_far
runs_all setup requests (r ∷ rs) left old new (m, one, rest) so_far = runs_all setup requests rs left m new rest (one setup requests (rs ++ left) so_far)

pub runs_these : (setup : Setup) (requests : List Request) (old new : Runner) → TakesAll RunsRequest requests old new → WrittenSoFar setup requests requests old.pipeline old.lines → WrittenSoFar setup requests [] new.pipeline new.lines
runs_these setup requests old new all so_far = runs_all setup requests requests [] old new all (subst (λ (rs : List Request). WrittenSoFar setup requests rs old.pipeline old.lines) (sym (append-nil requests)) so_far)

-- ---- all requests

-- None of them was refused, the pipeline stands for their history, and the lines are those of all records.
pub record AreWritten (setup : Setup) (requests : List Request) (new : PipelineState) (lines : RecordLines) : Type 0 where
  pub stands : StandsFor new (tables setup (history_of setup requests))
  pub served : (outcome_of setup requests).refused ≡ None
  pub text_is : lines.text.items ≡ record_lines 1 (outcome_of setup requests).records
  pub count_is : lines.count ≡ length (outcome_of setup requests).records

pub all_written : (setup : Setup) (requests rest : List Request) (now : PipelineState) (lines : RecordLines) → rest ≡ [] → WrittenSoFar setup requests rest now lines → AreWritten setup requests now lines
all_written setup requests rest now lines none so_far =
    let w : WrittenSoFar setup requests [] now lines = subst (λ (rs : List Request). WrittenSoFar setup requests rs now lines) none so_far in
    let is : history_of setup requests ≡ w.history = w.goes_on ∙ append-nil w.history in
    let past : slice_get requests (length w.history) ≡ None = ap (slice_get requests) (sym (add-zero (length w.history))) ∙ w.places 0 in
    record {
      stands = subst (λ (h : History). StandsFor now (tables setup h)) (sym is) w.stands;
      served = ap (refusal_behind setup requests) is
          ∙ ap (option_and_then (λ (request : Request). refusal_at (length w.history) (effect_of setup (tables setup w.history) request))) past;
      text_is = w.text_is ∙ ap (λ (h : History). record_lines 1 (records_of_history setup h)) (sym is);
      count_is = w.count_is ∙ ap (λ (h : History). length (records_of_history setup h)) (sym is);
    }

pub tells_all : (setup : Setup) (requests : List Request) (now : PipelineState) (lines : RecordLines) (text : List ℕ) (left : ℕ) → AreWritten setup requests now lines
    → ((t : Tables) → StandsFor now t → left ≡ open_spans t) → text ≡ lines.text.items ++ end_text left lines.count → TellsOutcome (outcome_of setup requests) text
tells_all setup requests now lines text left w counts is =
    (w.served, is ∙ rw (w.text_is, w.count_is, counts (tables setup (history_of setup requests)) w.stands) refl)

pub on_ok : {A E : Type 0} (r : Result A E) (P Q : A → Type 0) → ((x : A) → P x → Q x) → IfOk r P → IfOk r Q
on_ok (Ok x) P Q step holds = step x holds
on_ok (Err why) P Q step holds = tt
