-- One line more is answered, and the lines end.
use Rattle.std.proofs.Common.{◌≡◌, ℕ, List, [], ◌∷◌, ◌++◌, refl, sym, ap, subst, ◌∙◌, append_assoc, ◌+◌, inl, inr, None, Result, Ok, Err, true, false}
use Rattle.std.proofs.lemmas.List.{append-nil}
use Rattle.otel_base.specs.declared.record.Record.{Record}
use Rattle.otel_metrics.specs.declared.measure.Measure.{Measure}
use Rattle.span_script.specs.declared.settings.Settings.{Settings}
use Rattle.span_script.specs.Setups.{Setup, setup_by}
use Rattle.span_script.specs.Tables.{History, Tables, tables, records_of}
use Rattle.span_script.specs.calls.Spans.{open_spans}
use Rattle.span_script.specs.Fits.{PipelineState, StandsFor}
use Rattle.span_script.specs.Admission.{OpeningRead, opening_read}
use Rattle.trace_stream.proofs.Common.{Signal, is_blank, Report, with_text_before, refused_report, effect_of_line, answer_text, answer_count, last_text, report_on, report_from, OpensLine, AnswersLine, IsAnswered, IsOpening, IsRunning, IsStopped, AnswersAt, is_refused, AnswersBrokenOff}
use Rattle.trace_lines.specs.declared.told.Told.{Told}
use Rattle.trace_lines.specs.declared.told.Told.TheVariants as told
use Rattle.trace_lines.specs.reading.Spelled.{settings_spelled}
use Rattle.trace_lines.specs.text.Texts.{refusal_text}
use Rattle.trace_lines.specs.Report as report
use Rattle.trace_records.specs.declared.line.OpenedPipeline.{OpenedPipeline}
use Rattle.trace_records.specs.declared.line.RequestAnswer.{RequestAnswer}
use Rattle.trace_records.specs.Scripts.{setup_if_read, setup_of_settings, setup_of_line}
use Rattle.input_lines.proofs.BlankLemmas.{some_before, one_not_blank}
use Rattle.trace_records.proofs.FollowingLemmas.{stands_beside}
use Rattle.trace_stream.specs.declared.answers.RunStage.{RunStage}
use Rattle.trace_stream.specs.declared.answers.RunStage.TheVariants as stage
use Rattle.trace_stream.specs.declared.written.Written.{Written}

-- ---- what a settings line opens

-- the report that goes on by what the settings fix, or is that of a refused line
abbrev report_by : Result Setup Told → (Setup → Report) → ℕ → Report
report_by (Ok setup) go line = go setup
report_by (Err why) go line = refused_report line why

read_by : (read : OpeningRead) (setup : Setup) (go : Setup → Report) (line : ℕ) → report.report_on_opening read (go setup) line ≡ report_by (setup_if_read read true setup) go line
read_by (Ok read) setup go line = refl
read_by (Err unread) setup go line = refl

opens_by : (spelled : Result Settings Told) (go : Setup → Report) (line : ℕ) → report.report_on_settings spelled (λ settings. go (setup_by settings)) line ≡ report_by (setup_of_settings None spelled) go line
opens_by (Ok settings) go line = read_by (opening_read settings.filter settings.counting) (setup_by settings) go line
opens_by (Err why) go line = refl

opened_by : (text : List ℕ) (go : Setup → Report) (line : ℕ) (setup : Result Setup Told) → setup_of_line None text ≡ setup
    → report.report_on_settings (settings_spelled text) (λ settings. go (setup_by settings)) line ≡ report_by setup go line
unfolding setup_of_line
opened_by text go line setup is = opens_by (settings_spelled text) go line ∙ ap (λ (s : Result Setup Told). report_by s go line) is

-- ---- one line more

-- the report goes on behind one line more
on_line : (signal : Signal) (lines more : List (List ℕ)) (line : List ℕ) (r : Report) → report_from signal 0 (lines ++ line ∷ more) ≡ r → report_from signal 0 ((lines ++ line ∷ []) ++ more) ≡ r
on_line signal lines more line r is = ap (report_from signal 0) (append_assoc lines (line ∷ []) more) ∙ is

-- the settings line
pub opened : (signal : Signal) (lines : List (List ℕ)) (count next : ℕ) (text : List ℕ) (tally : ℕ) (line : List ℕ) (came : OpenedPipeline)
    → IsOpening signal lines count text tally → next ≡ count + 1 → is_blank line ≡ false → OpensLine None line (Ok came) → IsRunning signal (lines ++ line ∷ []) next came.pipeline text tally
opened signal lines count next text tally line came o counted is a = record {
  history = [];
  some = one_not_blank lines line o.blank is;
  stands = a.stands;
  taken = record { records = a.records; measures = a.measures };
  report_is = λ more. on_line signal lines more line _ (o.report_is (line ∷ more) ∙ rw (is, counted, o.empty, o.none)
      (opened_by line (λ setup. report_on signal setup [] (count + 1) 0 more) (count + 1) (Ok came.pipeline.setup) a.setup));
}

-- a settings line that is refused
pub unopened : (signal : Signal) (lines : List (List ℕ)) (count next : ℕ) (text : List ℕ) (tally : ℕ) (line out : List ℕ) (why : Told)
    → IsOpening signal lines count text tally → next ≡ count + 1 → is_blank line ≡ false → setup_of_line None line ≡ Err why
    → out ≡ text ++ refusal_text next why → IsStopped signal (lines ++ line ∷ []) out
unopened signal lines count next text tally line out why o counted is refuses tells = record {
  some = one_not_blank lines line o.blank is;
  report_is = λ more. on_line signal lines more line _ (o.report_is (line ∷ more) ∙ rw (is, tells, o.empty, counted)
      (opened_by line (λ setup. report_on signal setup [] (count + 1) 0 more) (count + 1) (Err why) refuses));
}

-- a request line that is refused
pub unserved : (signal : Signal) (lines : List (List ℕ)) (count next : ℕ) (kept : PipelineState) (text : List ℕ) (tally : ℕ) (line out : List ℕ) (why : Told)
    (r : IsRunning signal lines count kept text tally) → next ≡ count + 1 → is_blank line ≡ false → effect_of_line kept.setup (tables kept.setup r.history) line ≡ Err why
    → out ≡ text ++ refusal_text next why → IsStopped signal (lines ++ line ∷ []) out
unserved signal lines count next kept text tally line out why r counted is none tells = record {
  some = some_before lines (line ∷ []) r.some;
  report_is = λ more. on_line signal lines more line _ (r.report_is (line ∷ more) ∙ rw (is, none, tells, counted) refl);
}

behind_both : (a b : List ℕ) (r : Report) → with_text_before (a ++ b) r ≡ with_text_before a (with_text_before b r)
behind_both a b r = ap (λ (text : List ℕ). record { written = text; accepted = r.accepted }) (append_assoc a b r.written)

-- a text behind what was put before
pub put_behind : (put old more new : List ℕ) → new ≡ old ++ more → put ++ new ≡ (put ++ old) ++ more
put_behind put old more new is = ap (λ (t : List ℕ). put ++ t) is ∙ sym (append_assoc put old more)

-- a request that is answered
pub answered : (signal : Signal) (put : List ℕ) (lines : List (List ℕ)) (count next : ℕ) (old mid new : PipelineState) (before after : Written) (line : List ℕ) (did : RequestAnswer)
    (r : IsRunning signal lines count old (put ++ before.text.items) before.count) → next ≡ count + 1 → is_blank line ≡ false → AnswersLine line r.history old mid (Ok did)
    → IsAnswered signal next did.reply mid new before after → IsRunning signal (lines ++ line ∷ []) next new (put ++ after.text.items) after.count
answered signal put lines count next old mid new before after line did r counted is a told =
    let h : History = r.history in
    let t : Tables = tables old.setup h in
    let records : List Record = records_of t a.effect in
    let finished : mid.recording.finished ≡ records = a.records ∙ ap (λ (f : List Record). f ++ records) r.taken.records in
    let measured : mid.measures ≡ a.effect.measures = a.measures ∙ ap (λ (m : List Measure). m ++ a.effect.measures) r.taken.measures in
    let setup : new.setup ≡ old.setup = ap (λ (k : PipelineState). k.setup) told.state ∙ a.setup in
    let text : after.text.items ≡ before.text.items ++ answer_text signal next before.count a.effect.reply records a.effect.measures =
    told.text ∙ rw (a.reply_is, finished, measured) refl in
    let behind_put : put ++ after.text.items ≡ (put ++ before.text.items) ++ answer_text signal next before.count a.effect.reply records a.effect.measures =
    put_behind put _ _ _ text in
    let all : after.count ≡ before.count + answer_count signal records a.effect.measures = told.count ∙ rw (finished, measured) refl in
    record {
      history = h ++ a.effect ∷ [];
      some = some_before lines (line ∷ []) r.some;
      stands = subst (λ (s : Setup). StandsFor new (tables s (h ++ a.effect ∷ []))) (sym setup) (stands_beside mid new (tables old.setup (h ++ a.effect ∷ [])) told.state a.stands);
      taken = told.taken;
      report_is = λ more.
          let rest : Report = report_on signal old.setup (h ++ a.effect ∷ []) next (before.count + answer_count signal records a.effect.measures) more in
          rw (setup, all) (on_line signal lines more line _ (r.report_is (line ∷ more)
          ∙ rw (is, a.is, ← counted) refl
          ∙ sym (ap (λ (x : List ℕ). with_text_before x rest) behind_put ∙ behind_both (put ++ before.text.items) (answer_text signal next before.count a.effect.reply records a.effect.measures) rest)));
    }

-- ---- the end of the lines

with_none : (signal : Signal) (lines : List (List ℕ)) → report_from signal 0 lines ≡ report_from signal 0 (lines ++ [])
with_none signal lines = ap (report_from signal 0) (sym (append-nil lines))

pub opens_end : (signal : Signal) (lines : List (List ℕ)) (count next : ℕ) (text out : List ℕ) (tally : ℕ) → IsOpening signal lines count text tally → next ≡ count + 1
    → out ≡ text ++ refusal_text next told.BadLine → report_from signal 0 lines ≡ record { written = out; accepted = false }
opens_end signal lines count next text out tally o counted tells = with_none signal lines ∙ o.report_is [] ∙ sym (rw (tells, o.empty, counted) refl)

pub runs_end : (signal : Signal) (lines : List (List ℕ)) (count : ℕ) (kept : PipelineState) (text out : List ℕ) (tally spans : ℕ) → IsRunning signal lines count kept text tally
    → ((h : History) → StandsFor kept (tables kept.setup h) → spans ≡ open_spans (tables kept.setup h))
    → out ≡ text ++ last_text signal spans tally → report_from signal 0 lines ≡ record { written = out; accepted = true }
runs_end signal lines count kept text out tally spans r counts tells =
    with_none signal lines ∙ r.report_is [] ∙ sym (rw (tells, counts r.history r.stands) refl)

pub stops_end : (signal : Signal) (lines : List (List ℕ)) (text : List ℕ) → IsStopped signal lines text → report_from signal 0 lines ≡ record { written = text; accepted = false }
stops_end signal lines text stops = with_none signal lines ∙ stops.report_is []

-- where the lines break off
pub cut_at : (signal : Signal) (at : RunStage) (lines : List (List ℕ)) (count : ℕ) (text : List ℕ) (tally : ℕ) → AnswersAt signal at lines count text tally → AnswersBrokenOff signal (is_refused at) lines text
cut_at signal stage.Opening lines count text tally o =
    (inl (o.blank, o.empty), λ more. ((report_from signal 0 (lines ++ more)).written, rw o.empty refl))
cut_at signal (stage.Running kept) lines count text tally r = (
  inr (open_spans (tables kept.setup r.history), tally, with_none signal lines ∙ r.report_is []),
  λ more. ((report_on signal kept.setup r.history count tally more).written, ap (λ (x : Report). x.written) (r.report_is more)),
)
cut_at signal stage.Refused lines count text tally stops = stops
