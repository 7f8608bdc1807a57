-- One line more is followed, and the lines end.
use Rattle.std.proofs.Common.{◌≡◌, ℕ, List, [], ◌∷◌, ◌++◌, refl, sym, ap, subst, ◌∙◌, append_assoc, ◌+◌, length, map, inr, Option, Some, None, Result, Ok, Err, OnOk, true, false}
use Rattle.trace_records.proofs.Common.{map-append, Record, Setup, History, Tables, no_tables, tables, records_of, open_spans, records_of_history, PipelineState, StandsFor, records_push, is_blank, FinishedSpans, OpenedPipeline, RequestAnswer, ScriptResult, lanes_on, script_of, Opens, AnswersRequest, without_outputs, IsOpening, IsRunning, IsStopped, StandsAt, EndsAs, TellsRefusedLine}
use Rattle.std.proofs.lemmas.List.{append-nil}
use Rattle.trace_lines.specs.declared.told.Told.TheVariants as told
use Rattle.input_lines.proofs.BlankLemmas.{some_before, one_not_blank}
use Rattle.input_lines.specs.declared.refused_line.RefusedLine.{RefusedLine}
use Rattle.trace_records.specs.declared.script.ScriptStage.{ScriptStage}
use Rattle.trace_records.specs.declared.script.ScriptStage.TheVariants as stage

-- ---- one line more

-- what holds behind one line more
on_line : (most : Option ℕ) (lines more : List (List ℕ)) (line : List ℕ) (r : ScriptResult) → script_of most (lines ++ line ∷ more) ≡ r → script_of most ((lines ++ line ∷ []) ++ more) ≡ r
on_line most lines more line r is = ap (script_of most) (append_assoc lines (line ∷ []) more) ∙ is

-- the settings line
pub opened_on : {K : Type 0} (of : Record → K) (most : Option ℕ) (lines : List (List ℕ)) (count next : ℕ) (old new : FinishedSpans K) (line : List ℕ) (opened : OpenedPipeline)
    → IsOpening most lines count old → next ≡ count + 1 → is_blank line ≡ false → Opens most line opened
    → new.spans.items ≡ old.spans.items → new.lanes.items ≡ old.lanes.items → new.lane_count ≡ opened.lane_count
    → IsRunning of most (lines ++ line ∷ []) next opened.pipeline new
opened_on of most lines count next old new line opened o counted is opens spans lanes number = record {
  history = [];
  some = one_not_blank lines line o.blank is;
  stands = opens.stands;
  taken = opens.records;
  spans_are = spans ∙ o.no_spans;
  lane_count_is = number ∙ opens.lanes;
  script_is = λ more. on_line most lines more line _ (o.script_is (line ∷ more) ∙ rw (is, opens.setup, counted, lanes, o.no_lanes) refl);
}

-- records and measures that are to be taken change nothing else
beside : (k : PipelineState) (t : Tables) → StandsFor k t → StandsFor (without_outputs k) t
beside k t s = record {
  fits = record {
    handle_slots = s.fits.handle_slots;
    site_slots = s.fits.site_slots;
    guard_slots = s.fits.guard_slots;
    attach_slots = s.fits.attach_slots;
    paired = s.fits.paired;
    named_contexts = s.fits.named_contexts;
    latest = s.fits.latest;
    balanced = s.fits.balanced;
    made = s.fits.made;
    one_row = s.fits.one_row;
    scopes = s.fits.scopes;
    still = s.fits.still;
    own_scopes = s.fits.own_scopes;
    sited = s.fits.sited;
    few = s.fits.few;
    few_holds = s.fits.few_holds;
  };
  recording = record { recorded = s.recording.recorded; known = s.recording.known; attached = s.recording.attached };
  filtering = record { in_place = s.filtering.in_place; fresh = s.filtering.fresh; counting_filter = s.filtering.counting_filter; new = s.filtering.new };
}

back : (k : PipelineState) (t : Tables) → StandsFor (without_outputs k) t → StandsFor k t
back k t s = record {
  fits = record {
    handle_slots = s.fits.handle_slots;
    site_slots = s.fits.site_slots;
    guard_slots = s.fits.guard_slots;
    attach_slots = s.fits.attach_slots;
    paired = s.fits.paired;
    named_contexts = s.fits.named_contexts;
    latest = s.fits.latest;
    balanced = s.fits.balanced;
    made = s.fits.made;
    one_row = s.fits.one_row;
    scopes = s.fits.scopes;
    still = s.fits.still;
    own_scopes = s.fits.own_scopes;
    sited = s.fits.sited;
    few = s.fits.few;
    few_holds = s.fits.few_holds;
  };
  recording = record { recorded = s.recording.recorded; known = s.recording.known; attached = s.recording.attached };
  filtering = record { in_place = s.filtering.in_place; fresh = s.filtering.fresh; counting_filter = s.filtering.counting_filter; new = s.filtering.new };
}

pub stands_beside : (old new : PipelineState) (t : Tables) → without_outputs new ≡ without_outputs old → StandsFor old t → StandsFor new t
stands_beside old new t same stands = back new t (subst (λ (k : PipelineState). StandsFor k t) (sym same) (beside old t stands))

-- a request that is answered
pub answered_on : {K : Type 0} (of : Record → K) (most : Option ℕ) (lines : List (List ℕ)) (count next : ℕ) (old mid new : PipelineState) (before after : FinishedSpans K) (line : List ℕ) (answered : RequestAnswer)
    (r : IsRunning of most lines count old before) → next ≡ count + 1 → is_blank line ≡ false → AnswersRequest line r.history old mid answered
    → without_outputs new ≡ without_outputs mid → new.recording.finished ≡ []
    → after.spans.items ≡ before.spans.items ++ map of mid.recording.finished → after.lanes.items ≡ before.lanes.items ++ map (λ (x : Record). answered.lane_place) mid.recording.finished
    → after.lane_count ≡ before.lane_count → IsRunning of most (lines ++ line ∷ []) next new after
answered_on of most lines count next old mid new before after line answered r counted is a same taken spans_are lanes_are number =
    let h : History = r.history in
    let t : Tables = tables old.setup h in
    let more : List Record = records_of t a.effect in
    let finished : mid.recording.finished ≡ more = a.records ∙ ap (λ (f : List Record). f ++ more) r.taken in
    let setup : new.setup ≡ old.setup = ap (λ (k : PipelineState). k.setup) same ∙ a.setup in
    let lanes : after.lanes.items ≡ before.lanes.items ++ lanes_on line more = lanes_are ∙ rw (a.lane, finished) refl in
    let all : after.spans.items ≡ map of (records_of_history old.setup (h ++ a.effect ∷ [])) =
    spans_are ∙ rw (r.spans_are, finished) refl ∙ sym (map-append of (records_of_history old.setup h) more) ∙ sym (ap (map of) (records_push (no_tables old.setup) h a.effect)) in
    record {
      history = h ++ a.effect ∷ [];
      some = some_before lines (line ∷ []) r.some;
      stands = subst (λ (s : Setup). StandsFor new (tables s (h ++ a.effect ∷ []))) (sym setup) (stands_beside mid new (tables old.setup (h ++ a.effect ∷ [])) same a.stands);
      taken = taken;
      spans_are = all ∙ ap (λ (s : Setup). map of (records_of_history s (h ++ a.effect ∷ []))) (sym setup);
      lane_count_is = number ∙ r.lane_count_is ∙ ap (λ (s : Setup). length s.ids) (sym setup);
      script_is = λ later. on_line most lines later line _ (r.script_is (line ∷ later) ∙ rw (is, a.is, counted, lanes, setup) refl);
    }

-- three facts of a call that succeeds give another
pub on_ok : {A E : Type 0} (r : Result A E) (P Q R S : Type 0) → (P → Q → R → S) → OnOk r P → OnOk r Q → OnOk r R → OnOk r S
on_ok (Ok x) P Q R S give p q r = give p q r
on_ok (Err e) P Q R S give p q r = tt

-- ---- the end of the lines

with_none : (most : Option ℕ) (lines : List (List ℕ)) → script_of most lines ≡ script_of most (lines ++ [])
with_none most lines = ap (script_of most) (sym (append-nil lines))

pub opening_end : {K : Type 0} (of : Record → K) (most : Option ℕ) (lines : List (List ℕ)) (count next : ℕ) (finished : FinishedSpans K) → IsOpening most lines count finished → next ≡ count + 1
    → EndsAs of most lines (Err (record { line = next; told = told.BadLine }))
opening_end of most lines count next finished o counted = (with_none most lines ∙ o.script_is [] ∙ rw counted refl, λ is. cc)

pub running_end : {K : Type 0} (of : Record → K) (most : Option ℕ) (lines : List (List ℕ)) (count : ℕ) (kept : PipelineState) (before after : FinishedSpans K) → IsRunning of most lines count kept before
    → after.spans.items ≡ before.spans.items → after.lanes.items ≡ before.lanes.items → after.lane_count ≡ before.lane_count
    → ((h : History) → StandsFor kept (tables kept.setup h) → after.open_spans ≡ open_spans (tables kept.setup h))
    → EndsAs of most lines (Ok after)
running_end of most lines count kept before after r spans_are lanes_are number counts = (
  record { setup = kept.setup; history = r.history; lanes = before.lanes.items },
  with_none most lines ∙ r.script_is [],
  record { spans_are = spans_are ∙ r.spans_are; lanes_are = lanes_are; lane_count = number ∙ r.lane_count_is; left_open = counts r.history r.stands },
)

pub running_refuses_none : {K : Type 0} (of : Record → K) (most : Option ℕ) (lines : List (List ℕ)) (count : ℕ) (kept : PipelineState) (finished : FinishedSpans K) → IsRunning of most lines count kept finished → TellsRefusedLine most lines None
running_refuses_none of most lines count kept finished r = inr (record { setup = kept.setup; history = r.history; lanes = finished.lanes.items }, with_none most lines ∙ r.script_is [])

pub stopped_end : {K : Type 0} (of : Record → K) (most : Option ℕ) (lines : List (List ℕ)) (refused : RefusedLine) → IsStopped most lines refused → EndsAs of most lines (Err refused)
stopped_end of most lines refused s = (with_none most lines ∙ s.script_is [], s.is_told)
