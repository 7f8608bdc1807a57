-- What the commands write that read a script whole, and keep something of each of its records.
use Rattle.std.proofs.Common.{◌≡◌, ℕ, zero, suc, ◌+◌, ◌<◌, ◌≤◌, List, [], ◌∷◌, ◌++◌, length, map, get_or, cond, true, refl, sym, ap, subst, ◌∙◌, arith, eq-eqb, inl, inr, Vec, Global, Bool, Option, Some, None, Result, Ok, Err, is_ok, not, IfOk, IfSome}
use Rattle.std.specs.List.{All}
use Rattle.std.proofs.lemmas.List.{map-id}
use Rattle.trace_run.proofs.Common.{Record, records_of_history, Setup, History, MAX_LANES, accepts, EndsAs, Refuses, NoneRefused, AreRefused, TellsRun, accepts_within, refuses, accepts_same, legal, TellsBatchesOfLines, TellsTrees}
use Rattle.batch_lines.specs.Texts.{TellsBatches}
use Rattle.span_laws.specs.LegalHistories.{IsHistory, occurrences}
use Rattle.span_laws.specs.Telling.{id_of}
use Rattle.span_laws.proofs.spans.OccurrencesLemmas.{occurs_cons}
use Rattle.trace_lines.specs.text.Texts.{refusal_text}
use Rattle.input_lines.specs.declared.answer.Answer.{Answer}
use Rattle.trace_records.specs.declared.finished.FinishedSpans.{FinishedSpans}
use Rattle.input_lines.specs.declared.refused_line.RefusedLine.{RefusedLine}
use Rattle.trace_records.specs.Scripts.{ScriptHistory, script_of}
use Rattle.trace_records.proofs.LanesLaws.{few_lanes}
use Rattle.trace_tree.specs.Busy.{tree_span}
use Rattle.trace_tree.specs.Paths.{AreDistinct}
use Rattle.trace_tree.specs.declared.span.TreeSpan.{TreeSpan}
use Rattle.tree_lines.specs.Texts.{TellsTree}

-- ---- where a line is refused

-- the refusal line alone is written
pub refused_text : {E : Type 0} (most : Option ℕ) (Tells : ScriptHistory → List ℕ → Type 0) (lines : List (List ℕ)) (refused : RefusedLine) (r : Result Answer E) → script_of most lines ≡ Err refused
    → IfOk r (λ a. a.text.items ≡ refusal_text refused.line refused.told) → IfOk r (λ a. TellsRun Tells (script_of most lines) a.text.items)
refused_text most Tells lines refused (Ok a) stops is = rw stops is
refused_text most Tells lines refused (Err why) stops is = tt

-- whether the lines are accepted, by whichever word is the same as that of scripts
pub refused_flag : {E : Type 0} (most : Option ℕ) (accepted : Bool) (lines : List (List ℕ)) (refused : RefusedLine) (r : Result Answer E) → accepted ≡ accepts_within most lines
    → script_of most lines ≡ Err refused → IfOk r (λ a. a.refused ≡ true) → IfOk r (λ a. accepted ≡ not a.refused)
refused_flag most accepted lines refused (Ok a) same stops is = same ∙ ap is_ok stops ∙ sym (ap not is)
refused_flag most accepted lines refused (Err why) same stops is = tt

module _ (most : Option ℕ) (accepted : List (List ℕ) → Bool) (same : (lines : List (List ℕ)) → accepted lines ≡ accepts_within most lines) where
  pub refusal_some : {E : Type 0} (Tells : ScriptHistory → List ℕ → Type 0) (lines : List (List ℕ)) (r : Result (Option (Vec ℕ Global)) E) → IfOk r (λ o. IfSome o (λ text. AreRefused most lines text.items))
      → IfOk r (λ o. IfSome o (λ text. Refuses accepted (λ ls. TellsRun Tells (script_of most ls)) lines text.items))
  refusal_some Tells lines (Ok (Some text)) holds =
      let r = refuses most Tells lines text.items holds in
      record { some = r.some; refused = λ more. same (lines ++ more) ∙ r.refused more; whole = r.whole }
  refusal_some Tells lines (Ok None) holds = tt
  refusal_some Tells lines (Err why) holds = tt

  none_refused : (lines : List (List ℕ)) → NoneRefused (accepts_within most) lines → NoneRefused accepted lines
  none_refused lines (inl blank) = inl blank
  none_refused lines (inr all) = inr (same lines ∙ all)

  pub refusal_none : {E : Type 0} (lines : List (List ℕ)) (r : Result (Option (Vec ℕ Global)) E) → IfOk r (λ o. o ≡ None → NoneRefused (accepts_within most) lines)
      → IfOk r (λ o. o ≡ None → NoneRefused accepted lines)
  refusal_none lines (Ok o) holds = λ is. none_refused lines (holds is)
  refusal_none lines (Err why) holds = tt

-- ---- trees: the finished spans of a script have ids of their own

-- an id that some record has occurs
occurs_at : (rs : List Record) (j : ℕ) (d : TreeSpan) (id : ℕ) → j < length (map tree_span rs) → (get_or (map tree_span rs) j d).span ≡ id → 1 ≤ occurrences id (map id_of rs)
occurs_at [] j d id less e = absurd (omega arith)
occurs_at (r ∷ rs) zero d id less e =
    let all = occurs_cons id (id_of r) (map id_of rs) ∙ ap (λ b. cond b 1 0 + occurrences id (map id_of rs)) (eq-eqb (id_of r) id e) in
    omega (arith, all)
occurs_at (r ∷ rs) (suc j) d id less e =
    let all = occurs_cons id (id_of r) (map id_of rs) in
    let one = occurs_at rs j d id (omega arith) e in
    omega (arith, all, one)

distinct_by : (rs : List Record) → ((id : ℕ) → occurrences id (map id_of rs) ≤ 1) → AreDistinct (map tree_span rs)
distinct_by [] once i j d less small e = absurd (omega arith)
distinct_by (r ∷ rs) once zero zero d less small e = absurd (omega arith)
distinct_by (r ∷ rs) once zero (suc j) d less small e =
    let all = occurs_cons (id_of r) (id_of r) (map id_of rs) ∙ ap (λ b. cond b 1 0 + occurrences (id_of r) (map id_of rs)) (eq-eqb (id_of r) (id_of r) refl) in
    let more = occurs_at rs j d (id_of r) (omega arith) (sym e) in
    let most = once (id_of r) in
    absurd (omega (arith, all, more, most))
distinct_by (r ∷ rs) once (suc i) zero d less small e = absurd (omega arith)
distinct_by (r ∷ rs) once (suc i) (suc j) d less small e =
    distinct_by rs (λ id. let all = occurs_cons id (id_of r) (map id_of rs) in let most = once id in omega (arith, all, most)) i j d (omega arith) (omega arith) e

-- no two records of a history have one id
abbrev pub OwnIds : Type 0
OwnIds = (setup : Setup) (h : History) (id : ℕ) → IsHistory setup h → occurrences id (map id_of (records_of_history setup h)) ≤ 1

abbrev pub TreeEnds : List (List ℕ) → Result (FinishedSpans TreeSpan) RefusedLine → Type 0
TreeEnds lines result = EndsAs tree_span None lines result

pub distinct_finished : OwnIds → (lines : List (List ℕ)) (finished : FinishedSpans TreeSpan) → TreeEnds lines (Ok finished) → AreDistinct finished.spans.items
distinct_finished own lines finished ends =
    subst AreDistinct (sym ends.2.spans_are) (distinct_by (records_of_history ends.0.setup ends.0.history) (λ id. own ends.0.setup ends.0.history id (legal None lines ends.0 ends.1).history))

pub tells_tree : (lines : List (List ℕ)) (finished : FinishedSpans TreeSpan) (text : List ℕ) → TreeEnds lines (Ok finished) → TellsTree finished.spans.items finished.open_spans text → TellsTrees lines text
tells_tree lines finished text ends tells = rw (ends.1, ← ends.2.spans_are, ← ends.2.left_open) tells

pub tree_accepted : (lines : List (List ℕ)) (finished : FinishedSpans TreeSpan) → TreeEnds lines (Ok finished) → accepts lines ≡ true
tree_accepted lines finished ends = accepts_same lines ∙ ap is_ok ends.1

-- ---- batches: each record of a script of at most eight lanes is on one of them

abbrev pub BatchEnds : List (List ℕ) → Result (FinishedSpans Record) RefusedLine → Type 0
BatchEnds lines result = EndsAs (λ (r : Record). r) (Some MAX_LANES) lines result

records_are : (lines : List (List ℕ)) (finished : FinishedSpans Record) (ends : BatchEnds lines (Ok finished)) → finished.spans.items ≡ records_of_history ends.0.setup ends.0.history
records_are lines finished ends = ends.2.spans_are ∙ map-id (records_of_history ends.0.setup ends.0.history)

pub as_many : (lines : List (List ℕ)) (finished : FinishedSpans Record) → BatchEnds lines (Ok finished) → length finished.lanes.items ≡ length finished.spans.items
as_many lines finished ends =
    ap length ends.2.lanes_are ∙ (legal (Some MAX_LANES) lines ends.0 ends.1).lanes ∙ sym (ap length (records_are lines finished ends))

pub each_within : (lines : List (List ℕ)) (finished : FinishedSpans Record) → BatchEnds lines (Ok finished) → All (λ lane. lane < finished.lane_count) finished.lanes.items
each_within lines finished ends =
    rw (ends.2.lanes_are, ends.2.lane_count) (legal (Some MAX_LANES) lines ends.0 ends.1).within

pub few : (lines : List (List ℕ)) (finished : FinishedSpans Record) → BatchEnds lines (Ok finished) → finished.lane_count ≤ MAX_LANES
few lines finished ends = rw ends.2.lane_count (few_lanes MAX_LANES lines ends.0 ends.1).1

pub tells_batches : (size : ℕ) (lines : List (List ℕ)) (finished : FinishedSpans Record) (text : List ℕ) → BatchEnds lines (Ok finished)
    → TellsBatches size finished.spans.items finished.lanes.items finished.open_spans text → TellsBatchesOfLines size lines text
tells_batches size lines finished text ends tells =
    rw (ends.1, ← records_are lines finished ends, ← ends.2.lanes_are, ← ends.2.left_open) tells

pub batch_accepted : (lines : List (List ℕ)) (finished : FinishedSpans Record) → BatchEnds lines (Ok finished) → accepts_within (Some MAX_LANES) lines ≡ true
batch_accepted lines finished ends = ap is_ok ends.1
