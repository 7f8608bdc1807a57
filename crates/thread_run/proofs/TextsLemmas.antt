-- What is written of one span more.
use Rattle.std.proofs.Common.{◌≡◌, ℕ, ◌+◌, ◌<◌, List, [], ◌∷◌, ◌++◌, length, sym, ap, ◌∙◌, append_assoc, append-nil, drop, drop_of_length-le, ◌≤◌, Vec, Global}
use Rattle.std.specs.Prelude.{slice_index_or, Result, Ok, Err, IfOk}
use Rattle.std.proofs.lemmas.List.{drop_more}
use Rattle.thread_handles.specs.declared.gather.Ended.{Ended}
use Rattle.trace_lines.specs.text.Texts.{record_text, end_text}
use Rattle.trace_lines.specs.text.Writes.{AddsText}
use Rattle.trace_lines.specs.text.WrittenText.{WrittenText}
use Rattle.trace_threads.specs.declared.history.Entry.{Entry}
use Rattle.thread_run.specs.declared.entry.EntryDeed.{EntryDeed}
use Rattle.thread_run.specs.Texts.{entry_deeds_after, entries_line, history_text, spans_text, ended_text}

-- the line of a span's history was added, and then other bytes
pub span_added : {E : Type 0} (place : ℕ) (log shown : List Entry) (told slice : List EntryDeed) (out new behind : List ℕ) (r : Result WrittenText E) → shown ≡ log → told ≡ entry_deeds_after [] shown → slice ≡ told → AddsText out new (entries_line place slice)
    → IfOk r (λ text. text.items ≡ new ++ behind) → IfOk r (λ text. text.items ≡ out ++ (history_text place log ++ behind))
span_added place log shown told slice out new behind (Ok text) same telling shows adds last =
    last
    ∙ ap (λ (l : List ℕ). l ++ behind) (adds.0 ∙ ap (λ (t : List EntryDeed). out ++ entries_line place t) (shows ∙ telling ∙ ap (entry_deeds_after []) same))
    ∙ append_assoc out (history_text place log) behind
span_added place log shown told slice out new behind (Err why) same telling shows adds last = tt

pub spans_more : (es : List Ended) (i : ℕ) (e : Ended) (out new all : List ℕ) → i < length es → e ≡ slice_index_or es i e → new ≡ out ++ (history_text i e.history ++ record_text (i + 1) e.finished)
    → out ++ spans_text i (drop i es) ≡ all → new ++ spans_text (i + 1) (drop (i + 1) es) ≡ all
spans_more es i e out new all low is written before =
    let left : drop i es ≡ e ∷ drop (i + 1) es = drop_more es i e low ∙ ap (λ (x : Ended). x ∷ drop (i + 1) es) (sym is) in
    ap (λ (n : List ℕ). n ++ spans_text (i + 1) (drop (i + 1) es)) written
    ∙ append_assoc out (history_text i e.history ++ record_text (i + 1) e.finished) (spans_text (i + 1) (drop (i + 1) es))
    ∙ ap (λ (l : List Ended). out ++ spans_text i l) (sym left)
    ∙ before

-- no span is left
pub spans_all : (es : List Ended) (i : ℕ) (out all : List ℕ) → length es ≤ i → out ++ spans_text i (drop i es) ≡ all → out ≡ all
spans_all es i out all past before =
    sym (append-nil out) ∙ ap (λ (l : List Ended). out ++ spans_text i l) (sym (drop_of_length-le es past)) ∙ before

-- the end line was added behind all spans
pub end_added : {E : Type 0} (es : List Ended) (count : ℕ) (out : List ℕ) (r : Result (Vec ℕ Global) E) → out ≡ spans_text 0 es → count ≡ length es
    → IfOk r (λ text. text.items ≡ out ++ end_text 0 count) → IfOk r (λ text. text.items ≡ ended_text es)
end_added es count out (Ok text) spans counted last = last ∙ ap (λ (l : List ℕ). l ++ end_text 0 count) spans ∙ ap (λ (n : ℕ). spans_text 0 es ++ end_text 0 n) counted
end_added es count out (Err why) spans counted last = tt
