-- A parent is set exactly while its span hasn't started.
use Rattle.std.proofs.Common.{◌≡◌, ℕ, List, Option, Some, None, sym, ap, ◌∙◌, Result, Ok, Err, unwrap_or, option_map}
use Rattle.std.proofs.lemmas.Bool.{true≢false}
use Rattle.otel_layer.proofs.Common.{Context, Memory, OpReply, SpanData, data_at, Applies, AppliesTo, AnswersCallIf}
use Rattle.otel_state.specs.declared.op.Op.TheVariants as ops
use Rattle.otel_state.specs.declared.op.SetParentError.{SetParentError}
use Rattle.span_handles.specs.Handles.{HeldSpan}
use Rattle.otel_layer.specs.Asking.{parent_answer, parent_reply, ok_unless_started}

none_isnt : {A : Type 0} (a : A) → (let o : Option A = None in o) ≡ Some a → ⊥
none_isnt a h = cc

sets_by : (o : Option SpanData) (span_data : SpanData) (spans now : List (ℕ × SpanData)) (id at : ℕ) (context : Context) (answer : Option (Result OpReply Memory)) (held : ℕ × ℕ) → o ≡ Some span_data → AppliesTo o spans id at (ops.SetParent context) answer now
    → parent_answer (Some held) answer ≡ ok_unless_started span_data
sets_by None span_data spans now id at context answer held is h = absurd (none_isnt span_data is)
sets_by (Some u) span_data spans now id at context None held is h = absurd h
sets_by (Some u) span_data spans now id at context (Some (Ok r)) held is h = ap parent_reply h.0 ∙ ap (λ (o : Option SpanData). ok_unless_started (unwrap_or o span_data)) is
sets_by (Some u) span_data spans now id at context (Some (Err memory)) held is h = absurd (true≢false (sym h.0))

pub sets_told : (o : Option (List (ℕ × SpanData))) (spans : List (ℕ × SpanData)) (span_data : SpanData) (now : Option (List (ℕ × SpanData))) (id at : ℕ) (context : Context) (answer : Option (Result OpReply Memory)) (held : ℕ × ℕ) → o ≡ Some spans → data_at id spans ≡ Some span_data
    → AnswersCallIf o (Applies id at (ops.SetParent context) answer) now → parent_answer (Some held) answer ≡ ok_unless_started span_data
sets_told None spans span_data now id at context answer held is found h = absurd (none_isnt spans is)
sets_told (Some xs) spans span_data now id at context answer held is found h =
    sets_by (data_at id xs) span_data xs h.0 id at context answer held (ap (λ (o : Option (List (ℕ × SpanData))). data_at id (unwrap_or o spans)) is ∙ found) h.2

pub set_by_handle : (held : HeldSpan) (x : ℕ × ℕ) (r : Result (Unit {0}) SetParentError) (answer : Option (Result OpReply Memory)) → option_map (λ h. (h.1, h.0)) held ≡ Some x → ((h : ℕ × ℕ) → r ≡ parent_answer (Some h) answer) → r ≡ parent_answer held answer
set_by_handle None x r answer is each = absurd (none_isnt x is)
set_by_handle (Some h) x r answer is each = each h
