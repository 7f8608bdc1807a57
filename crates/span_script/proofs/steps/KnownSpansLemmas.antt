-- Spans that are known to the layer stay so until they close.
use Rattle.span_script.proofs.Common.{list_any, cases_Bool, cond-true, cond-false, or_parts, Context, Op, SpanData, data_at, knows_span, with_span_data, start_context, Recording, with_start, with_start_if_some, with_applied, with_close, with_span_finished, data_after, data_after_start, MadeSpan, SpanOp, Effect, with_span_made, recording_after}
use Rattle.std.proofs.Common.{◌≡◌, ℕ, List, [], ◌∷◌, fold, Bool, true, false, Option, Some, None, refl, sym, ap, ◌∙◌, inl, inr, ◌==◌, ◌||◌, ◌≢◌}
use Rattle.std.proofs.lemmas.Bool.{eq-eqb, true≢false}
use Rattle.otel_layer.proofs.FoundSpanLemmas.{told_at_op, told_at_start, told_at_removed}

abbrev IsKnown : ℕ → Recording → Type 0
IsKnown s r = data_at s r.spans ≢ None

after_none : (b : Bool) (at : ℕ) (op : Op) (o : Option SpanData) → data_after b at op o ≡ None → o ≡ None
after_none false at op o e = e
after_none true at op None e = refl
after_none true at op (Some told) e = absurd (cc e)

started_none : (o : Option Context) (b : Bool) (n at : ℕ) (x : Option SpanData) → data_after_start o b n at x ≡ None → x ≡ None
started_none None b n at x e = e
started_none (Some under) b n at x e = after_none b at _ x e

pub start_known : (s at q : ℕ) (r : Recording) → IsKnown q r → IsKnown q (with_start s at r)
start_known s at q r known none = known (started_none (start_context (data_at s r.spans)) (q == s) r.started at (data_at q r.spans) (sym (told_at_start s q at r) ∙ none))

op_known : (s at q : ℕ) (op : Op) (r : Recording) → IsKnown q r → IsKnown q (with_applied s at op r)
op_known s at q op r known none = known (after_none (q == s) at op (data_at q r.spans) (sym (told_at_op s q at op r.spans) ∙ none))

more_known : (q n : ℕ) (told : SpanData) (spans : List (ℕ × SpanData)) → data_at q spans ≢ None → data_at q (with_span_data n told spans) ≢ None
more_known q n told [] known none = known refl
more_known q n told (e ∷ es) known none = elim (cases_Bool (e.0 == q)) [
  | inl here ↦ known (cond-true {A = Option SpanData} (e.0 == q) (Some e.1) (data_at q es) here ∙ sym (cond-true {A = Option SpanData} (e.0 == q) (Some e.1) (data_at q (with_span_data n told es)) here) ∙ none)
  | inr apart ↦ more_known q n told es (λ gone. known (cond-false {A = Option SpanData} (e.0 == q) (Some e.1) (data_at q es) apart ∙ gone)) (sym (cond-false {A = Option SpanData} (e.0 == q) (Some e.1) (data_at q (with_span_data n told es)) apart) ∙ none)
]

pub new_known : (n : ℕ) (told : SpanData) (spans : List (ℕ × SpanData)) → data_at n (with_span_data n told spans) ≢ None
new_known n told [] none = absurd (let e = sym (cond-true {A = Option SpanData} (n == n) (Some told) None (eq-eqb n n refl)) ∙ none in cc e)
new_known n told (e ∷ es) none = elim (cases_Bool (e.0 == n)) [
  | inl here ↦ absurd (let f = sym (cond-true {A = Option SpanData} (e.0 == n) (Some e.1) (data_at n (with_span_data n told es)) here) ∙ none in cc f)
  | inr apart ↦ new_known n told es (sym (cond-false {A = Option SpanData} (e.0 == n) (Some e.1) (data_at n (with_span_data n told es)) apart) ∙ none)
]

made_known : (n q : ℕ) (o : Option MadeSpan) (r : Recording) → IsKnown q r → IsKnown q (with_span_made n o r)
made_known n q None r known = known
made_known n q (Some m) r known = more_known q n m.made_with r.spans known

closed_known : (o : Option SpanData) (s at q : ℕ) (r : Recording) → q ≢ s → IsKnown q r → IsKnown q (with_span_finished o s at r)
closed_known None s at q r apart known = known
closed_known (Some told) s at q r apart known = λ none. known (sym (told_at_removed s q r.spans apart) ∙ none)

close_known : (s at q : ℕ) (r : Recording) → q ≢ s → IsKnown q r → IsKnown q (with_close s at r)
close_known s at q r apart known = closed_known (data_at s (with_start s at r).spans) s at q (with_start s at r) apart (start_known s at q r known)

starts_known : (at q : ℕ) (ss : List ℕ) (r : Recording) → IsKnown q r → IsKnown q (fold (λ r s. with_start s at r) r ss)
starts_known at q [] r known = known
starts_known at q (s ∷ ss) r known = starts_known at q ss (with_start s at r) (start_known s at q r known)

ops_known : (at q : ℕ) (ds : List SpanOp) (r : Recording) → IsKnown q r → IsKnown q (fold (λ r d. with_applied d.span at d.op r) r ds)
ops_known at q [] r known = known
ops_known at q (d ∷ ds) r known = ops_known at q ds (with_applied d.span at d.op r) (op_known d.span at q d.op r known)

closes_known : (at q : ℕ) (ss : List ℕ) (r : Recording) → list_any (λ x. x == q) ss ≡ false → IsKnown q r → IsKnown q (fold (λ r s. with_close s at r) r ss)
closes_known at q [] r out known = known
closes_known at q (s ∷ ss) r out known =
    let parts = or_parts (s == q) (list_any (λ x. x == q) ss) out in
    closes_known at q ss (with_close s at r) parts.1 (close_known s at q r (λ e. true≢false (sym (eq-eqb s q (sym e)) ∙ parts.0)) known)

begins_known : (o : Option ℕ) (at q : ℕ) (r : Recording) → IsKnown q r → IsKnown q (with_start_if_some o at r)
begins_known None at q r known = known
begins_known (Some s) at q r known = starts_known at q (s ∷ []) r known

-- what was known and doesn't close, and what is made
pub recorded_known : (n q : ℕ) (e : Effect) (r : Recording) → list_any (λ x. x == q) e.closes ≡ false → IsKnown q (with_span_made n e.new_span (fold (λ r s. with_start s e.at r) r e.starts)) → IsKnown q (recording_after n e r)
recorded_known n q e r out known = closes_known e.at q e.closes _ out (ops_known e.at q e.ops _ (begins_known e.new_span_start e.at q _ known))

pub still_known : (n q : ℕ) (e : Effect) (r : Recording) → list_any (λ x. x == q) e.closes ≡ false → IsKnown q r → IsKnown q (recording_after n e r)
still_known n q e r out known = recorded_known n q e r out (made_known n q e.new_span _ (starts_known e.at q e.starts r known))

-- a span with a state is known
pub knows_it : (q : ℕ) (spans : List (ℕ × SpanData)) → data_at q spans ≢ None → knows_span q spans ≡ true
knows_it q [] known = absurd (known refl)
knows_it q (e ∷ es) known = elim (cases_Bool (e.0 == q)) [
  | inl here ↦ ap (λ b. b || knows_span q es) here
  | inr apart ↦ ap (λ b. b || knows_span q es) apart ∙ knows_it q es (λ gone. known (cond-false {A = Option SpanData} (e.0 == q) (Some e.1) (data_at q es) apart ∙ gone))
]
