-- What a start, an entry or a close of one state makes of all spans.
use Rattle.std.proofs.Common.{◌≡◌, ℕ, List, [], ◌∷◌, length, Bool, true, false, Option, Some, None, refl, sym, ap, subst, ◌∙◌, inl, inr, if◌then◌else◌, ◌==◌, unwrap_or, option_map, is_some}
use Rattle.otel_layer.proofs.Common.{cases_Bool, cond-true, cond-false, or_parts, remove_entry, Context, SpanData, after_op, data_at, update, with_op, with_span_data, knows_span, start_context, own_context_or, is_id, empty_context, Core, StartsIfSome, StartsIf, own_context_if_known}
use Rattle.std.proofs.lemmas.Bool.{eq-eqb}
use Rattle.std.proofs.lemmas.Map.Made.{is_some-lookup}
use Rattle.otel_base.specs.Tracer.{TracerCall}
use Rattle.otel_state.specs.declared.op.Op.TheVariants as ops
use Rattle.otel_layer.proofs.CountedEventsLemmas.{update_twice}
use Rattle.otel_layer.proofs.Gaps.{updated_count}
use Rattle.otel_layer.specs.Core.{with_tracer}
use Rattle.otel_layer.specs.Starts.{StartsTo, StartsState, StartsIn, StartsEarly, EntersKnown, EntersIn}
use Rattle.otel_layer.specs.Steps.{with_added_span}

-- ---- one span among others

pub updated_at : (id : ℕ) (f g : SpanData → SpanData) (spans : List (ℕ × SpanData)) (span_data : SpanData) → data_at id spans ≡ Some span_data → f span_data ≡ g span_data → update id f spans ≡ update id g spans
updated_at id f g [] span_data is same = refl
updated_at id f g (e ∷ es) span_data is same =
    let Spans : Type 0 = List (ℕ × SpanData) in
    elim (cases_Bool (e.0 == id)) [
      | inl here ↦ (
          let found = ap (λ (o : Option SpanData). unwrap_or o span_data) (sym (cond-true {A = Option SpanData} (e.0 == id) (Some e.1) (data_at id es) here) ∙ is) in
          cond-true {A = Spans} (e.0 == id) ((e.0, f e.1) ∷ es) (e ∷ update id f es) here
          ∙ ap (λ (t : SpanData). let xs : Spans = (e.0, t) ∷ es in xs) (ap f found ∙ same ∙ ap g (sym found))
          ∙ sym (cond-true {A = Spans} (e.0 == id) ((e.0, g e.1) ∷ es) (e ∷ update id g es) here))
      | inr off ↦ (
          cond-false {A = Spans} (e.0 == id) ((e.0, f e.1) ∷ es) (e ∷ update id f es) off
          ∙ ap (λ (xs : Spans). e ∷ xs) (updated_at id f g es span_data (sym (cond-false {A = Option SpanData} (e.0 == id) (Some e.1) (data_at id es) off) ∙ is) same)
          ∙ sym (cond-false {A = Spans} (e.0 == id) ((e.0, g e.1) ∷ es) (e ∷ update id g es) off))
    ]

update_same : (id : ℕ) (spans : List (ℕ × SpanData)) → update id (λ t. t) spans ≡ spans
update_same id [] = refl
update_same id (e ∷ es) =
    let Spans : Type 0 = List (ℕ × SpanData) in
    elim (cases_Bool (e.0 == id)) [
      | inl here ↦ cond-true {A = Spans} (e.0 == id) (e ∷ es) (e ∷ update id (λ t. t) es) here
      | inr off ↦ cond-false {A = Spans} (e.0 == id) (e ∷ es) (e ∷ update id (λ t. t) es) off ∙ ap (λ (xs : Spans). e ∷ xs) (update_same id es)
    ]

pub found_at : (id : ℕ) (g : SpanData → SpanData) (spans : List (ℕ × SpanData)) (span_data : SpanData) → data_at id spans ≡ Some span_data → data_at id (update id g spans) ≡ Some (g span_data)
found_at id g [] span_data is = absurd (cc)
found_at id g (e ∷ es) span_data is =
    let Spans : Type 0 = List (ℕ × SpanData) in
    elim (cases_Bool (e.0 == id)) [
      | inl here ↦ (
          ap (data_at id) (cond-true {A = Spans} (e.0 == id) ((e.0, g e.1) ∷ es) (e ∷ update id g es) here)
          ∙ cond-true {A = Option SpanData} (e.0 == id) (Some (g e.1)) (data_at id es) here
          ∙ ap (λ (o : Option SpanData). option_map g o) (sym (cond-true {A = Option SpanData} (e.0 == id) (Some e.1) (data_at id es) here) ∙ is))
      | inr off ↦ (
          ap (data_at id) (cond-false {A = Spans} (e.0 == id) ((e.0, g e.1) ∷ es) (e ∷ update id g es) off)
          ∙ cond-false {A = Option SpanData} (e.0 == id) (Some e.1) (data_at id (update id g es)) off
          ∙ found_at id g es span_data (sym (cond-false {A = Option SpanData} (e.0 == id) (Some e.1) (data_at id es) off) ∙ is))
    ]

-- one that is added is found, and changed, where it isn't known before
added_at : (id : ℕ) (span_data : SpanData) (spans : List (ℕ × SpanData)) → knows_span id spans ≡ false → data_at id (with_span_data id span_data spans) ≡ Some span_data
added_at id span_data [] not = cond-true {A = Option SpanData} (id == id) (Some span_data) None (eq-eqb id id refl)
added_at id span_data (e ∷ es) not =
    let parts = or_parts (e.0 == id) (knows_span id es) not in
    cond-false {A = Option SpanData} (e.0 == id) (Some e.1) (data_at id (with_span_data id span_data es)) parts.0 ∙ added_at id span_data es parts.1

added_update : (id : ℕ) (g : SpanData → SpanData) (span_data : SpanData) (spans : List (ℕ × SpanData)) → knows_span id spans ≡ false → update id g (with_span_data id span_data spans) ≡ with_span_data id (g span_data) spans
added_update id g span_data [] not = cond-true {A = List (ℕ × SpanData)} (id == id) ((id, g span_data) ∷ []) ((id, span_data) ∷ []) (eq-eqb id id refl)
added_update id g span_data (e ∷ es) not =
    let parts = or_parts (e.0 == id) (knows_span id es) not in
    cond-false {A = List (ℕ × SpanData)} (e.0 == id) ((e.0, g e.1) ∷ with_span_data id span_data es) (e ∷ update id g (with_span_data id span_data es)) parts.0
    ∙ ap (λ (xs : List (ℕ × SpanData)). e ∷ xs) (added_update id g span_data es parts.1)

-- one that isn't known is neither changed nor taken out
pub update_unknown : (id : ℕ) (g : SpanData → SpanData) (spans : List (ℕ × SpanData)) → knows_span id spans ≡ false → update id g spans ≡ spans
update_unknown id g [] not = refl
update_unknown id g (e ∷ es) not =
    let parts = or_parts (e.0 == id) (knows_span id es) not in
    cond-false {A = List (ℕ × SpanData)} (e.0 == id) ((e.0, g e.1) ∷ es) (e ∷ update id g es) parts.0 ∙ ap (λ (xs : List (ℕ × SpanData)). e ∷ xs) (update_unknown id g es parts.1)

pub removed_unknown : (id : ℕ) (spans : List (ℕ × SpanData)) → knows_span id spans ≡ false → remove_entry (is_id id) spans ≡ spans
removed_unknown id [] not = refl
removed_unknown id (e ∷ es) not =
    let parts = or_parts (e.0 == id) (knows_span id es) not in
    cond-false {A = List (ℕ × SpanData)} (e.0 == id) es (e ∷ remove_entry (is_id id) es) parts.0 ∙ ap (λ (xs : List (ℕ × SpanData)). e ∷ xs) (removed_unknown id es parts.1)

pub known : (id : ℕ) (spans : List (ℕ × SpanData)) (span_data : SpanData) → data_at id spans ≡ Some span_data → knows_span id spans ≡ true
known id spans span_data is = sym (is_some-lookup (is_id id) spans) ∙ ap (λ (o : Option SpanData). is_some o) is

pub unknown : (id : ℕ) (spans : List (ℕ × SpanData)) → data_at id spans ≡ None → knows_span id spans ≡ false
unknown id spans none = sym (is_some-lookup (is_id id) spans) ∙ ap (λ (o : Option SpanData). is_some o) none

-- what is taken out may have changed before
pub removed_update : (id : ℕ) (g : SpanData → SpanData) (spans : List (ℕ × SpanData)) → remove_entry (is_id id) (update id g spans) ≡ remove_entry (is_id id) spans
removed_update id g [] = refl
removed_update id g (e ∷ es) =
    let Spans : Type 0 = List (ℕ × SpanData) in
    elim (cases_Bool (e.0 == id)) [
      | inl here ↦ (
          ap (remove_entry (is_id id)) (cond-true {A = Spans} (e.0 == id) ((e.0, g e.1) ∷ es) (e ∷ update id g es) here)
          ∙ cond-true {A = Spans} (e.0 == id) es ((e.0, g e.1) ∷ remove_entry (is_id id) es) here
          ∙ sym (cond-true {A = Spans} (e.0 == id) es (e ∷ remove_entry (is_id id) es) here))
      | inr off ↦ (
          ap (remove_entry (is_id id)) (cond-false {A = Spans} (e.0 == id) ((e.0, g e.1) ∷ es) (e ∷ update id g es) off)
          ∙ cond-false {A = Spans} (e.0 == id) (update id g es) (e ∷ remove_entry (is_id id) (update id g es)) off
          ∙ ap (λ (xs : Spans). e ∷ xs) (removed_update id g es)
          ∙ sym (cond-false {A = Spans} (e.0 == id) es (e ∷ remove_entry (is_id id) es) off))
    ]

-- ---- a start, and an entry, by the state that was found

module _ {T : Type 0} (does : T → TracerCall → T → Type 0) (id at : ℕ) (spans : List (ℕ × SpanData)) (s t : T) where
  started_by : (o : Option Context) (now : List (ℕ × SpanData)) (span_data begun : SpanData) → data_at id spans ≡ Some span_data → now ≡ update id (λ _. begun) spans
      → StartsTo does o (λ given. after_op span_data at (ops.Start given)) span_data s t begun → StartsTo does o (λ given. with_op id at (ops.Start given) spans) spans s t now
  started_by None now span_data begun is changed h = (h.0, changed ∙ updated_at id (λ _. begun) (λ x. x) spans span_data is h.1 ∙ update_same id spans)
  started_by (Some under) now span_data begun is changed h = (h.0, h.1, changed ∙ updated_at id (λ _. begun) (λ x. after_op x at (ops.Start h.0)) spans span_data is h.2)

  pub started_in : (now : List (ℕ × SpanData)) (span_data begun : SpanData) → data_at id spans ≡ Some span_data → now ≡ update id (λ _. begun) spans → StartsState does at span_data s t begun → StartsIn does id at spans s t now
  started_in now span_data begun is changed h =
      subst (λ (o : Option SpanData). StartsTo does (start_context o) (λ given. with_op id at (ops.Start given) spans) spans s t now) (sym is) (started_by (start_context (Some span_data)) now span_data begun is changed h)

  pub shown_in : (now : List (ℕ × SpanData)) (span_data begun : SpanData) → data_at id spans ≡ Some span_data → now ≡ update id (λ _. begun) spans → Some (record { span = begun.own }) ≡ own_context_if_known (data_at id now)
  shown_in now span_data begun is changed = sym (ap (λ (xs : List (ℕ × SpanData)). own_context_if_known (data_at id xs)) changed ∙ ap own_context_if_known (found_at id (λ _. begun) spans span_data is))

  pub unstarted : data_at id spans ≡ None → StartsIn does id at spans s s spans
  unstarted is = subst (λ (o : Option SpanData). StartsTo does (start_context o) (λ given. with_op id at (ops.Start given) spans) spans s s spans) (sym is) (refl, refl)

  count_by : (o : Option Context) (now : List (ℕ × SpanData)) → StartsTo does o (λ given. with_op id at (ops.Start given) spans) spans s t now → length now ≡ length spans
  count_by None now h = ap (λ (xs : List (ℕ × SpanData)). length xs) h.1
  count_by (Some under) now h = ap (λ (xs : List (ℕ × SpanData)). length xs) h.2 ∙ updated_count id (λ x. after_op x at (ops.Start h.0)) spans

  pub started_count : (now : List (ℕ × SpanData)) → StartsIn does id at spans s t now → length now ≡ length spans
  started_count now h = count_by (start_context (data_at id spans)) now h

  pub entered_in : (now : List (ℕ × SpanData)) (span_data begun entered : SpanData) (own : Context) → data_at id spans ≡ Some span_data → now ≡ update id (λ _. entered) spans → StartsState does at span_data s t begun
      → entered ≡ after_op begun at ops.Enter → own ≡ record { span = begun.own } → EntersKnown does id at spans s t now own
  entered_in now span_data begun entered own is changed starts enters shown = record {
    known = known id spans span_data is;
    between = update id (λ _. begun) spans;
    starts = started_in (update id (λ _. begun) spans) span_data begun is refl starts;
    own_is = shown ∙ sym (ap (λ (o : Option SpanData). own_context_or empty_context o) (found_at id (λ _. begun) spans span_data is));
    rest = changed ∙ ap (λ (x : SpanData). update id (λ _. x) spans) enters ∙ sym (update_twice id (λ _. begun) (λ x. after_op x at ops.Enter) spans);
  }

  pub entered_count : (now : List (ℕ × SpanData)) (own : Option Context) → EntersIn does id at spans s t now own → length now ≡ length spans
  entered_count now None h = ap (λ (xs : List (ℕ × SpanData)). length xs) h.2
  entered_count now (Some own) h = ap (λ (xs : List (ℕ × SpanData)). length xs) h.rest ∙ updated_count id (λ x. after_op x at ops.Enter) h.between ∙ started_count h.between h.starts

-- a start of the span that was added
module _ {T : Type 0} (does : T → TracerCall → T → Type 0) (c d : Core T) (id at : ℕ) (span_data begun : SpanData) (not : knows_span id c.spans ≡ false) (rest : d ≡ with_added_span id begun (with_tracer d.tracer c)) where
  added_by : (o : Option Context) → StartsTo does o (λ given. after_op span_data at (ops.Start given)) span_data c.tracer d.tracer begun → StartsIf does o id at (with_added_span id span_data c) d
  added_by None h = rest ∙ ap (λ (s : T). with_added_span id begun (with_tracer s c)) h.0 ∙ ap (λ (x : SpanData). with_added_span id x c) h.1
  added_by (Some under) h = (
    h.0,
    h.1,
    rest ∙ ap (λ (xs : List (ℕ × SpanData)). let x : Core T = record (with_added_span id span_data c) { tracer = d.tracer; spans = xs } in x)
        (ap (λ (x : SpanData). with_span_data id x c.spans) h.2 ∙ sym (added_update id (λ x. after_op x at (ops.Start h.0)) span_data c.spans not)),
  )

  pub added_early : (eager : Bool) → StartsEarly does eager at span_data c.tracer d.tracer begun → StartsIfSome does (if eager then Some id else None) at (with_added_span id span_data c) d
  added_early true h = subst (λ (o : Option SpanData). StartsIf does (start_context o) id at (with_added_span id span_data c) d) (sym (added_at id span_data c.spans not)) (added_by (start_context (Some span_data)) h)
  added_early false h = rest ∙ ap (λ (s : T). with_added_span id begun (with_tracer s c)) h.0 ∙ ap (λ (x : SpanData). with_added_span id x c) h.1
