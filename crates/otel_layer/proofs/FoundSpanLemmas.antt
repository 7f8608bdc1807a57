-- What each change of a recording makes of the state of any span.
use Rattle.std.proofs.Common.{◌≡◌, ◌≢◌, ◌<◌, ℕ, suc, zero, ◌+◌, List, [], ◌∷◌, ◌++◌, length, Bool, true, false, Option, Some, None, refl, sym, ap, subst, ◌∙◌, inl, inr, arith, if◌then◌else◌, ◌==◌, unwrap_or}
use Rattle.otel_layer.proofs.Common.{remove_entry, cases_Bool, cond-true, cond-false, Context, SpanContext, ids_of, recorder_ids, Spans, KnownSpans, InStep, Op, SpanData, after_op, record_of, data_at, knows_span, with_span_data, with_op, start_context, context_unless_started, is_id, Recording, with_start_under, with_start, with_span_finished, with_close_of_started, with_close, data_after, data_after_start, data_once_started, count_after, Closes}
use Rattle.std.proofs.lemmas.Bool.{true≢false, eq-eqb, ne_eqb, eqb-true}
use Rattle.otel_state.specs.declared.op.Op.TheVariants as ops
use Rattle.otel_layer.proofs.RecordingHooksLemmas.{untold}

-- ---- an op

told_none : (b : Bool) (at : ℕ) (op : Op) → None ≡ data_after b at op None
told_none true at op = refl
told_none false at op = refl

pub told_at_op : (id other at : ℕ) (op : Op) (spans : List (ℕ × SpanData)) → data_at other (with_op id at op spans) ≡ data_after (other == id) at op (data_at other spans)
told_at_op id other at op [] = told_none (other == id) at op
told_at_op id other at op (e ∷ es) =
    let f : SpanData → SpanData = λ t. after_op t at op in
    elim (cases_Bool (e.0 == id)) [
      | inl here ↦ (
          let left = ap (data_at other) (cond-true {A = List (ℕ × SpanData)} (e.0 == id) ((e.0, f e.1) ∷ es) (e ∷ with_op id at op es) here) in
          elim (cases_Bool (e.0 == other)) [
            | inl found ↦ (
                let same = eq-eqb other id (sym (eqb-true e.0 other found) ∙ eqb-true e.0 id here) in
                left ∙ cond-true {A = Option SpanData} (e.0 == other) (Some (f e.1)) (data_at other es) found
                ∙ sym (ap (λ b. data_after b at op (data_at other (e ∷ es))) same ∙ ap (data_after true at op) (cond-true {A = Option SpanData} (e.0 == other) (Some e.1) (data_at other es) found)))
            | inr off ↦ (
                let apart = ne_eqb other id (λ h. true≢false (sym (eq-eqb e.0 other (eqb-true e.0 id here ∙ sym h)) ∙ off)) in
                left ∙ cond-false {A = Option SpanData} (e.0 == other) (Some (f e.1)) (data_at other es) off
                ∙ sym (ap (λ b. data_after b at op (data_at other (e ∷ es))) apart ∙ cond-false {A = Option SpanData} (e.0 == other) (Some e.1) (data_at other es) off))
          ])
      | inr not_here ↦ (
          let left = ap (data_at other) (cond-false {A = List (ℕ × SpanData)} (e.0 == id) ((e.0, f e.1) ∷ es) (e ∷ with_op id at op es) not_here) in
          elim (cases_Bool (e.0 == other)) [
            | inl found ↦ (
                let apart = ne_eqb other id (λ h. true≢false (sym (eq-eqb e.0 id (eqb-true e.0 other found ∙ h)) ∙ not_here)) in
                left ∙ cond-true {A = Option SpanData} (e.0 == other) (Some e.1) (data_at other (with_op id at op es)) found
                ∙ sym (ap (λ b. data_after b at op (data_at other (e ∷ es))) apart ∙ cond-true {A = Option SpanData} (e.0 == other) (Some e.1) (data_at other es) found))
            | inr off ↦ (
                left ∙ cond-false {A = Option SpanData} (e.0 == other) (Some e.1) (data_at other (with_op id at op es)) off ∙ told_at_op id other at op es
                ∙ ap (data_after (other == id) at op) (sym (cond-false {A = Option SpanData} (e.0 == other) (Some e.1) (data_at other es) off)))
          ])
    ]

-- ---- a start

started_reads : (under : Option Context) (id other at : ℕ) (r : Recording) → data_at other (with_start_under under id at r).spans ≡ data_after_start under (other == id) r.started at (data_at other r.spans)
started_reads None id other at r = refl
started_reads (Some under) id other at r = told_at_op id other at (ops.Start (recorder_ids (r.started + 1) (ids_of under))) r.spans

pub told_at_start : (id other at : ℕ) (r : Recording) → data_at other (with_start id at r).spans ≡ data_after_start (start_context (data_at id r.spans)) (other == id) r.started at (data_at other r.spans)
told_at_start id other at r = started_reads (start_context (data_at id r.spans)) id other at r

-- ---- a span more, and one less

pub told_at_made : (id other : ℕ) (span_data : SpanData) (spans : List (ℕ × SpanData)) → data_at id spans ≡ None → data_at other (with_span_data id span_data spans) ≡ (if other == id then Some span_data else data_at other spans)
told_at_made id other span_data [] none =
    elim (cases_Bool (other == id)) [
      | inl same ↦ cond-true {A = Option SpanData} (id == other) (Some span_data) None (eq-eqb id other (sym (eqb-true other id same))) ∙ sym (cond-true {A = Option SpanData} (other == id) (Some span_data) None same)
      | inr apart ↦ cond-false {A = Option SpanData} (id == other) (Some span_data) None (ne_eqb id other (λ h. true≢false (sym (eq-eqb other id (sym h)) ∙ apart))) ∙ sym (cond-false {A = Option SpanData} (other == id) (Some span_data) None apart)
    ]
told_at_made id other span_data (e ∷ es) none =
    elim (cases_Bool (e.0 == id)) [
      | inl here ↦ absurd (cc (sym (cond-true {A = Option SpanData} (e.0 == id) (Some e.1) (data_at id es) here) ∙ none))
      | inr off ↦ (
          let rest = told_at_made id other span_data es (sym (cond-false {A = Option SpanData} (e.0 == id) (Some e.1) (data_at id es) off) ∙ none) in
          elim (cases_Bool (e.0 == other)) [
            | inl found ↦ (
                let apart = ne_eqb other id (λ h. true≢false (sym (eq-eqb e.0 id (eqb-true e.0 other found ∙ h)) ∙ off)) in
                cond-true {A = Option SpanData} (e.0 == other) (Some e.1) (data_at other (with_span_data id span_data es)) found
                ∙ sym (cond-false {A = Option SpanData} (other == id) (Some span_data) (data_at other (e ∷ es)) apart ∙ cond-true {A = Option SpanData} (e.0 == other) (Some e.1) (data_at other es) found))
            | inr missed ↦ (
                cond-false {A = Option SpanData} (e.0 == other) (Some e.1) (data_at other (with_span_data id span_data es)) missed ∙ rest
                ∙ ap (λ (o : Option SpanData). if other == id then Some span_data else o) (sym (cond-false {A = Option SpanData} (e.0 == other) (Some e.1) (data_at other es) missed)))
          ])
    ]

pub told_at_removed : (id other : ℕ) (spans : List (ℕ × SpanData)) → other ≢ id → data_at other (remove_entry (is_id id) spans) ≡ data_at other spans
told_at_removed id other [] apart = refl
told_at_removed id other (e ∷ es) apart =
    elim (cases_Bool (e.0 == id)) [
      | inl here ↦ (
          let missed = ne_eqb e.0 other (λ h. apart (sym h ∙ eqb-true e.0 id here)) in
          ap (data_at other) (cond-true {A = List (ℕ × SpanData)} (e.0 == id) es (e ∷ remove_entry (is_id id) es) here)
          ∙ sym (cond-false {A = Option SpanData} (e.0 == other) (Some e.1) (data_at other es) missed))
      | inr off ↦ (
          ap (data_at other) (cond-false {A = List (ℕ × SpanData)} (e.0 == id) es (e ∷ remove_entry (is_id id) es) off)
          ∙ ap (λ (o : Option SpanData). if e.0 == other then Some e.1 else o) (told_at_removed id other es apart))
    ]

-- no span is known yet with the id of the next
pub told_at_next : (made : ℕ) (spans : List (ℕ × SpanData)) → (knows_span made spans ≡ true → made < made) → data_at made spans ≡ None
told_at_next made spans known =
    elim (cases_Bool (knows_span made spans)) [
      | inl yes_known ↦ (let h = known yes_known in absurd (omega (arith, h)))
      | inr unknown ↦ untold made spans unknown
    ]

-- ---- a close

own_start : (own : Option SpanContext) (id at : ℕ) (r : Recording) (span_data : SpanData) → span_data.own ≡ own → data_at id r.spans ≡ Some span_data
    → (data_at id (with_start id at r).spans ≡ Some (data_once_started own r.started at span_data)) × ((with_start id at r).started ≡ count_after own r.started)
own_start (Some own) id at r span_data is found =
    let under = ap start_context found ∙ ap (λ (o : Option SpanContext). context_unless_started o span_data.parent) is in
    (ap (λ (o : Option Context). data_at id (with_start_under o id at r).spans) under ∙ found, ap (λ (o : Option Context). (with_start_under o id at r).started) under)
own_start None id at r span_data is found =
    let under = ap start_context found ∙ ap (λ (o : Option SpanContext). context_unless_started o span_data.parent) is in
    let op = ops.Start (recorder_ids (r.started + 1) (ids_of span_data.parent)) in (
      ap (λ (o : Option Context). data_at id (with_start_under o id at r).spans) under ∙ told_at_op id id at op r.spans
          ∙ ap (λ (b : Bool). data_after b at op (data_at id r.spans)) (eq-eqb id id refl) ∙ ap (data_after true at op) found,
      ap (λ (o : Option Context). (with_start_under o id at r).started) under,
    )

other_start : (under : Option Context) (id other at : ℕ) (r : Recording) → other ≢ id → data_at other (with_start_under under id at r).spans ≡ data_at other r.spans
other_start None id other at r apart = refl
other_start (Some under) id other at r apart =
    let op = ops.Start (recorder_ids (r.started + 1) (ids_of under)) in
    told_at_op id other at op r.spans ∙ ap (λ (b : Bool). data_after b at op (data_at other r.spans)) (ne_eqb other id apart)

start_rest : (under : Option Context) (id at : ℕ) (r : Recording) → let t = with_start_under under id at r in (t.finished ≡ r.finished) × (t.tokens ≡ r.tokens) × (t.settings ≡ r.settings) × (t.counting ≡ r.counting)
start_rest None id at r = (refl, refl, refl, refl)
start_rest (Some under) id at r = (refl, refl, refl, refl)

pub closes_span : (id at : ℕ) (r : Recording) (span_data : SpanData) → data_at id r.spans ≡ Some span_data → Closes id at r span_data (with_close id at r)
closes_span id at r span_data found =
    let s = with_start id at r in
    let own = own_start span_data.own id at r span_data refl found in
    let rest = start_rest (start_context (data_at id r.spans)) id at r in
    let last = data_once_started span_data.own r.started at span_data in
    let is : with_close id at r ≡ with_span_finished (Some last) id at s = ap (λ (o : Option SpanData). with_span_finished o id at s) own.0 in
    record {
      finished = ap (λ (t : Recording). t.finished) is ∙ ap (λ fs. fs ++ record_of last at ∷ []) rest.0;
      started = ap (λ (t : Recording). t.started) is ∙ own.1;
      tokens = ap (λ (t : Recording). t.tokens) is ∙ rest.1;
      settings = ap (λ (t : Recording). t.settings) is ∙ rest.2;
      counting = ap (λ (t : Recording). t.counting) is ∙ rest.3;
      others = λ other apart. ap (λ (t : Recording). data_at other t.spans) is ∙ told_at_removed id other s.spans apart ∙ other_start (start_context (data_at id r.spans)) id other at r apart;
    }
