-- What the hooks keep: the laws of the layer.
use Rattle.std.proofs.Common.{length-append, ◌≡◌, ℕ, suc, zero, ◌+◌, ◌≤◌, List, [], ◌∷◌, ◌++◌, length, Bool, true, false, Option, Some, None, refl, sym, ap, ◌∙◌, arith, inl, inr, add-zero}
use Rattle.std.specs.Prelude.{if◌then◌else◌, ◌==◌, ◌||◌, unwrap_or}
use Rattle.std.specs.Map.{remove_entry, keys_of}
use Rattle.std.proofs.lemmas.Map.Entries.{length-keys_of}
use Rattle.std.proofs.lemmas.Bool.{true≢false, cases_Bool, eqb-true, or_cases, or_parts, cond-true, cond-false}
use Rattle.otel_base.specs.declared.context.Context.{Context}
use Rattle.otel_base.specs.declared.context.SpanContext.{SpanContext}
use Rattle.otel_base.specs.Ids.{ids_of}
use Rattle.otel_base.specs.Tracer.{TracerCall, Start, Reserve, Finish, CountsSpares, CountsStarts}
use Rattle.trace_base.specs.declared.callsite.Callsite.{Callsite}
use Rattle.trace_base.specs.declared.lane.Lane.{Lane}
use Rattle.trace_base.specs.declared.span.Parent.{Parent}
use Rattle.trace_base.specs.layers.Hooks.{Hook, OnNewSpan, OnRecord, OnFollows, OnEvent, OnEnter, OnExit, OnClose}
use Rattle.otel_state.specs.declared.op.Op.{Op}
use Rattle.otel_state.specs.declared.op.Op.TheVariants as ops
use Rattle.otel_state.specs.States.{SpanData, after_op, first_start, record_of}
use Rattle.otel_state.specs.declared.settings.LayerSettings.{LayerSettings}
use Rattle.otel_state.specs.fields.SpanFields.{span_update}
use Rattle.trace_base.specs.declared.field.ValueSet.{ValueSet}
use Rattle.otel_layer.specs.Table.{is_id, data_at, knows_span, update, with_op, one_if_unstarted, unstarted_count, context_unless_started, start_context, ids_if_known}
use Rattle.otel_layer.specs.Core.{Core, IsWholeCore}
use Rattle.otel_layer.specs.Steps.{Reserves, SameCore, StartsIf, StartsSpan, StartsIfSome, parent_source, lane_context, context_from, MakesSpan, new_span_data, with_link, EventEffect, all_events_effect, EntersSpan, ExitsSpan, ClosesSpan, Step, DoesHook}

-- one span changed
pub update_keys : (id : ℕ) (f : SpanData → SpanData) (spans : List (ℕ × SpanData)) → keys_of (update id f spans) ≡ keys_of spans
update_keys id f [] = refl
update_keys id f (e ∷ es) =
    elim (cases_Bool (e.0 == id)) [
      | inl here ↦ ap (λ (xs : List (ℕ × SpanData)). keys_of xs) (cond-true {A = List (ℕ × SpanData)} (e.0 == id) ((e.0, f e.1) ∷ es) (e ∷ update id f es) here)
      | inr apart ↦ ap (λ (xs : List (ℕ × SpanData)). keys_of xs) (cond-false {A = List (ℕ × SpanData)} (e.0 == id) ((e.0, f e.1) ∷ es) (e ∷ update id f es) apart) ∙ ap (λ ks. e.0 ∷ ks) (update_keys id f es)
    ]

pub update_unstarted_same : (id : ℕ) (f : SpanData → SpanData) (spans : List (ℕ × SpanData)) → ((span_data : SpanData) → (f span_data).own ≡ span_data.own) → unstarted_count (update id f spans) ≡ unstarted_count spans
update_unstarted_same id f [] keeps = refl
update_unstarted_same id f (e ∷ es) keeps =
    elim (cases_Bool (e.0 == id)) [
      | inl here ↦ ap unstarted_count (cond-true {A = List (ℕ × SpanData)} (e.0 == id) ((e.0, f e.1) ∷ es) (e ∷ update id f es) here) ∙ ap (λ o. one_if_unstarted o + unstarted_count es) (keeps e.1)
      | inr apart ↦ ap unstarted_count (cond-false {A = List (ℕ × SpanData)} (e.0 == id) ((e.0, f e.1) ∷ es) (e ∷ update id f es) apart) ∙ ap (λ n. one_if_unstarted e.1.own + n) (update_unstarted_same id f es keeps)
    ]

pub update_unstarted : (id : ℕ) (f : SpanData → SpanData) (spans : List (ℕ × SpanData)) (span_data : SpanData) → data_at id spans ≡ Some span_data → unstarted_count (update id f spans) + one_if_unstarted span_data.own ≡ unstarted_count spans + one_if_unstarted (f span_data).own
update_unstarted id f [] span_data is = absurd (cc)
update_unstarted id f (e ∷ es) span_data is =
    elim (cases_Bool (e.0 == id)) [
      | inl here ↦ (
          let found = ap (λ o. unwrap_or o span_data) (sym (cond-true {A = Option SpanData} (e.0 == id) (Some e.1) (data_at id es) here) ∙ is) in
          let now = ap unstarted_count (cond-true {A = List (ℕ × SpanData)} (e.0 == id) ((e.0, f e.1) ∷ es) (e ∷ update id f es) here) in
          let x = ap (λ (t : SpanData). one_if_unstarted t.own) found in
          let y = ap (λ (t : SpanData). one_if_unstarted (f t).own) found in
          omega (arith, now, x, y))
      | inr apart ↦ (
          let rest = update_unstarted id f es span_data (sym (cond-false {A = Option SpanData} (e.0 == id) (Some e.1) (data_at id es) apart) ∙ is) in
          let now = ap unstarted_count (cond-false {A = List (ℕ × SpanData)} (e.0 == id) ((e.0, f e.1) ∷ es) (e ∷ update id f es) apart) in
          omega (arith, now, rest))
    ]

pub removed_unstarted : (id : ℕ) (spans : List (ℕ × SpanData)) → unstarted_count (remove_entry (is_id id) spans) ≤ unstarted_count spans
removed_unstarted id [] = omega arith
removed_unstarted id (e ∷ es) =
    elim (cases_Bool (e.0 == id)) [
      | inl here ↦ (let now = ap unstarted_count (cond-true {A = List (ℕ × SpanData)} (e.0 == id) es (e ∷ remove_entry (is_id id) es) here) in omega (arith, now))
      | inr apart ↦ (
          let rest = removed_unstarted id es in
          let now = ap unstarted_count (cond-false {A = List (ℕ × SpanData)} (e.0 == id) es (e ∷ remove_entry (is_id id) es) apart) in
          omega (arith, now, rest))
    ]

pub removed_length : (id : ℕ) (spans : List (ℕ × SpanData)) (span_data : SpanData) → data_at id spans ≡ Some span_data → length (remove_entry (is_id id) spans) + 1 ≡ length spans
removed_length id [] span_data is = absurd (cc)
removed_length id (e ∷ es) span_data is =
    elim (cases_Bool (e.0 == id)) [
      | inl here ↦ (let now = ap (λ (xs : List (ℕ × SpanData)). length xs) (cond-true {A = List (ℕ × SpanData)} (e.0 == id) es (e ∷ remove_entry (is_id id) es) here) in omega (arith, now))
      | inr apart ↦ (
          let rest = removed_length id es span_data (sym (cond-false {A = Option SpanData} (e.0 == id) (Some e.1) (data_at id es) apart) ∙ is) in
          let now = ap (λ (xs : List (ℕ × SpanData)). length xs) (cond-false {A = List (ℕ × SpanData)} (e.0 == id) es (e ∷ remove_entry (is_id id) es) apart) in
          omega (arith, now, rest))
    ]

-- events that start no span
abbrev pub StartsNoSpan : EventEffect → Type 0
StartsNoSpan events = (settings : LayerSettings) (lane at : ℕ) (callsite : Callsite) (values : ValueSet) (span_data : SpanData) → (events settings lane at callsite values span_data).own ≡ span_data.own

pub all_keep_own : StartsNoSpan all_events_effect
all_keep_own settings lane at callsite values span_data = refl

pub or_right_true : (a b : Bool) → b ≡ true → (a || b) ≡ true
or_right_true true b h = refl
or_right_true false b h = h

or_left_true : (a b : Bool) → a ≡ true → (a || b) ≡ true
or_left_true a b h = ap (λ x. x || b) h

pub removed_knows : (id other : ℕ) (spans : List (ℕ × SpanData)) → knows_span other (remove_entry (is_id id) spans) ≡ true → knows_span other spans ≡ true
removed_knows id other [] knows = knows
removed_knows id other (e ∷ es) knows =
    elim (cases_Bool (e.0 == id)) [
      | inl here ↦ (
          let rest = sym (ap (knows_span other) (cond-true {A = List (ℕ × SpanData)} (e.0 == id) es (e ∷ remove_entry (is_id id) es) here)) ∙ knows in
          or_right_true (e.0 == other) (knows_span other es) rest)
      | inr apart ↦ (
          let rest = sym (ap (knows_span other) (cond-false {A = List (ℕ × SpanData)} (e.0 == id) es (e ∷ remove_entry (is_id id) es) apart)) ∙ knows in
          elim (or_cases (e.0 == other) (knows_span other (remove_entry (is_id id) es)) rest) [
            | inl at ↦ or_left_true (e.0 == other) (knows_span other es) at
            | inr more ↦ or_right_true (e.0 == other) (knows_span other es) (removed_knows id other es more)
          ])
    ]

pub removed_other : (id other : ℕ) (spans : List (ℕ × SpanData)) → knows_span other spans ≡ true → knows_span other (remove_entry (is_id id) spans) ≡ false → id ≡ other
removed_other id other [] knew not = absurd (true≢false (sym knew))
removed_other id other (e ∷ es) knew not =
    elim (cases_Bool (e.0 == id)) [
      | inl here ↦ (
          let rest = sym (ap (knows_span other) (cond-true {A = List (ℕ × SpanData)} (e.0 == id) es (e ∷ remove_entry (is_id id) es) here)) ∙ not in
          elim (or_cases (e.0 == other) (knows_span other es) knew) [
            | inl at ↦ sym (eqb-true e.0 id here) ∙ eqb-true e.0 other at
            | inr more ↦ absurd (true≢false (sym more ∙ rest))
          ])
      | inr apart ↦ (
          let rest = or_parts (e.0 == other) (knows_span other (remove_entry (is_id id) es)) (sym (ap (knows_span other) (cond-false {A = List (ℕ × SpanData)} (e.0 == id) es (e ∷ remove_entry (is_id id) es) apart)) ∙ not) in
          elim (or_cases (e.0 == other) (knows_span other es) knew) [
            | inl at ↦ absurd (true≢false (sym at ∙ rest.0))
            | inr more ↦ removed_other id other es more rest.1
          ])
    ]

-- what all steps but a making and a close keep
pub record KeepsBudget {T : Type 0} (spare started : T → ℕ) (c d : Core T) : Type 0 where
  pub keys : keys_of d.spans ≡ keys_of c.spans
  pub settings : d.settings ≡ c.settings
  pub reserved : d.reserved ≡ c.reserved
  pub span_count : d.span_count ≡ c.span_count
  pub spares : spare c.tracer ≤ spare d.tracer
  pub budget : started d.tracer + unstarted_count d.spans ≤ started c.tracer + unstarted_count c.spans

budget_same : {T : Type 0} (spare started : T → ℕ) (c d : Core T) → d ≡ c → KeepsBudget spare started c d
budget_same spare started c d e = record {
  keys = ap (λ x. keys_of x.spans) e;
  settings = ap (λ x. x.settings) e;
  reserved = ap (λ x. x.reserved) e;
  span_count = ap (λ x. x.span_count) e;
  spares = (let h = ap (λ x. spare x.tracer) e in omega (arith, h));
  budget = (let h = ap (λ x. started x.tracer + unstarted_count x.spans) e in omega (arith, h));
}

budget_trans : {T : Type 0} (spare started : T → ℕ) (c d e : Core T) → KeepsBudget spare started c d → KeepsBudget spare started d e → KeepsBudget spare started c e
budget_trans spare started c d e a b = record {
  keys = b.keys ∙ a.keys;
  settings = b.settings ∙ a.settings;
  reserved = b.reserved ∙ a.reserved;
  span_count = b.span_count ∙ a.span_count;
  spares = (let x = a.spares in let y = b.spares in omega (arith, x, y));
  budget = (let x = a.budget in let y = b.budget in omega (arith, x, y));
}

op_budget : {T : Type 0} (spare started : T → ℕ) (c d : Core T) (id at : ℕ) (op : Op) → ((span_data : SpanData) → (after_op span_data at op).own ≡ span_data.own)
    → d.spans ≡ with_op id at op c.spans → d.tracer ≡ c.tracer → d.settings ≡ c.settings → d.reserved ≡ c.reserved → d.span_count ≡ c.span_count → KeepsBudget spare started c d
op_budget spare started c d id at op keeps spans tracer settings reserved span_count = record {
  keys = ap (λ (xs : List (ℕ × SpanData)). keys_of xs) spans ∙ update_keys id (λ t. after_op t at op) c.spans;
  settings = settings;
  reserved = reserved;
  span_count = span_count;
  spares = (let h = ap spare tracer in omega (arith, h));
  budget = (let h = ap started tracer in let w = ap unstarted_count spans ∙ update_unstarted_same id (λ t. after_op t at op) c.spans keeps in omega (arith, h, w));
}

unstarted_own : (own : Option SpanContext) (context under : Context) → context_unless_started own context ≡ Some under → own ≡ None
unstarted_own None context under h = refl
unstarted_own (Some own) context under h = absurd (cc)

unstarted_data : (o : Option SpanData) (under : Context) → start_context o ≡ Some under → (span_data : SpanData) × (o ≡ Some span_data) × (span_data.own ≡ None)
unstarted_data None under h = absurd (cc)
unstarted_data (Some span_data) under h = (span_data, refl, unstarted_own span_data.own span_data.parent under h)

module _ {T : Type 0} (does : T → TracerCall → T → Type 0) (spare started : T → ℕ) (counts : (s : T) (call : TracerCall) (t : T) → does s call t → CountsSpares (spare s) call (spare t) × CountsStarts (started s) call (started t)) where
  starts_if_budget : (under : Option Context) (id at : ℕ) (c d : Core T) → start_context (data_at id c.spans) ≡ under → StartsIf does under id at c d → KeepsBudget spare started c d
  starts_if_budget None id at c d is h = budget_same spare started c d h
  starts_if_budget (Some under) id at c d is h =
      let w = unstarted_data (data_at id c.spans) under is in
      let n = counts c.tracer (Start (ids_of under) h.0) d.tracer h.1 in
      let less = update_unstarted id (λ t. after_op t at (ops.Start h.0)) c.spans w.0 w.1 in
      let none = ap one_if_unstarted w.2 in
      let some = ap (λ (o : Option SpanContext). one_if_unstarted (first_start o (Some h.0))) w.2 in
      record {
        keys = ap (λ x. keys_of x.spans) h.2 ∙ update_keys id (λ t. after_op t at (ops.Start h.0)) c.spans;
        settings = ap (λ x. x.settings) h.2;
        reserved = ap (λ x. x.reserved) h.2;
        span_count = ap (λ x. x.span_count) h.2;
        spares = n.0;
        budget = (let now = ap (λ x. unstarted_count x.spans) h.2 in let m = n.1 in omega (arith, less, none, some, now, m));
      }

  pub starts_budget : (id at : ℕ) (c d : Core T) → StartsSpan does id at c d → KeepsBudget spare started c d
  starts_budget id at c d h = starts_if_budget (start_context (data_at id c.spans)) id at c d refl h

  pub any_budget : (o : Option ℕ) (at : ℕ) (c d : Core T) → StartsIfSome does o at c d → KeepsBudget spare started c d
  any_budget None at c d h = budget_same spare started c d h
  any_budget (Some id) at c d h = starts_budget id at c d h

  pub whole_budget : (c d : Core T) → KeepsBudget spare started c d → IsWholeCore spare started c → IsWholeCore spare started d
  whole_budget c d k w =
      let a = w.spares in
      let b = k.spares in
      let r = k.reserved in
      let l = sym (length-keys_of d.spans) ∙ ap (λ (xs : List ℕ). length xs) k.keys ∙ length-keys_of c.spans in
      let rooms = w.rooms in
      let budget = w.budget in
      let less = k.budget in
      let few = w.few in
      let m = k.span_count in
      record { spares = omega (arith, a, b, r); rooms = omega (arith, l, rooms, r); budget = omega (arith, budget, less, m); few = omega (arith, few, m) }

  link_budget : (o : Option SpanContext) (id at : ℕ) (c d : Core T) → d ≡ record c { spans = with_link id at o c.spans } → KeepsBudget spare started c d
  link_budget None id at c d e = budget_same spare started c d e
  link_budget (Some context) id at c d e =
      op_budget spare started c d id at (ops.Link (record { context = context; attributes = [] })) (λ t. refl) (ap (λ x. x.spans) e) (ap (λ x. x.tracer) e) (ap (λ x. x.settings) e) (ap (λ x. x.reserved) e) (ap (λ x. x.span_count) e)

  one_op_budget : (c d : Core T) (id at : ℕ) (op : Op) → ((span_data : SpanData) → (after_op span_data at op).own ≡ span_data.own) → d ≡ record c { spans = with_op id at op c.spans } → KeepsBudget spare started c d
  one_op_budget c d id at op keeps e =
      op_budget spare started c d id at op keeps (ap (λ x. x.spans) e) (ap (λ x. x.tracer) e) (ap (λ x. x.settings) e) (ap (λ x. x.reserved) e) (ap (λ x. x.span_count) e)

  event_budget : (c d : Core T) (id : ℕ) (f : SpanData → SpanData) → ((span_data : SpanData) → (f span_data).own ≡ span_data.own) → d ≡ record c { spans = update id f c.spans } → KeepsBudget spare started c d
  event_budget c d id f keeps e = record {
    keys = ap (λ x. keys_of x.spans) e ∙ update_keys id f c.spans;
    settings = ap (λ x. x.settings) e;
    reserved = ap (λ x. x.reserved) e;
    span_count = ap (λ x. x.span_count) e;
    spares = (let h = ap (λ x. spare x.tracer) e in omega (arith, h));
    budget = (let h = ap (λ x. started x.tracer) e in let w = ap (λ x. unstarted_count x.spans) e ∙ update_unstarted_same id f c.spans keeps in omega (arith, h, w));
  }

  pub enters_budget : (c d : Core T) (id at : ℕ) (before later : Lane) → EntersSpan does c id at before later d → KeepsBudget spare started c d
  enters_budget c d id at before later h =
      budget_trans spare started c h.between d (any_budget (if c.settings.activation then Some id else None) at c h.between h.starts)
      (op_budget spare started h.between d id at ops.Enter (λ t. refl) (ap (λ x. x.spans) h.rest) (ap (λ x. x.tracer) h.rest) (ap (λ x. x.settings) h.rest) (ap (λ x. x.reserved) h.rest) (ap (λ x. x.span_count) h.rest))

  pub exits_budget : (c d : Core T) (id at : ℕ) (before later : Lane) → ExitsSpan c id at before later d → KeepsBudget spare started c d
  exits_budget c d id at before later h =
      op_budget spare started c d id at ops.Exit (λ t. refl) (ap (λ x. x.spans) h.rest) (ap (λ x. x.tracer) h.rest) (ap (λ x. x.settings) h.rest) (ap (λ x. x.reserved) h.rest) (ap (λ x. x.span_count) h.rest)

  -- what is whole stays whole
  unstarted_push : (spans : List (ℕ × SpanData)) (e : ℕ × SpanData) → unstarted_count (spans ++ e ∷ []) ≡ unstarted_count spans + one_if_unstarted e.1.own
  unstarted_push [] e = omega arith
  unstarted_push (x ∷ spans) e = (let rest = unstarted_push spans e in omega (arith, rest))

  makes_whole : (c d : Core T) (id : ℕ) (lane : Lane) (at : ℕ) (parent : Parent) (current : Option ℕ) (callsite : Callsite) (values : ValueSet) → MakesSpan does c id lane at parent current callsite values d → IsWholeCore spare started c → IsWholeCore spare started d
  makes_whole c d id lane at parent current callsite values h w =
      let k = any_budget (parent_source c.settings.activation parent current) at c h.between h.starts in
      let v = whole_budget c h.between k w in
      let b = h.between in
      let new : ℕ × SpanData = (id, new_span_data callsite lane values (context_from b.spans (lane_context lane parent) (parent_source c.settings.activation parent current)) at c.settings c.counting) in
      let spans = ap (λ x. x.spans) h.rest in
      let tracer = ap (λ x. spare x.tracer) h.rest in
      let begins = ap (λ x. started x.tracer) h.rest in
      let r = ap (λ x. x.reserved) h.rest in
      let m = ap (λ x. x.span_count) h.rest in
      let len = ap (λ (xs : List (ℕ × SpanData)). length xs) spans ∙ length-append b.spans (new ∷ []) in
      let lenb = sym (length-keys_of b.spans) ∙ ap (λ (xs : List ℕ). length xs) k.keys ∙ length-keys_of c.spans in
      let one = ap unstarted_count spans ∙ unstarted_push b.spans new in
      let spares = v.spares in
      let budget = v.budget in
      let room = h.spare in
      let few = h.few in
      let kr = k.reserved in
      let km = k.span_count in
      whole_budget h.added d (any_budget (if c.settings.eager then Some id else None) at h.added d h.begins)
      (record { spares = omega (arith, spares, tracer, r); rooms = omega (arith, len, lenb, room, r, kr); budget = omega (arith, budget, begins, one, m); few = omega (arith, few, m, km) })

  closes_whole : (c d : Core T) (id at : ℕ) → ClosesSpan does c id at d → IsWholeCore spare started c → IsWholeCore spare started d
  closes_whole c d id at h w =
      let v = whole_budget c h.between (starts_budget id at c h.between h.starts) w in
      let b = h.between in
      let n = counts b.tracer (Finish (record_of h.span_data at)) d.tracer h.finishes in
      let spans = ap (λ x. x.spans) h.rest in
      let r = ap (λ x. x.reserved) h.rest in
      let m = ap (λ x. x.span_count) h.rest in
      let len = ap (λ (xs : List (ℕ × SpanData)). length xs) spans in
      let less = removed_length id b.spans h.span_data h.is in
      let wait = ap unstarted_count spans in
      let fewer = removed_unstarted id b.spans in
      let spares = v.spares in
      let rooms = v.rooms in
      let budget = v.budget in
      let few = v.few in
      let x = n.0 in
      let y = n.1 in
      record { spares = omega (arith, spares, x, r); rooms = omega (arith, rooms, len, less, r); budget = omega (arith, budget, wait, fewer, y, m); few = omega (arith, few, m) }

  -- room that is reserved
  reserves_counts : (n : ℕ) (s t : T) → Reserves does n s t → (spare t ≡ spare s + n) × (started t ≡ started s)
  reserves_counts zero s t h = (ap spare h ∙ sym (add-zero (spare s)), ap started h)
  reserves_counts (suc n) s t h =
      let one = counts s Reserve h.0 h.1 in
      let rest = reserves_counts n h.0 t h.2 in
      let a = one.0 in
      let b = one.1 in
      let x = rest.0 in
      let y = rest.1 in
      (omega (arith, a, x), omega (arith, b, y))

  pub same_whole_core : (c d : Core T) → SameCore does c d → IsWholeCore spare started c → IsWholeCore spare started d
  same_whole_core c d h w =
      let n = reserves_counts h.count c.tracer d.tracer h.reserves in
      let x = n.0 in
      let y = n.1 in
      let r = ap (λ e. e.reserved) h.rest in
      let m = ap (λ e. e.span_count) h.rest in
      let l = ap (λ e. length e.spans) h.rest in
      let u = ap (λ e. unstarted_count e.spans) h.rest in
      let spares = w.spares in
      let rooms = w.rooms in
      let budget = w.budget in
      let few = w.few in
      record { spares = omega (arith, spares, x, r); rooms = omega (arith, rooms, l, r); budget = omega (arith, budget, u, y, m); few = omega (arith, few, m) }

  -- all hooks, where events start nothing
  module _ (events : EventEffect) (keeps : StartsNoSpan events) where
    pub step_whole : (c : Core T) (hook : Hook) (d : Core T) → Step does events c hook d → IsWholeCore spare started c → IsWholeCore spare started d
    step_whole c (OnNewSpan id lane at parent current callsite values) d h w = makes_whole c d id lane at parent current callsite values h w
    step_whole c (OnRecord id at callsite values) d h w = whole_budget c d (one_op_budget c d id at (ops.Update (span_update callsite values c.settings)) (λ t. refl) h) w
    step_whole c (OnFollows id from at) d h w = whole_budget c d (budget_trans spare started c h.between d (starts_budget from at c h.between h.starts) (link_budget (ids_if_known (data_at from h.between.spans)) id at h.between d h.rest)) w
    step_whole c (OnEvent None lane at callsite values) d h w = whole_budget c d (budget_same spare started c d h) w
    step_whole c (OnEvent (Some id) lane at callsite values) d h w = whole_budget c d (event_budget c d id (events c.settings lane.id at callsite values) (keeps c.settings lane.id at callsite values) h) w
    step_whole c (OnEnter id at before later) d h w =
        elim (cases_Bool (knows_span id c.spans)) [
          | inl known ↦ whole_budget c d (enters_budget c d id at before later (h.is_known known)) w
          | inr unknown ↦ whole_budget c d (budget_same spare started c d (h.isnt unknown).0) w
        ]
    step_whole c (OnExit id at before later) d h w =
        elim (cases_Bool (knows_span id c.spans)) [
          | inl known ↦ whole_budget c d (exits_budget c d id at before later (h.is_known known)) w
          | inr unknown ↦ whole_budget c d (budget_same spare started c d (h.isnt unknown).0) w
        ]
    step_whole c (OnClose id at) d h w =
        elim (cases_Bool (knows_span id c.spans)) [
          | inl known ↦ closes_whole c d id at (h.is_known known) w
          | inr unknown ↦ whole_budget c d (budget_same spare started c d (h.isnt unknown)) w
        ]

    pub does_whole : (c : Core T) (hook : Hook) (d : Core T) → DoesHook does events c hook d → IsWholeCore spare started c → IsWholeCore spare started d
    does_whole c hook d h w = step_whole h.prepared hook d h.step (same_whole_core c h.prepared h.room w)
