-- What calls from outside leave, and what is told of them.
use Rattle.std.proofs.Common.{◌≡◌, ℕ, ◌+◌, ◌<◌, ◌≤◌, ◌^◌, List, [], length, Bool, true, false, Option, Some, None, refl, sym, ap, subst, ◌∙◌, arith}
use Rattle.std.specs.Prelude.{◌||◌, if◌then◌else◌, Result, Ok, Err}
use Rattle.std.proofs.lemmas.Bool.{true≢false, or_parts, cond-true, cond-false}
use Rattle.std.specs.Map.{keys_of}
use Rattle.otel_base.specs.declared.context.Context.{Context}
use Rattle.otel_base.specs.declared.context.SpanContext.{SpanContext}
use Rattle.otel_base.specs.declared.memory.Memory.{Memory}
use Rattle.otel_base.specs.Tracer.{TracerCall, CountsSpares, CountsStarts}
use Rattle.trace_base.specs.layers.Hooks.{KnownSpans}
use Rattle.trace_base.specs.Spans.{Spans}
use Rattle.span_registry.specs.declared.layered.Layered.{Layered}
use Rattle.otel_state.specs.declared.op.Op.{Op}
use Rattle.otel_state.specs.declared.op.Op.TheVariants as ops
use Rattle.otel_state.specs.declared.op.OpReply.{OpReply}
use Rattle.otel_state.specs.States.{SpanData, after_op}
use Rattle.otel_layer.specs.Table.{data_at, with_op, start_context, unstarted_count}
use Rattle.otel_layer.specs.Core.{Core, seen_in, kept_in, seen_by, IsWholeCore}
use Rattle.otel_layer.specs.Steps.{StartsIf, StartsSpan}
use Rattle.otel_layer.specs.Parts.{PartCall, Applies, GivesContext, IsOutside, AppliesTo, own_context_if_known, Touches, GivesContextIn, AnswersCallIf, IsUnanswered, TouchesFirst, StaysLayer, StaysStack}
use Rattle.otel_layer.specs.laws.HookLemmas.{KeepsBudget, update_keys, update_unstarted_same, whole_budget, starts_budget}
use Rattle.otel_layer.specs.laws.KnownSpansLemmas.{Quiet, starts_quiet}

-- ---- what is told

shows_tell : {T : Type 0} (does : T → TracerCall → T → Type 0) (under : Option Context) (c d : Core T) (id at : ℕ) (answer : Option Context) → StartsIf does under id at c d → answer ≡ own_context_if_known (data_at id d.spans)
    → GivesContextIn under c.spans id at answer d.spans
shows_tell does None c d id at answer starts is = (ap (λ x. x.spans) starts, is)
shows_tell does (Some under) c d id at answer starts is = (starts.0, ap (λ x. x.spans) starts.2, is)

pub touches_tell : {T : Type 0} (does : T → TracerCall → T → Type 0) (c : Core T) (call : PartCall) (d : Core T) → Touches does c call d → AnswersCallIf (Some c.spans) call (Some d.spans)
touches_tell does c (Applies id at op answer) d h = (d.spans, refl, h.1)
touches_tell does c (GivesContext id at answer) d h = (d.spans, refl, shows_tell does (start_context (data_at id c.spans)) c d id at answer h.0 h.1)

-- ---- what stays of a layer

outside_keeps_own : (op : Op) → IsOutside op → (span_data : SpanData) (at : ℕ) → (after_op span_data at op).own ≡ span_data.own
outside_keeps_own (ops.AddEvent event) h span_data at = refl
outside_keeps_own (ops.Link link) h span_data at = refl
outside_keeps_own (ops.SetAttribute pair) h span_data at = refl
outside_keeps_own (ops.SetStatus status) h span_data at = refl
outside_keeps_own (ops.SetParent context) h span_data at = refl
outside_keeps_own (ops.Update update) h span_data at = absurd h
outside_keeps_own (ops.Event is_error update event) h span_data at = absurd h
outside_keeps_own ops.Counted h span_data at = absurd h
outside_keeps_own (ops.Start own) h span_data at = absurd h
outside_keeps_own ops.Enter h span_data at = absurd h
outside_keeps_own ops.Exit h span_data at = absurd h

applied_keeps : (o : Option SpanData) (spans now : List (ℕ × SpanData)) (id at : ℕ) (op : Op) (answer : Option (Result OpReply Memory)) → AppliesTo o spans id at op answer now → IsOutside op → (keys_of now ≡ keys_of spans) × (unstarted_count now ≡ unstarted_count spans)
applied_keeps None spans now id at op answer h out = (ap (λ (xs : List (ℕ × SpanData)). keys_of xs) h.1, ap unstarted_count h.1)
applied_keeps (Some span_data) spans now id at op None h out = absurd h
applied_keeps (Some span_data) spans now id at op (Some (Ok r)) h out =
    (ap (λ (xs : List (ℕ × SpanData)). keys_of xs) h.1 ∙ update_keys id (λ t. after_op t at op) spans, ap unstarted_count h.1 ∙ update_unstarted_same id (λ t. after_op t at op) spans (λ t. outside_keeps_own op out t at))
applied_keeps (Some span_data) spans now id at op (Some (Err memory)) h out = (ap (λ (xs : List (ℕ × SpanData)). keys_of xs) h.1, ap unstarted_count h.1)

quiet_seen : {T : Type 0} (c d : Core T) → Quiet c d → seen_in d ≡ seen_in c
quiet_seen c d q = ap (λ ks. seen_by ks d.tokens) q.keys ∙ ap (λ ts. seen_by (keys_of c.spans) ts) q.tokens

quiet_kept : {T : Type 0} (c d : Core T) → Quiet c d → kept_in d ≡ kept_in c
quiet_kept {T} c d q = ap (λ s. kept_in (let x : Core T = record d { settings = s } in x)) q.settings ∙ ap (λ ts. kept_in (let x : Core T = record d { settings = c.settings; tokens = ts } in x)) q.tokens

module _ {T : Type 0} (does : T → TracerCall → T → Type 0) (spare started : T → ℕ) (counts : (s : T) (call : TracerCall) (t : T) → does s call t → CountsSpares (spare s) call (spare t) × CountsStarts (started s) call (started t)) where
  touched : (c : Core T) (call : PartCall) (d : Core T) → Touches does c call d → KeepsBudget spare started c d × Quiet c d
  touched c (Applies id at op answer) d h =
      let same = applied_keeps (data_at id c.spans) c.spans d.spans id at op answer h.1 h.0 in
      let tracer = ap (λ x. x.tracer) h.2 in (
        record {
          keys = same.0;
          settings = ap (λ x. x.settings) h.2;
          reserved = ap (λ x. x.reserved) h.2;
          span_count = ap (λ x. x.span_count) h.2;
          spares = (let s = ap spare tracer in omega (arith, s));
          budget = (let s = ap started tracer in let w = same.1 in omega (arith, s, w));
        },
        record { keys = same.0; tokens = ap (λ x. x.tokens) h.2; settings = ap (λ x. x.settings) h.2 },
      )
  touched c (GivesContext id at answer) d h = (starts_budget does spare started counts id at c d h.0, starts_quiet does id at c d h.0)

  -- the clause of a law of the layer's trait, over the layer's value
  pub core_stays : (c : Core T) (call : PartCall) (d : Core T) → Touches does c call d
      → (seen_in d ≡ seen_in c) × (kept_in d ≡ kept_in c) × (d.settings.activation ≡ c.settings.activation) × (IsWholeCore spare started c → IsWholeCore spare started d)
  core_stays c call d h =
      let t = touched c call d h in
      (quiet_seen c d t.1, quiet_kept c d t.1, ap (λ s. s.activation) t.1.settings, whole_budget does spare started counts c d t.0)

pub layer_can_start : {T : Type 0} (spare started : T → ℕ) (c : Core T) → IsWholeCore spare started c → started c.tracer < 2 ^ 63
layer_can_start spare started c w = (let b = w.budget in let f = w.few in omega (arith, b, f))

-- ---- a subscriber without a layer, and two parts

module _ {L S : Type 0} (l_has : L → Bool) (s_has : S → Bool) (outer : L → PartCall → L → Type 0) (inner : S → PartCall → S → Type 0) where
  none_by : (b : Bool) (l : L) (s : S) (call : PartCall) (m : L) (t : S) → l_has l ≡ b → ((l : L) (call : PartCall) (m : L) → outer l call m → l_has l ≡ false → IsUnanswered call × (m ≡ l))
      → ((s : S) (call : PartCall) (t : S) → inner s call t → s_has s ≡ false → IsUnanswered call × (t ≡ s)) → TouchesFirst b outer inner l s call m t → (l_has l || s_has s) ≡ false → IsUnanswered call × (m ≡ l) × (t ≡ s)
  none_by true l s call m t is l_none s_none d without = absurd (true≢false (sym is ∙ (or_parts (l_has l) (s_has s) without).0))
  none_by false l s call m t is l_none s_none d without = (let n = s_none s call t d.1 (or_parts (l_has l) (s_has s) without).1 in (n.0, d.0, n.1))

  pub first_none : (l : L) (s : S) (call : PartCall) (m : L) (t : S) → ((l : L) (call : PartCall) (m : L) → outer l call m → l_has l ≡ false → IsUnanswered call × (m ≡ l))
      → ((s : S) (call : PartCall) (t : S) → inner s call t → s_has s ≡ false → IsUnanswered call × (t ≡ s)) → TouchesFirst (l_has l) outer inner l s call m t → (l_has l || s_has s) ≡ false → IsUnanswered call × (m ≡ l) × (t ≡ s)
  first_none l s call m t l_none s_none d without = none_by (l_has l) l s call m t refl l_none s_none d without

  module _ (l_keeps : (l : L) (call : PartCall) (m : L) → outer l call m → l_has m ≡ l_has l) where
    has_by : (b : Bool) (l : L) (s : S) (call : PartCall) (m : L) (t : S) → ((s : S) (call : PartCall) (t : S) → inner s call t → s_has t ≡ s_has s) → TouchesFirst b outer inner l s call m t → (l_has m || s_has t) ≡ (l_has l || s_has s)
    has_by true l s call m t s_keeps d = ap (λ x. x || s_has t) (l_keeps l call m d.0) ∙ ap (λ y. l_has l || s_has y) d.1
    has_by false l s call m t s_keeps d = ap (λ x. l_has x || s_has t) d.0 ∙ ap (λ y. l_has l || y) (s_keeps s call t d.1)

    pub first_has : (l : L) (s : S) (call : PartCall) (m : L) (t : S) → ((s : S) (call : PartCall) (t : S) → inner s call t → s_has t ≡ s_has s) → TouchesFirst (l_has l) outer inner l s call m t → (l_has m || s_has t) ≡ (l_has l || s_has s)
    first_has l s call m t s_keeps d = has_by (l_has l) l s call m t s_keeps d

    module _ (l_told : L → Option (List (ℕ × SpanData))) (s_told : S → Option (List (ℕ × SpanData))) (l_tells : (l : L) (call : PartCall) (m : L) → outer l call m → AnswersCallIf (l_told l) call (l_told m))
        (s_tells : (s : S) (call : PartCall) (t : S) → inner s call t → AnswersCallIf (s_told s) call (s_told t)) where
      tells_by : (b : Bool) (l : L) (s : S) (call : PartCall) (m : L) (t : S) → l_has l ≡ b → TouchesFirst b outer inner l s call m t → AnswersCallIf (if b then l_told l else s_told s) call (if l_has m then l_told m else s_told t)
      tells_by true l s call m t is d =
          subst (λ (o : Option (List (ℕ × SpanData))). AnswersCallIf (l_told l) call o) (sym (cond-true {A = Option (List (ℕ × SpanData))} (l_has m) (l_told m) (s_told t) (l_keeps l call m d.0 ∙ is))) (l_tells l call m d.0)
      tells_by false l s call m t is d =
          subst (λ (o : Option (List (ℕ × SpanData))). AnswersCallIf (s_told s) call o) (sym (cond-false {A = Option (List (ℕ × SpanData))} (l_has m) (l_told m) (s_told t) (ap l_has d.0 ∙ is))) (s_tells s call t d.1)

      pub first_tells : (l : L) (s : S) (call : PartCall) (m : L) (t : S) → TouchesFirst (l_has l) outer inner l s call m t → AnswersCallIf (if l_has l then l_told l else s_told s) call (if l_has m then l_told m else s_told t)
      first_tells l s call m t d = tells_by (l_has l) l s call m t refl d

pub layered_is : {L S : Type 0} (s t : Layered L S) → t.layer ≡ s.layer → t.inner ≡ s.inner → t ≡ s
layered_is {L} {S} s t l i = ap (λ (x : L). let r : Layered L S = record { layer = x; inner = t.inner } in r) l ∙ ap (λ (y : S). let r : Layered L S = record { layer = s.layer; inner = y } in r) i

-- ---- what stays of a stack

pub still_layer : {L : Type 0} (seen : L → KnownSpans) (kept : L → ℕ → ℕ → ℕ) (attaches : L → Bool) (is_whole : L → Type 0) (l m : L) → m ≡ l → StaysLayer seen kept attaches is_whole l m
still_layer seen kept attaches is_whole l m e = record { seen_same = ap seen e; kept_same = ap kept e; attaches_same = ap attaches e; whole = λ w. subst is_whole (sym e) w }

pub still_stack : {S : Type 0} (spans : S → Spans) (kept : S → ℕ → ℕ → ℕ) (attaches : S → Bool) (is_whole : S → Type 0) (s t : S) → t ≡ s → StaysStack spans kept attaches is_whole s t
still_stack spans kept attaches is_whole s t e = record { spans_same = ap spans e; kept_same = ap kept e; attaches_same = ap attaches e; whole = λ w. subst is_whole (sym e) w }

-- the part that isn't asked stays as it is
pub first_stay : {L S : Type 0} (b : Bool) (outer : L → PartCall → L → Type 0) (inner : S → PartCall → S → Type 0) (seen : L → KnownSpans) (kept : L → ℕ → ℕ → ℕ) (attaches : L → Bool) (is_whole : L → Type 0)
    → (spans : S → Spans) (below : S → ℕ → ℕ → ℕ) (inner_attaches : S → Bool) (inner_whole : S → Type 0) (l : L) (s : S) (call : PartCall) (m : L) (t : S)
    → (outer l call m → StaysLayer seen kept attaches is_whole l m) → (inner s call t → StaysStack spans below inner_attaches inner_whole s t)
    → TouchesFirst b outer inner l s call m t → StaysLayer seen kept attaches is_whole l m × StaysStack spans below inner_attaches inner_whole s t
first_stay true outer inner seen kept attaches is_whole spans below inner_attaches inner_whole l s call m t l_stays s_stays d = (l_stays d.0, still_stack spans below inner_attaches inner_whole s t d.1)
first_stay false outer inner seen kept attaches is_whole spans below inner_attaches inner_whole l s call m t l_stays s_stays d = (still_layer seen kept attaches is_whole l m d.0, s_stays d.1)
