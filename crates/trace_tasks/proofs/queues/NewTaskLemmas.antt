-- A span that was made for a task.
use Rattle.std.proofs.Common.{◌≡◌, ℕ, zero, suc, ◌+◌, ◌<◌, ◌≤◌, List, [], ◌∷◌, ◌++◌, length, Bool, true, false, Option, Some, None, Result, Ok, Err, refl, sym, ap, subst, ◌∙◌, arith, slice_get, IfOk, OnErr}
use Rattle.std.proofs.lemmas.List.{length_push}
use Rattle.trace_tasks.proofs.Common.{Memory, Callsite, ValueSet, Lane, LevelFilter, SubscriberCall, NewSpan, spans_after_call, with_new_span, CallKeepsLanes, WorldValue, Span, Spans, span_at, entries_on, parent_on, spans_in, no_spans, Handle, IsKnown, MakesIf, ReplacedIf, id_of, as_many, seen_before, seen_later, Instrumented, HasAll, same_kept, keeps_all, PartCall, TaskFuture, Task, WantsMemory, untouched, spare, MakesTaskSpan, Begins, MakesGated, values_of, root_of_one_handle, IsAlone, IsAloneAs, ReadyToPoll, dispatch_serving}
use Rattle.trace_base.specs.declared.span.Parent.TheVariants as parent

-- something is at each place
pub there : {X : Type 0} (xs : List X) (n : ℕ) → n < length xs → (x : X) × (slice_get xs n ≡ Some x)
there [] n less = absurd (omega (arith, less))
there (x ∷ xs) zero less = (x, refl)
there (x ∷ xs) (suc n) less = there xs n (omega (arith, less))

at_end : (made : List Span) (new : Span) (n : ℕ) → n ≡ length made → span_at (made ++ new ∷ []) n ≡ new
at_end [] new zero is = refl
at_end [] new (suc n) is = absurd (omega (arith, is))
at_end (x ∷ made) new zero is = absurd (omega (arith, is))
at_end (x ∷ made) new (suc n) is = at_end made new n (omega (arith, is))

before_end : (made : List Span) (new : Span) (q : ℕ) → q < length made → span_at (made ++ new ∷ []) q ≡ span_at made q
before_end [] new q less = absurd (omega (arith, less))
before_end (x ∷ made) new zero less = refl
before_end (x ∷ made) new (suc q) less = before_end made new q (omega (arith, less))

module _ {S : Type 0} (spans : S → Spans) (hint : S → Option LevelFilter) (enables : S → ℕ → Callsite → Bool) (attaches : S → Bool) (kept : S → ℕ → ℕ → ℕ) (is_whole : S → Type 0) (does : S → SubscriberCall → S → Type 0) (touches : S → PartCall → S → Type 0)
    (shows : (s : S) (call : SubscriberCall) (t : S) → does s call t → spans t ≡ spans_after_call (spans s) call) (lanes : (s : S) (call : SubscriberCall) (t : S) → does s call t → CallKeepsLanes (attaches s) (kept s) call (kept t))
    (keeps_whole : (s : S) (call : SubscriberCall) (t : S) → does s call t → is_whole s → is_whole t) where
  begun : (task : Task) (lane : Lane) (old new : WorldValue S) (f : Instrumented TaskFuture) (one : MakesTaskSpan spans hint enables does touches task.site task.fields lane old new f.span) → ReadyToPoll spans kept is_whole old lane → IsKnown spans new f.span.held → f.inner.steps.items ≡ task.steps
      → (made : f.span.site ≡ Some task.site) → IsAlone (spans_in spans new (dispatch_serving lane)).made (dispatch_serving lane) task.site f.span → ((id : ℕ) → id_of f.span.held ≡ Some id → length (spans_in spans old (dispatch_serving lane)).made ≤ id)
      → ((q : ℕ) → q < length (spans_in spans old (dispatch_serving lane)).made → span_at (spans_in spans new (dispatch_serving lane)).made q ≡ span_at (spans_in spans old (dispatch_serving lane)).made q)
      → length (spans_in spans new (dispatch_serving lane)).made ≤ length (spans_in spans old (dispatch_serving lane)).made + 1 → ReadyToPoll spans kept is_whole new lane → new.sites ≡ old.sites → Begins spans hint enables kept is_whole does touches task lane old new f
  begun task lane old new f one ready known steps site lone fresh stay count later sites = record {
    steps = steps;
    site = site;
    made = λ handles guards. record { callsite = one.callsite; is = one.is; admitted = one.admitted; gate = one.gate; handle = f.span; made = one.made; lane = refl; handles = refl; guards = refl };
    known = known;
    lone = lone;
    fresh = fresh;
    stay = stay;
    count = count;
    ready = later;
    sites = sites;
  }

  pub begins : (task : Task) (lane : Lane) (old new : WorldValue S) (f : Instrumented TaskFuture) → (one : MakesTaskSpan spans hint enables does touches task.site task.fields lane old new f.span) → ReadyToPoll spans kept is_whole old lane → IsKnown spans new f.span.held → f.inner.steps.items ≡ task.steps
      → Begins spans hint enables kept is_whole does touches task lane old new f
  begins task lane old new f one ready known steps = by_gate one.admitted one.made where
    d : ℕ
    d = dispatch_serving lane

    x : Spans
    x = spans_in spans old d

    by_gate : (admitted : Bool) → MakesGated spans hint enables does touches (dispatch_serving lane) admitted old new lane 0 task.site one.callsite task.fields f.span → Begins spans hint enables kept is_whole does touches task lane old new f
    by_gate false made =
        let same : spans_in spans new d ≡ x = ap (λ (w : WorldValue S). spans_in spans w d) made.1 in
        let site : f.span.site ≡ Some task.site = ap (λ (h : Handle). h.site) made.0 in
        let held : f.span.held ≡ None = ap (λ (h : Handle). h.held) made.0 in
        begun task lane old new f one ready known steps site
        (record { site_is = site; held_is = subst (λ (h : Handle). IsAloneAs (spans_in spans new d).made d task.site h.held) (sym made.0) tt })
        (λ id is. (let e : ◌≡◌ {A = Option ℕ} None (Some id) = sym (ap id_of held) ∙ is in absurd (cc e)))
        (λ q less. ap (λ (y : Spans). span_at y.made q) same)
        (let e = ap (λ (y : Spans). length y.made) same in omega (arith, e))
        (subst (λ (w : WorldValue S). ReadyToPoll spans kept is_whole w lane) (sym made.1) ready)
        (ap (λ (w : WorldValue S). w.sites) made.1)
    by_gate true made =
        let values : ValueSet = values_of one.callsite task.fields in
        let r = made.made in
        let call : SubscriberCall = NewSpan lane 0 parent.Current task.site made.callsite values in
        let R : S → S → Type 0 = λ s t. (made.id ≡ length (spans s).made) × does s call t in
        let new_span : Span = root_of_one_handle task.site in
        let grown : spans_in spans new d ≡ record x { made = x.made ++ new_span ∷ [] } =
        seen_later R old new d r spans no_spans ∙ shows r.before call r.later r.did.1 ∙ ap (λ (y : Spans). spans_after_call y call) (sym (seen_before R old new d r spans no_spans))
        ∙ ap (λ (ids : List ℕ). with_new_span x (parent_on ids parent.Current) task.site) ready.none_open in
        let id_is : made.id ≡ length x.made = r.did.0 ∙ ap (λ (y : Spans). length y.made) (sym (seen_before R old new d r spans no_spans)) in
        let site : f.span.site ≡ Some task.site = ap (λ (h : Handle). h.site) made.handle_is in
        let lone_at : span_at (spans_in spans new d).made made.id ≡ root_of_one_handle task.site = ap (λ (y : Spans). span_at y.made made.id) grown ∙ at_end x.made new_span made.id id_is in
        let kept_is : kept r.later ≡ kept r.before = lanes r.before call r.later r.did.1 in
        begun task lane old new f one ready known steps site
        (record { site_is = site; held_is = subst (λ (h : Handle). IsAloneAs (spans_in spans new d).made d task.site h.held) (sym made.handle_is) (refl, lone_at) })
        (λ id is. (let e : made.id ≡ id = the_id made.id id (sym (ap (λ (h : Handle). id_of h.held) made.handle_is) ∙ is) in omega (arith, e, id_is)))
        (λ q less. ap (λ (y : Spans). span_at y.made q) grown ∙ before_end x.made new_span q less)
        (let e = ap (λ (y : Spans). length y.made) grown in let l = length_push x.made new_span in omega (arith, e, l))
        (record {
          default = ready.default;
          there = (let n = as_many R old new d r in let t = ready.there in omega (arith, n, t));
          whole = keeps_all R old new d r is_whole (λ s t did w. keeps_whole s call t did.1 w) ready.whole;
          still = λ number. (let k = same_kept R old new d r kept kept_is lane.id number in let s = ready.still number in omega (arith, k, s));
          none_open = ap (λ (y : Spans). entries_on lane.id y.lanes) grown ∙ ready.none_open;
        })
        (ap (λ (w : WorldValue S). w.sites) r.others) where
          the_id : (a b : ℕ) → ◌≡◌ {A = Option ℕ} (Some a) (Some b) → a ≡ b
          the_id a b e = cc e

module _ {S : Type 0} (is_whole : S → Type 0) (spans : S → Spans) (does : S → SubscriberCall → S → Type 0) (same : S → S → Type 0) (keeps_whole : (s : S) (call : SubscriberCall) (t : S) → does s call t → is_whole s → is_whole t) (same_whole : (s t : S) → same s t → is_whole s → is_whole t) where
  -- all subscribers are whole after a making, or after want of memory
  pub whole_made : (lane : Lane) (at site : ℕ) (values : ValueSet) (old new : WorldValue S) (dispatch : Option ℕ) (result : Result Handle Memory) → HasAll is_whole old → IfOk result (MakesIf spans does old new lane at parent.Current site values dispatch)
      → OnErr result (ReplacedIf same old new dispatch) → HasAll is_whole new
  whole_made lane at site values old new None (Ok h) whole made left = subst (λ (w : WorldValue S). HasAll is_whole w) (sym made.1) whole
  whole_made lane at site values old new None (Err e) whole made left = subst (λ (w : WorldValue S). HasAll is_whole w) (sym left) whole
  whole_made lane at site values old new (Some d) (Ok h) whole made left =
      keeps_all (λ s t. (made.id ≡ length (spans s).made) × does s (NewSpan lane at parent.Current site made.callsite values) t) old new d made.made is_whole (λ s t did w. keeps_whole s (NewSpan lane at parent.Current site made.callsite values) t did.1 w) whole
  whole_made lane at site values old new (Some d) (Err e) whole made left = keeps_all same old new d left is_whole same_whole whole

module _ {S : Type 0} (spans : S → Spans) (hint : S → Option LevelFilter) (enables : S → ℕ → Callsite → Bool) (does : S → SubscriberCall → S → Type 0) (touches : S → PartCall → S → Type 0) (same : S → S → Type 0) where
  -- what a making that wanted memory leaves
  pub wants_made : (old new : WorldValue S) (dispatch : Option ℕ) (result : Result Handle Memory) → OnErr result (ReplacedIf same old new dispatch) → OnErr result (WantsMemory spans hint enables does touches same 0 old new)
  wants_made old new dispatch (Ok h) left = tt
  wants_made old new None (Err e) left = untouched left
  wants_made old new (Some d) (Err e) left = spare d left
