-- The laws of a layer over a subscriber, by those of its parts.
use Rattle.std.proofs.Common.{◌≡◌, ℕ, ◌+◌, List, [], length, Bool, true, false, count_by, Option, refl, sym, ap, subst, ◌∙◌, arith, inl, inr}
use Rattle.std.specs.Prelude.{◌==◌, ◌||◌, ◌&&◌, if◌then◌else◌}
use Rattle.std.proofs.lemmas.Bool.{or_parts, cases_eq, cond-true, cond-false, eq-eqb, ne_eqb}
use Rattle.otel_base.specs.declared.context.Context.{Context}
use Rattle.trace_base.specs.declared.callsite.Callsite.{Callsite}
use Rattle.trace_base.specs.declared.level.LevelFilter.{LevelFilter}
use Rattle.trace_base.specs.declared.subscriber.Interest.{Interest}
use Rattle.trace_base.specs.declared.lane.Lane.{Lane}
use Rattle.trace_base.specs.Spans.{Spans, span_at, entries_on, times_in, parent_on, current_of, without_hold, with_hold}
use Rattle.trace_base.specs.Calls.{SubscriberCall, NewSpan, Records, Follows, Event, Enter, Exit, CloneSpan, TryClose, spans_after_call, with_span_entry, with_span_exit}
use Rattle.trace_base.specs.Conditions.{Allowed}
use Rattle.trace_base.specs.layers.Hooks.{Hook, OnNewSpan, OnFollows, OnEvent, OnEnter, OnExit, KnownSpans, Sees, HookKeepsLanes}
use Rattle.trace_base.specs.lanes.Contexts.{attached_count, attached_count_on, TracksAttached, KeepsLane, KeepsLive, CallKeepsLanes}
use Rattle.std.proofs.lemmas.List.{length-set}
use Rattle.span_registry.specs.Both.{DoesBoth, EntersBoth, InStep, IsWholeBoth, interest_both, hint_both, enables_both, activates_both}
use Rattle.span_registry.specs.Stepping.{in_step, tracks_new, tracks_record, tracks_follows, tracks_event, tracks_enter, tracks_exit, tracks_close, tracks_quiet, sees_quiet}

-- what a call does after room was taken
pub both_same : {S L : Type 0} (spans : S → Spans) (inner : S → SubscriberCall → S → Type 0) (outer : L → Hook → L → Type 0) (same : L → L → Type 0) (attaches : L → Bool)
    → (s t : S) (l m : L) (call : SubscriberCall) (u : S) (n : L)
    → spans t ≡ spans s → attaches m ≡ attaches l → ((c : SubscriberCall) → inner t c u → inner s c u) → ((h : Hook) → outer m h n → outer l h n) → (same m n → same l n)
    → DoesBoth spans inner outer same attaches t m call u n → DoesBoth spans inner outer same attaches s l call u n
both_same spans inner outer same attaches s t l m (NewSpan lane at parent site callsite values) u n sp a si so trans d =
    (si _ d.0, so _ (subst (λ (x : Spans). outer m (OnNewSpan (length x.made) lane at parent (current_of (entries_on lane.id x.lanes)) callsite values) n) sp d.1))
both_same spans inner outer same attaches s t l m (Records id at callsite values) u n sp a si so trans d = (si _ d.0, so _ d.1)
both_same spans inner outer same attaches s t l m (Follows id from at) u n sp a si so trans d = (si _ d.0, so _ d.1)
both_same spans inner outer same attaches s t l m (Event lane at parent site callsite values) u n sp a si so trans d =
    (si _ d.0, so _ (subst (λ (x : Spans). outer m (OnEvent (parent_on (entries_on lane.id x.lanes) parent) lane at callsite values) n) sp d.1))
both_same spans inner outer same attaches s t l m (Enter id at before later) u n sp a si so trans d = record {
  prepared = d.prepared;
  between = d.between;
  room = subst (λ (b : Bool). KeepsLive b before d.prepared) a d.room;
  first = si _ d.first;
  second = so _ d.second;
}
both_same spans inner outer same attaches s t l m (Exit id at before later) u n sp a si so trans d = record { between = d.between; first = si _ d.first; second = so _ d.second }
both_same spans inner outer same attaches s t l m (CloneSpan id) u n sp a si so trans d = (si _ d.0, trans d.1)
both_same spans inner outer same attaches s t l m (TryClose id at) u n sp a si so trans d =
    let holds = ap (λ (x : Spans). (span_at x.made id).holds) sp in
    record {
      first = si _ d.first;
      closed = λ one. so _ (d.closed (holds ∙ one));
      open_still = λ more. trans (d.open_still (λ one. more (sym holds ∙ one)));
    }

-- what a call needs, and what it makes of the spans
pub both_allowed : {S L : Type 0} (spans : S → Spans) (inner : S → SubscriberCall → S → Type 0) (outer : L → Hook → L → Type 0) (same : L → L → Type 0) (attaches : L → Bool)
    → (s t : S) (l m : L) (call : SubscriberCall) → ((c : SubscriberCall) → inner s c t → Allowed (spans s) c)
    → DoesBoth spans inner outer same attaches s l call t m → Allowed (spans s) call
both_allowed spans inner outer same attaches s t l m (NewSpan lane at parent site callsite values) si d = si _ d.0
both_allowed spans inner outer same attaches s t l m (Records id at callsite values) si d = si _ d.0
both_allowed spans inner outer same attaches s t l m (Follows id from at) si d = si _ d.0
both_allowed spans inner outer same attaches s t l m (Event lane at parent site callsite values) si d = si _ d.0
both_allowed spans inner outer same attaches s t l m (Enter id at before later) si d = si _ d.first
both_allowed spans inner outer same attaches s t l m (Exit id at before later) si d = si _ d.first
both_allowed spans inner outer same attaches s t l m (CloneSpan id) si d = si _ d.0
both_allowed spans inner outer same attaches s t l m (TryClose id at) si d = si _ d.first

pub both_shows : {S L : Type 0} (spans : S → Spans) (inner : S → SubscriberCall → S → Type 0) (outer : L → Hook → L → Type 0) (same : L → L → Type 0) (attaches : L → Bool)
    → (s t : S) (l m : L) (call : SubscriberCall) → ((c : SubscriberCall) → inner s c t → spans t ≡ spans_after_call (spans s) c)
    → DoesBoth spans inner outer same attaches s l call t m → spans t ≡ spans_after_call (spans s) call
both_shows spans inner outer same attaches s t l m (NewSpan lane at parent site callsite values) si d = si _ d.0
both_shows spans inner outer same attaches s t l m (Records id at callsite values) si d = si _ d.0
both_shows spans inner outer same attaches s t l m (Follows id from at) si d = si _ d.0
both_shows spans inner outer same attaches s t l m (Event lane at parent site callsite values) si d = si _ d.0
both_shows spans inner outer same attaches s t l m (Enter id at before later) si d = si _ d.first ∙ ap (λ (lane : ℕ). with_span_entry (spans s) id lane) d.room.keeps.id
both_shows spans inner outer same attaches s t l m (Exit id at before later) si d = si _ d.first
both_shows spans inner outer same attaches s t l m (CloneSpan id) si d = si _ d.0
both_shows spans inner outer same attaches s t l m (TryClose id at) si d = si _ d.first

-- of both parts, what is kept attached
abbrev pub kept_both : (ℕ → ℕ → ℕ) → (ℕ → ℕ → ℕ) → ℕ → ℕ → ℕ
kept_both outer inner = λ lane number. outer lane number + inner lane number

pub kept_same : (lk lk' sk sk' : ℕ → ℕ → ℕ) → lk' ≡ lk → sk' ≡ sk → kept_both lk' sk' ≡ kept_both lk sk
kept_same lk lk' sk sk' e f = ap (λ (k : ℕ → ℕ → ℕ). kept_both k sk') e ∙ ap (λ (k : ℕ → ℕ → ℕ). kept_both lk k) f

pub on_same : (lane number : ℕ) (a b : Lane) → b.id ≡ a.id → b.contexts.live ≡ a.contexts.live → attached_count_on lane number b ≡ attached_count_on lane number a
on_same lane number a b id live =
    let numbers = ap (λ (xs : List (ℕ × Context)). count_by (λ item. item.0 == number) xs) live in
    elim (cases_eq a.id lane) [
      | inl on ↦ (
          let x = cond-true {A = ℕ} (a.id == lane) (attached_count number a) 0 (eq-eqb a.id lane on) in
          let y = cond-true {A = ℕ} (b.id == lane) (attached_count number b) 0 (eq-eqb b.id lane (id ∙ on)) in
          y ∙ numbers ∙ sym x)
      | inr off ↦ (
          let x = cond-false {A = ℕ} (a.id == lane) (attached_count number a) 0 (ne_eqb a.id lane off) in
          let y = cond-false {A = ℕ} (b.id == lane) (attached_count number b) 0 (ne_eqb b.id lane (λ e. off (sym id ∙ e))) in
          y ∙ sym x)
    ]

keeps_both : (la sa : Bool) (a b c : Lane) → KeepsLane sa a b → KeepsLane la b c → KeepsLane (la || sa) a c
keeps_both la sa a b c k n = record {
  id = n.id ∙ k.id;
  name = n.name ∙ k.name;
  default = n.default ∙ k.default;
  as_it_is = λ no. let parts = or_parts la sa no in n.as_it_is parts.0 ∙ k.as_it_is parts.1;
}

attached_both : (sk tk lk mk : ℕ → ℕ → ℕ) (a b c : Lane) → TracksAttached sk a b tk → TracksAttached lk b c mk → TracksAttached (kept_both lk sk) a c (kept_both mk tk)
attached_both sk tk lk mk a b c k n lane number = omega (arith, k lane number, n lane number)

pub both_lanes : {S L : Type 0} (spans : S → Spans) (inner : S → SubscriberCall → S → Type 0) (outer : L → Hook → L → Type 0) (same : L → L → Type 0) (attaches : L → Bool)
    → (s t : S) (l m : L) (call : SubscriberCall) (sa : Bool) (sk tk lk mk : ℕ → ℕ → ℕ)
    → ((c : SubscriberCall) → inner s c t → CallKeepsLanes sa sk c tk) → ((h : Hook) → outer l h m → HookKeepsLanes (attaches l) lk h mk) → (same l m → mk ≡ lk)
    → DoesBoth spans inner outer same attaches s l call t m → CallKeepsLanes (attaches l || sa) (kept_both lk sk) call (kept_both mk tk)
both_lanes spans inner outer same attaches s t l m (NewSpan lane at parent site callsite values) sa sk tk lk mk si so ss d = kept_same lk mk sk tk (so _ d.1) (si _ d.0)
both_lanes spans inner outer same attaches s t l m (Records id at callsite values) sa sk tk lk mk si so ss d = kept_same lk mk sk tk (so _ d.1) (si _ d.0)
both_lanes spans inner outer same attaches s t l m (Follows id from at) sa sk tk lk mk si so ss d = kept_same lk mk sk tk (so _ d.1) (si _ d.0)
both_lanes spans inner outer same attaches s t l m (Event lane at parent site callsite values) sa sk tk lk mk si so ss d = kept_same lk mk sk tk (so _ d.1) (si _ d.0)
both_lanes spans inner outer same attaches s t l m (Enter id at before later) sa sk tk lk mk si so ss d =
    let a = si _ d.first in
    let b = so _ d.second in
    let r = d.room.keeps in (
      record {
        id = b.0.id ∙ a.0.id ∙ r.id;
        name = b.0.name ∙ a.0.name ∙ r.name;
        default = b.0.default ∙ a.0.default ∙ r.default;
        as_it_is = λ no. let parts = or_parts (attaches l) sa no in b.0.as_it_is parts.0 ∙ a.0.as_it_is parts.1 ∙ r.as_it_is parts.0;
      },
      λ lane number. let e = on_same lane number before d.prepared r.id d.room.live in omega (arith, a.1 lane number, b.1 lane number, e),
    )
both_lanes spans inner outer same attaches s t l m (Exit id at before later) sa sk tk lk mk si so ss d =
    let a = si _ d.first in
    let b = so _ d.second in
    (keeps_both (attaches l) sa before d.between later a.0 b.0, attached_both sk tk lk mk before d.between later a.1 b.1)
both_lanes spans inner outer same attaches s t l m (CloneSpan id) sa sk tk lk mk si so ss d = kept_same lk mk sk tk (ss d.1) (si _ d.0)
both_lanes spans inner outer same attaches s t l m (TryClose id at) sa sk tk lk mk si so ss d =
    elim (cases_eq (span_at (spans s).made id).holds 1) [
      | inl one ↦ kept_same lk mk sk tk (so _ (d.closed one)) (si _ d.first)
      | inr more ↦ kept_same lk mk sk tk (ss (d.open_still more)) (si _ d.first)
    ]

neither_way : (known : Bool) → ◌≡◌ {A = ℕ} (if known then 0 else 0) 0
neither_way true = refl
neither_way false = refl

-- where a lane has no entry neither part keeps anything attached
pub both_none_kept : (P Q : Type 0) (spans : Spans) (seen : KnownSpans) (sa la : Bool) (sk lk : ℕ → ℕ → ℕ) (lane number : ℕ)
    → (P → entries_on lane spans.lanes ≡ [] → sk lane number ≡ 0) → (((id : ℕ) → seen.entries lane id ≡ 0) → lk lane number ≡ 0)
    → IsWholeBoth P Q spans seen sa la → entries_on lane spans.lanes ≡ [] → lk lane number + sk lane number ≡ 0
both_none_kept P Q spans seen sa la sk lk lane number si so w none =
    let inner = si w.inner none in
    let outer = so (λ id. w.in_step.entries lane id ∙ ap (λ (ids : List ℕ). if seen.knows id then times_in id ids else 0) none ∙ neither_way (seen.knows id)) in
    omega (arith, inner, outer)

one_is_off : {P : Type 0} (a k : Bool) → (a && k) ≡ false → (a ≡ false → P) → (k ≡ false → P) → P
one_is_off true k off first second = second off
one_is_off false k off first second = first refl

-- an entry that attaches nothing in either part leaves the contexts as they are
pub both_passive : {S L : Type 0} (inner : S → SubscriberCall → S → Type 0) (outer : L → Hook → L → Type 0) (attaches : Bool)
    → (s t : S) (l m : L) (id at : ℕ) (before later : Lane) (seen : KnownSpans) (activates : ℕ → Bool)
    → ((b c : Lane) → inner s (Enter id at b c) t → activates id ≡ false → c.contexts.live ≡ b.contexts.live)
    → ((b c : Lane) → outer l (OnEnter id at b c) m → attaches ≡ false → c ≡ b)
    → ((b c : Lane) → outer l (OnEnter id at b c) m → seen.knows id ≡ false → c.contexts.live ≡ b.contexts.live)
    → EntersBoth inner outer attaches s l id at before later t m → activates_both attaches seen activates id ≡ false → later.contexts.live ≡ before.contexts.live
both_passive inner outer attaches s t l m id at before later seen activates si off unknown d neither =
    let parts = or_parts (attaches && seen.knows id) (activates id) neither in
    one_is_off attaches (seen.knows id) parts.0 (λ a. ap (λ (x : Lane). x.contexts.live) (off _ _ d.second a)) (λ k. unknown _ _ d.second k)
    ∙ si _ _ d.first parts.1 ∙ d.room.live

-- what each part keeps at a call
pub both_keep : {S L : Type 0} (spans : S → Spans) (inner : S → SubscriberCall → S → Type 0) (outer : L → Hook → L → Type 0) (same : L → L → Type 0) (attaches : L → Bool)
    → (s t : S) (l m : L) (call : SubscriberCall) (P : Type 0) (Q : Type 0)
    → ((c : SubscriberCall) → inner s c t → P) → ((h : Hook) → outer l h m → Q) → (same l m → Q)
    → DoesBoth spans inner outer same attaches s l call t m → P × Q
both_keep spans inner outer same attaches s t l m (NewSpan lane at parent site callsite values) P Q si so ss d = (si _ d.0, so _ d.1)
both_keep spans inner outer same attaches s t l m (Records id at callsite values) P Q si so ss d = (si _ d.0, so _ d.1)
both_keep spans inner outer same attaches s t l m (Follows id from at) P Q si so ss d = (si _ d.0, so _ d.1)
both_keep spans inner outer same attaches s t l m (Event lane at parent site callsite values) P Q si so ss d = (si _ d.0, so _ d.1)
both_keep spans inner outer same attaches s t l m (Enter id at before later) P Q si so ss d = (si _ d.first, so _ d.second)
both_keep spans inner outer same attaches s t l m (Exit id at before later) P Q si so ss d = (si _ d.first, so _ d.second)
both_keep spans inner outer same attaches s t l m (CloneSpan id) P Q si so ss d = (si _ d.0, ss d.1)
both_keep spans inner outer same attaches s t l m (TryClose id at) P Q si so ss d =
    (si _ d.first, elim (cases_eq (span_at (spans s).made id).holds 1) [ inl one ↦ so _ (d.closed one) | inr more ↦ ss (d.open_still more) ])

-- the layer stays in step
pub both_in_step : {S L : Type 0} (spans : S → Spans) (inner : S → SubscriberCall → S → Type 0) (outer : L → Hook → L → Type 0) (same : L → L → Type 0) (attaches : L → Bool)
    → (s t : S) (l m : L) (call : SubscriberCall) (seen now : KnownSpans)
    → ((c : SubscriberCall) → inner s c t → spans t ≡ spans_after_call (spans s) c) → ((c : SubscriberCall) → inner s c t → Allowed (spans s) c)
    → (a : Bool) (k n : ℕ → ℕ → ℕ) → ((c : SubscriberCall) → inner s c t → CallKeepsLanes a k c n)
    → ((h : Hook) → outer l h m → Sees seen h now) → (same l m → now ≡ seen)
    → DoesBoth spans inner outer same attaches s l call t m → InStep (spans s) seen → InStep (spans t) now
both_in_step spans inner outer same attaches s t l m (NewSpan lane at parent site callsite values) seen now si sa a k n sl so ss d step =
    subst (λ (x : Spans). InStep x now) (sym (si _ d.0)) (in_step _ _ _ seen now step (tracks_new (spans s) seen step lane at parent _ callsite values _ site) (so _ d.1))
both_in_step spans inner outer same attaches s t l m (Records id at callsite values) seen now si sa a k n sl so ss d step =
    subst (λ (x : Spans). InStep x now) (sym (si _ d.0)) (in_step _ _ _ seen now step (tracks_record (spans s) seen step id at callsite values) (so _ d.1))
both_in_step spans inner outer same attaches s t l m (Follows id from at) seen now si sa a k n sl so ss d step =
    subst (λ (x : Spans). InStep x now) (sym (si _ d.0)) (in_step _ _ _ seen now step (tracks_follows (spans s) seen step id from at) (so _ d.1))
both_in_step spans inner outer same attaches s t l m (Event lane at parent site callsite values) seen now si sa a k n sl so ss d step =
    subst (λ (x : Spans). InStep x now) (sym (si _ d.0)) (in_step _ _ _ seen now step (tracks_event (spans s) seen step _ lane at callsite values) (so _ d.1))
both_in_step spans inner outer same attaches s t l m (Enter id at before later) seen now si sa a k n sl so ss d step =
    subst (λ (x : Spans). InStep x now) (sym (si _ d.first))
    (in_step (spans s) (with_span_entry (spans s) id d.prepared.id) (OnEnter id at d.between later) seen now step
    (tracks_enter (spans s) seen step id at d.between later d.prepared.id (sl _ d.first).0.id (sa _ d.first)) (so _ d.second))
both_in_step spans inner outer same attaches s t l m (Exit id at before later) seen now si sa a k n sl so ss d step =
    subst (λ (x : Spans). InStep x now) (sym (si _ d.first))
    (in_step (spans s) (with_span_exit (spans s) id before.id) (OnExit id at d.between later) seen now step
    (tracks_exit (spans s) seen step id at d.between later before.id (sl _ d.first).0.id (sa _ d.first)) (so _ d.second))
both_in_step spans inner outer same attaches s t l m (CloneSpan id) seen now si sa a k n sl so ss d step =
    subst (λ (x : KnownSpans). InStep (spans t) x) (sym (ss d.1)) (subst (λ (x : Spans). InStep x seen) (sym (si _ d.0))
    (in_step (spans s) (record (spans s) { made = with_hold (spans s).made id }) (OnFollows 0 0 0) seen seen step
    (tracks_quiet (spans s) (record (spans s) { made = with_hold (spans s).made id }) seen step (length-set (spans s).made id _) refl) (sees_quiet seen)))
both_in_step spans inner outer same attaches s t l m (TryClose id at) seen now si sa a k n sl so ss d step =
    elim (cases_eq (span_at (spans s).made id).holds 1) [
      | inl one ↦ subst (λ (x : Spans). InStep x now) (sym (si _ d.first)) (in_step _ _ _ seen now step (tracks_close (spans s) seen step id at (sa _ d.first) one) (so _ (d.closed one)))
      | inr more ↦ subst (λ (x : KnownSpans). InStep (spans t) x) (sym (ss (d.open_still more))) (subst (λ (x : Spans). InStep x seen) (sym (si _ d.first))
          (in_step (spans s) (record (spans s) { made = without_hold (spans s).made id }) (OnFollows 0 0 0) seen seen step
          (tracks_quiet (spans s) (record (spans s) { made = without_hold (spans s).made id }) seen step (length-set (spans s).made id _) refl) (sees_quiet seen)))
    ]

pub or_same : (la la' sa sa' : Bool) → la' ≡ la → sa' ≡ sa → (la' || sa') ≡ (la || sa)
or_same la la' sa sa' e f = ap (λ b. b || sa') e ∙ ap (λ b. la || b) f

pub in_step_same : (x y : Spans) (a b : KnownSpans) → y ≡ x → b ≡ a → InStep x a → InStep y b
in_step_same x y a b e f step = subst (λ (z : KnownSpans). InStep y z) (sym f) (subst (λ (z : Spans). InStep z a) (sym e) step)

pub both_whole : (P P' Q Q' : Type 0) (x y : Spans) (a b : KnownSpans) (sa sa' la la' : Bool) → (P → P') → (Q → Q') → (InStep x a → InStep y b) → sa' ≡ sa → la' ≡ la → IsWholeBoth P Q x a sa la → IsWholeBoth P' Q' y b sa' la'
both_whole P P' Q Q' x y a b sa sa' la la' p q step e f w = record {
  inner = p w.inner;
  outer = q w.outer;
  in_step = step w.in_step;
  one_attaches = ap (λ c. c && sa') f ∙ ap (λ c. la && c) e ∙ w.one_attaches;
}

pub gate_same : (li li' si si' : Callsite → Interest) (lh lh' sh sh' : Option LevelFilter) → (si' ≡ si) × (sh' ≡ sh) → (li' ≡ li) × (lh' ≡ lh) → (interest_both li' si' ≡ interest_both li si) × (hint_both lh' sh' ≡ hint_both lh sh)
gate_same li li' si si' lh lh' sh sh' s l = (
  ap (λ (f : Callsite → Interest). interest_both f si') l.0 ∙ ap (λ (f : Callsite → Interest). interest_both li f) s.0,
  ap (λ (h : Option LevelFilter). hint_both h sh') l.1 ∙ ap (λ (h : Option LevelFilter). hint_both lh h) s.1,
)

pub enables_same : (le le' se se' : ℕ → Callsite → Bool) → le' ≡ le → se' ≡ se → enables_both le' se' ≡ enables_both le se
enables_same le le' se se' e f = ap (λ (k : ℕ → Callsite → Bool). enables_both k se') e ∙ ap (λ (k : ℕ → Callsite → Bool). enables_both le k) f

pub activates_same : (la la' : Bool) (x x' : KnownSpans) (sa sa' : ℕ → Bool) → la' ≡ la → x' ≡ x → sa' ≡ sa → activates_both la' x' sa' ≡ activates_both la x sa
activates_same la la' x x' sa sa' e f g = ap (λ b. activates_both b x' sa') e ∙ ap (λ (y : KnownSpans). activates_both la y sa') f ∙ ap (λ (k : ℕ → Bool). activates_both la x k) g
