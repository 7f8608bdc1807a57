-- What polls under a span keep of a scene.
use Rattle.std.proofs.Common.{◌≡◌, ℕ, ◌≤◌, List, [], ◌∷◌, ◌++◌, Bool, Option, None, sym, ap, subst, ◌∙◌, arith, count_by, inl, inr, ◌⊎◌}
use Rattle.std.specs.Prelude.{◌==◌}
use Rattle.otel_base.specs.declared.context.Context.{Context}
use Rattle.trace_base.specs.declared.lane.Lane.{Lane}
use Rattle.trace_base.specs.Gate.{WorldValue, IsInWorld}
use Rattle.trace_base.specs.Spans.{Spans}
use Rattle.trace_base.specs.Calls.{SubscriberCall, Exit, spans_after_call}
use Rattle.trace_base.specs.lanes.Contexts.{CallKeepsLanes, attached_count}
use Rattle.trace_base.proofs.EntryLemmas.{count_push}
use Rattle.span_handles.specs.Handles.{HeldSpan, ReplacedOn}
use Rattle.span_handles.specs.Entries.{BeginsInside}
use Rattle.span_futures.specs.declared.instrument.Instrumented.{Instrumented}
use Rattle.span_futures.specs.Polls.{PollResult, FailsToEnter, PollsInside}
use Rattle.span_futures.specs.Lent.{total_kept}
use Rattle.explain_stack.specs.Order.{Stands}
use Rattle.explain_stack.specs.Puts.{PollsUnder}
use Rattle.explain_stack.proofs.Moves.{entered_stands, exited_stands, lane_left}
use Rattle.explain_stack.proofs.Quiet.{quiet_same}
use Rattle.explain_stack.proofs.Steps.{quiet_on}

-- what was attached to a lane stays where one more is attached, and where nothing is
pub attached_more : (number n : ℕ) (own : Context) (before later : Lane) → later.contexts.live ≡ before.contexts.live ++ (n, own) ∷ [] → attached_count number before ≤ attached_count number later
attached_more number n own before later live =
    let item : ℕ × Context = (n, own) in
    let all = ap (λ (xs : List (ℕ × Context)). count_by (λ i. i.0 == number) xs) live in
    let push = count_push (λ (i : ℕ × Context). i.0 == number) before.contexts.live item in
    omega (arith, all, push)

pub attached_same : (number : ℕ) (before later : Lane) → later.contexts.live ≡ before.contexts.live → attached_count number before ≤ attached_count number later
attached_same number before later live =
    let all = ap (λ (xs : List (ℕ × Context)). count_by (λ i. i.0 == number) xs) live in
    omega (arith, all)

module _ {S : Type 0} (spans : S → Spans) (attaches : S → Bool) (kept : S → ℕ → ℕ → ℕ) (is_whole : S → Type 0) (does : S → SubscriberCall → S → Type 0)
    (shows : (s : S) (call : SubscriberCall) (t : S) → does s call t → spans t ≡ spans_after_call (spans s) call) (lanes : (s : S) (call : SubscriberCall) (t : S) → does s call t → CallKeepsLanes (attaches s) (kept s) call (kept t))
    (keeps_whole : (s : S) (call : SubscriberCall) (t : S) → does s call t → is_whole s → is_whole t) (dispatch span_count site_count : ℕ) where
  -- an entry and an exit, with nothing between them
  inside_stands : (at : ℕ) (held : HeldSpan) (old world left new : WorldValue S) (before lane left_lane later other : Lane) → BeginsInside does at held old before world lane → left ≡ world → left_lane ≡ lane
      → ReplacedOn (λ id s t. does s (Exit id at left_lane later) t) left new held → (held ≡ None → later ≡ left_lane)
      → Stands spans kept is_whole dispatch span_count site_count old before other → Stands spans kept is_whole dispatch span_count site_count new later other
  inside_stands at held old world left new before lane left_lane later other begins same lane_same exited none stands =
      exited_stands spans attaches kept is_whole does shows lanes keeps_whole dispatch span_count site_count held left new at left_lane later other exited none
      (subst (λ (l : Lane). Stands spans kept is_whole dispatch span_count site_count left l other) (sym lane_same)
      (subst (λ (w : WorldValue S). Stands spans kept is_whole dispatch span_count site_count w lane other) (sym same)
      (entered_stands spans attaches kept is_whole does shows lanes keeps_whole dispatch span_count site_count held old world at before lane other begins.entered begins.none stands)))

  -- a poll under a span of a future that leaves the world and the lane as they are
  pub polled_stands : (same : S → S → Type 0) → ((s t : S) → same s t → spans t ≡ spans s) → ((s t : S) → same s t → kept t ≡ kept s) → ((s t : S) → same s t → is_whole s → is_whole t)
      → (activates : S → ℕ → Bool) {T A : Type 0} (polls : T → WorldValue S → Lane → ℕ → PollResult A → T → WorldValue S → Lane → Type 0)
      → ((f : T) (w : WorldValue S) (l : Lane) (at : ℕ) (r : PollResult A) (g : T) (v : WorldValue S) (m : Lane) → polls f w l at r g v m → (v ≡ w) × (m ≡ l))
      → (future next : Instrumented T) (old new : WorldValue S) (before later other : Lane) (at : ℕ) (r : PollResult A)
      → FailsToEnter same activates future old before r next new later ⊎ PollsInside does activates polls future old before at r next new later
      → Stands spans kept is_whole dispatch span_count site_count old before other → Stands spans kept is_whole dispatch span_count site_count new later other
  polled_stands same same_spans same_kept same_whole activates polls leaves future next old new before later other at r (inl refused) stands =
      lane_left spans kept is_whole dispatch span_count site_count new before later other refused.lane_same
      (quiet_on spans kept is_whole (λ id. same) (λ id. quiet_same spans kept is_whole same same_spans same_kept same_whole) old new future.span.held dispatch span_count site_count before other refused.nothing stands)
  polled_stands same same_spans same_kept same_whole activates polls leaves future next old new before later other at r (inr inside) stands =
      let same_world = leaves future.inner inside.world inside.lane at r next.inner inside.left_world inside.left_lane inside.polled in
      inside_stands at future.span.held old inside.world inside.left_world new before inside.lane inside.left_lane later other inside.entered same_world.0 same_world.1 inside.exited inside.none stands

-- a poll, and a disabled handle that is closed
pub polls_under : {S T A : Type 0} (same : S → S → Type 0) (does : S → SubscriberCall → S → Type 0) (activates : S → ℕ → Bool) (polls : T → WorldValue S → Lane → ℕ → PollResult A → T → WorldValue S → Lane → Type 0) (at : ℕ) (given future next : Instrumented T) (old left new : WorldValue S) (before later : Lane) (r : PollResult A) (closes : ℕ → S → S → Type 0) (closed : HeldSpan)
    → future ≡ given → closed ≡ None → ReplacedOn closes left new closed
    → FailsToEnter same activates future old before r next left later ⊎ PollsInside does activates polls future old before at r next left later
    → PollsUnder same does activates polls given old before at r new later
polls_under {S} {T} same does activates polls at given future next old left new before later r closes closed is none did polled =
    subst (λ (f : Instrumented T). PollsUnder same does activates polls f old before at r new later) is
    (subst (λ (w : WorldValue S). PollsUnder same does activates polls future old before at r w later) (sym (subst (λ (h : HeldSpan). ReplacedOn closes left new h) none did))
    (record { next = next; did = polled }))

-- more is attached to the lane
pub filled_stands : {S : Type 0} (spans : S → Spans) (kept : S → ℕ → ℕ → ℕ) (is_whole : S → Type 0) (dispatch span_count site_count : ℕ) (world : WorldValue S) (before later other : Lane) → later.id ≡ before.id → later.default ≡ before.default
    → ((number : ℕ) → attached_count number before ≤ attached_count number later) → Stands spans kept is_whole dispatch span_count site_count world before other → Stands spans kept is_whole dispatch span_count site_count world later other
filled_stands spans kept is_whole dispatch span_count site_count world before later other id default more stands = record {
  there = stands.there;
  whole = stands.whole;
  few = stands.few;
  declared = stands.declared;
  attached = λ number. (
      let i = ap (λ (l : ℕ). total_kept kept world l number) id in
      let a = more number in
      let b = stands.attached number in
      omega (arith, i, a, b));
  in_world = subst (λ (o : Option ℕ). IsInWorld world o) (sym default) stands.in_world;
  attached_other = stands.attached_other;
  other_in_world = stands.other_in_world;
  apart = λ e. stands.apart (e ∙ id);
}
