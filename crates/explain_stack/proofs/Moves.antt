-- What entries, exits and makings keep of a scene.
use Rattle.std.proofs.Common.{◌≡◌, ℕ, ◌+◌, ◌≤◌, List, [], ◌∷◌, length, Bool, Option, Some, None, refl, sym, ap, subst, ◌∙◌, arith, count_by, slice_get, true, false, inl, inr}
use Rattle.std.specs.Prelude.{◌==◌, if◌then◌else◌}
use Rattle.std.proofs.lemmas.List.{length-set, length-append}
use Rattle.std.proofs.lemmas.Bool.{cases_eq, cond-false, ne_eqb}
use Rattle.trace_base.specs.declared.callsite.Callsite.{Callsite}
use Rattle.trace_base.specs.declared.field.ValueSet.{ValueSet}
use Rattle.trace_base.specs.declared.lane.Lane.{Lane}
use Rattle.trace_base.specs.declared.span.Parent.{Parent}
use Rattle.trace_base.specs.Gate.{WorldValue, IsInWorld}
use Rattle.trace_base.specs.Spans.{Span, Spans, entries_on, times_in, is_in, parent_on, with_hold, without_hold, with_hold_of_child}
use Rattle.trace_base.specs.Calls.{SubscriberCall, NewSpan, Enter, Exit, spans_after_call, with_span_entry, with_span_exit}
use Rattle.trace_base.specs.Conditions.{HasUnboundHold, MayExit}
use Rattle.trace_base.specs.lanes.Contexts.{CallKeepsLanes, TracksAttached, attached_count}
use Rattle.trace_base.proofs.EntryLemmas.{counted_if_any, length_held}
use Rattle.trace_base.proofs.HoldLemmas.{first_if_in}
use Rattle.span_handles.specs.Worlds.{Replaced}
use Rattle.span_handles.specs.Handles.{HeldSpan, IsKnown, HasOn, ReplacedOn}
use Rattle.span_handles.specs.Entries.{KeepsLaneButRoom}
use Rattle.span_handles.proofs.ChangedSubscriberLemmas.{as_many, now_there}
use Rattle.span_futures.specs.Lent.{total_kept, AreAllAttached}
use Rattle.span_futures.proofs.KeptLemmas.{keeps_all, others_same, same_kept, own_after, attached_after}
use Rattle.explain_stack.specs.Order.{Stands}

-- a span with its own hold may be exited where it has an entry
may_exit : (x : Spans) (id lane : ℕ) → HasUnboundHold x id → is_in id (entries_on lane x.lanes) ≡ true → MayExit x id lane
may_exit x id lane own here =
    let first = first_if_in x.lanes lane id here in
    (counted_if_any (λ y. y == id) (entries_on lane x.lanes) here, λ one. omega (arith, first, own))

pub may_exit_on : {S : Type 0} (spans : S → Spans) (world : WorldValue S) (lane : ℕ) (held : HeldSpan) → IsKnown spans world held → HasOn (λ s id. is_in id (entries_on lane (spans s).lanes) ≡ true) world held → HasOn (λ s id. MayExit (spans s) id lane) world held
may_exit_on spans world lane None known here = tt
may_exit_on spans world lane (Some h) known here = λ s there. may_exit (spans s) h.1 lane (known.1 s there) (here s there)

if_length : (b : Bool) (xs ys : List Span) (n : ℕ) → length xs ≡ n → length ys ≡ n → length (if b then xs else ys) ≡ n
if_length true xs ys n x y = x
if_length false xs ys n x y = y

new_made : (x : Spans) (lane : Lane) (at : ℕ) (parent : Parent) (site : ℕ) (callsite : Callsite) (values : ValueSet) → length (spans_after_call x (NewSpan lane at parent site callsite values)).made ≡ length x.made + 1
new_made x lane at parent site callsite values =
    let above = parent_on (entries_on lane.id x.lanes) parent in
    let more = length-append {A = Span} (with_hold_of_child x.made above) (record { holds = 1; parent = above; site = site } ∷ []) in
    let same = length_held x.made above in
    omega (arith, more, same)

enter_made : (x : Spans) (id lane : ℕ) → length (with_span_entry x id lane).made ≡ length x.made
enter_made x id lane = if_length (is_in id (entries_on lane x.lanes)) x.made (with_hold x.made id) (length x.made) refl (length-set x.made id _)

exit_made : (x : Spans) (id lane : ℕ) → length (with_span_exit x id lane).made ≡ length x.made
exit_made x id lane = if_length (times_in id (entries_on lane x.lanes) == 1) (without_hold x.made id) x.made (length x.made) (length-set x.made id _) refl

-- what one lane's entries attach is nothing of another lane
attached_elsewhere : {S : Type 0} (R : S → S → Type 0) (old new : WorldValue S) (d : ℕ) (r : Replaced R old new d) (kept : S → ℕ → ℕ → ℕ) (before later other : Lane) → later.id ≡ before.id → (other.id ≡ before.id → ⊥)
    → TracksAttached (kept r.before) before later (kept r.later) → AreAllAttached kept old other → AreAllAttached kept new other
attached_elsewhere R old new d r kept before later other same apart moves still =
    attached_after R old new d r (λ s lane number. kept s other.id number) other other refl
    (λ lane number. (
    let k = moves other.id number in
    let x = cond-false {A = ℕ} (before.id == other.id) (attached_count number before) 0 (ne_eqb before.id other.id (λ e. apart (sym e))) in
    let y = cond-false {A = ℕ} (later.id == other.id) (attached_count number later) 0 (ne_eqb later.id other.id (λ e. apart (sym e ∙ same))) in
    omega (arith, k, x, y)))
    still

module _ {S : Type 0} (spans : S → Spans) (attaches : S → Bool) (kept : S → ℕ → ℕ → ℕ) (is_whole : S → Type 0) (does : S → SubscriberCall → S → Type 0)
    (shows : (s : S) (call : SubscriberCall) (t : S) → does s call t → spans t ≡ spans_after_call (spans s) call) (lanes : (s : S) (call : SubscriberCall) (t : S) → does s call t → CallKeepsLanes (attaches s) (kept s) call (kept t))
    (keeps_whole : (s : S) (call : SubscriberCall) (t : S) → does s call t → is_whole s → is_whole t) (dispatch span_count site_count : ℕ) where
  -- a span more
  pub grown_stands : (old new : WorldValue S) (d id : ℕ) (in_lane : Lane) (at : ℕ) (parent : Parent) (site : ℕ) (callsite : Callsite) (values : ValueSet)
      → Replaced (λ s t. (id ≡ length (spans s).made) × does s (NewSpan in_lane at parent site callsite values) t) old new d
      → (lane other : Lane) → Stands spans kept is_whole dispatch span_count site_count old lane other → Stands spans kept is_whole dispatch (span_count + 1) site_count new lane other
  grown_stands old new d id in_lane at parent site callsite values r lane other stands =
      let call : SubscriberCall = NewSpan in_lane at parent site callsite values in
      let R : S → S → Type 0 = λ s t. (id ≡ length (spans s).made) × does s call t in
      record {
        there = (let n = as_many R old new d r in omega (arith, n, stands.there));
        whole = keeps_all R old new d r is_whole (λ s t did w. keeps_whole s call t did.1 w) stands.whole;
        few = λ e t there. elim (cases_eq e d) [
          | inl here ↦ (
              let same : Some r.later ≡ Some t = sym (now_there R old new d r) ∙ subst (λ (k : ℕ). slice_get new.subscribers k ≡ Some t) here there in
              let last : r.later ≡ t = cc same in
              let one = ap (λ (x : Spans). length x.made) (shows r.before call r.later r.did.1) ∙ new_made (spans r.before) in_lane at parent site callsite values in
              let was = stands.few d r.before r.there in
              subst (λ (s : S). length (spans s).made ≤ span_count + 1) last (omega (arith, one, was)))
          | inr apart ↦ (
              let was = stands.few e t (sym (others_same R old new d r e apart) ∙ there) in
              omega (arith, was))
        ];
        declared = (let e = ap (λ (w : WorldValue S). length w.sites) r.others in omega (arith, e, stands.declared));
        attached = λ number. (
            let k = same_kept R old new d r kept (lanes r.before call r.later r.did.1) lane.id number in
            let a = stands.attached number in
            omega (arith, k, a));
        in_world = own_after R old new d r lane lane refl stands.in_world;
        attached_other = λ number. (
            let k = same_kept R old new d r kept (lanes r.before call r.later r.did.1) other.id number in
            let a = stands.attached_other number in
            omega (arith, k, a));
        other_in_world = own_after R old new d r other other refl stands.other_in_world;
        apart = stands.apart;
      }

  -- the lane has other contexts
  moved_stands : (call : SubscriberCall) (old new : WorldValue S) (d : ℕ) (before later other : Lane) (r : Replaced (λ s t. does s call t) old new d) → later.id ≡ before.id → later.default ≡ before.default → TracksAttached (kept r.before) before later (kept r.later)
      → ((x : Spans) → length (spans_after_call x call).made ≡ length x.made) → Stands spans kept is_whole dispatch span_count site_count old before other → Stands spans kept is_whole dispatch span_count site_count new later other
  moved_stands call old new d before later other r same default moves as_many_made stands =
      let R : S → S → Type 0 = λ s t. does s call t in
      record {
        there = (let n = as_many R old new d r in omega (arith, n, stands.there));
        whole = keeps_all R old new d r is_whole (λ s t did w. keeps_whole s call t did w) stands.whole;
        few = keeps_all R old new d r (λ s. length (spans s).made ≤ span_count) (λ s t did few. (let e = ap (λ (x : Spans). length x.made) (shows s call t did) in let m = as_many_made (spans s) in omega (arith, e, m, few))) stands.few;
        declared = (let e = ap (λ (w : WorldValue S). length w.sites) r.others in omega (arith, e, stands.declared));
        attached = attached_after R old new d r kept before later same moves stands.attached;
        in_world = own_after R old new d r before later default stands.in_world;
        attached_other = attached_elsewhere R old new d r kept before later other same stands.apart moves stands.attached_other;
        other_in_world = own_after R old new d r other other refl stands.other_in_world;
        apart = λ e. stands.apart (e ∙ same);
      }

  pub entered_stands : (held : HeldSpan) (old new : WorldValue S) (at : ℕ) (before later other : Lane) → ReplacedOn (λ id s t. does s (Enter id at before later) t) old new held → (held ≡ None → later ≡ before)
      → Stands spans kept is_whole dispatch span_count site_count old before other → Stands spans kept is_whole dispatch span_count site_count new later other
  entered_stands None old new at before later other r none stands =
      subst (λ (l : Lane). Stands spans kept is_whole dispatch span_count site_count new l other) (sym (none refl)) (subst (λ (w : WorldValue S). Stands spans kept is_whole dispatch span_count site_count w before other) (sym r) stands)
  entered_stands (Some h) old new at before later other r none stands =
      let l = lanes r.before (Enter h.1 at before later) r.later r.did in
      moved_stands (Enter h.1 at before later) old new h.0 before later other r l.0.id l.0.default l.1 (λ x. enter_made x h.1 before.id) stands

  pub exited_stands : (held : HeldSpan) (old new : WorldValue S) (at : ℕ) (before later other : Lane) → ReplacedOn (λ id s t. does s (Exit id at before later) t) old new held → (held ≡ None → later ≡ before)
      → Stands spans kept is_whole dispatch span_count site_count old before other → Stands spans kept is_whole dispatch span_count site_count new later other
  exited_stands None old new at before later other r none stands =
      subst (λ (l : Lane). Stands spans kept is_whole dispatch span_count site_count new l other) (sym (none refl)) (subst (λ (w : WorldValue S). Stands spans kept is_whole dispatch span_count site_count w before other) (sym r) stands)
  exited_stands (Some h) old new at before later other r none stands =
      let l = lanes r.before (Exit h.1 at before later) r.later r.did in
      moved_stands (Exit h.1 at before later) old new h.0 before later other r l.0.id l.0.default l.1 (λ x. exit_made x h.1 before.id) stands

-- the lane is the same but for room
pub lane_left : {S : Type 0} (spans : S → Spans) (kept : S → ℕ → ℕ → ℕ) (is_whole : S → Type 0) (dispatch span_count site_count : ℕ) (world : WorldValue S) (before later other : Lane) → KeepsLaneButRoom before later
    → Stands spans kept is_whole dispatch span_count site_count world before other → Stands spans kept is_whole dispatch span_count site_count world later other
lane_left spans kept is_whole dispatch span_count site_count world before later other left stands = record {
  there = stands.there;
  whole = stands.whole;
  few = stands.few;
  declared = stands.declared;
  attached = λ number. (
      let i = ap (λ (l : ℕ). total_kept kept world l number) left.id in
      let a = ap (λ xs. count_by (λ item. item.0 == number) xs) left.live in
      let b = stands.attached number in
      omega (arith, i, a, b));
  in_world = subst (λ (o : Option ℕ). IsInWorld world o) (sym left.default) stands.in_world;
  attached_other = stands.attached_other;
  other_in_world = stands.other_in_world;
  apart = λ e. stands.apart (e ∙ left.id);
}
