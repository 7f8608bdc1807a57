-- What is asked of the OpenTelemetry layer keeps a scene.
use Rattle.std.proofs.Common.{◌≡◌, ℕ, Bool, true, false, Option, Some, None, Result, Ok, Err, refl, sym, subst}
use Rattle.std.specs.Prelude.{OnOk, OnErr}
use Rattle.otel_base.specs.declared.memory.Memory.{Memory}
use Rattle.otel_base.specs.declared.context.Context.{Context}
use Rattle.trace_base.specs.declared.callsite.Callsite.{Callsite}
use Rattle.trace_base.specs.declared.field.ValueSet.{ValueSet}
use Rattle.trace_base.specs.declared.lane.Lane.{Lane}
use Rattle.trace_base.specs.Gate.{WorldValue}
use Rattle.trace_base.specs.Spans.{Spans}
use Rattle.trace_base.specs.Calls.{SubscriberCall, Records, Follows, Event, spans_after_call}
use Rattle.trace_base.specs.Conditions.{Allowed}
use Rattle.trace_base.specs.Sound.{IsSound}
use Rattle.trace_base.specs.declared.span.Parent.{Parent}
use Rattle.trace_base.specs.lanes.Contexts.{CallKeepsLanes}
use Rattle.otel_state.specs.declared.op.Op.{Op}
use Rattle.otel_state.specs.declared.op.OpReply.{OpReply}
use Rattle.span_handles.specs.Worlds.{Replaced}
use Rattle.span_handles.specs.Handles.{HeldSpan, RecordsAt, FollowsOn}
use Rattle.span_handles.specs.Knowing.{KeepsKnown}
use Rattle.span_handles.proofs.KnownHandlesLemmas.{keeps_call, keeps_same}
use Rattle.otel_layer.specs.Parts.{PartCall, Applies, GivesContext, StaysStack}
use Rattle.otel_layer.specs.Asking.{AppliesOn, AsksDone, GivesContextOn}
use Rattle.explain_stack.specs.Order.{Stands}
use Rattle.explain_stack.proofs.Steps.{quiet_stands}
use Rattle.explain_stack.proofs.Quiet.{quiet_call, quiet_part, quiet_same}

-- it stands as before, and knows what it knew
pub record Goes {S : Type 0} (spans : S → Spans) (kept : S → ℕ → ℕ → ℕ) (is_whole : S → Type 0) (old new : WorldValue S) : Type 0 where
  pub stands : (dispatch span_count site_count : ℕ) (lane other : Lane) → Stands spans kept is_whole dispatch span_count site_count old lane other → Stands spans kept is_whole dispatch span_count site_count new lane other
  pub known : KeepsKnown spans old new

pub goes_nowhere : {S : Type 0} (spans : S → Spans) (kept : S → ℕ → ℕ → ℕ) (is_whole : S → Type 0) (old new : WorldValue S) → new ≡ old → Goes spans kept is_whole old new
goes_nowhere {S} spans kept is_whole old new same = subst (λ (w : WorldValue S). Goes spans kept is_whole old w) (sym same) (record { stands = λ d m s l o stands. stands; known = λ held known. known })

module _ {S : Type 0} (spans : S → Spans) (kept : S → ℕ → ℕ → ℕ) (attaches : S → Bool) (is_whole : S → Type 0) (touches : S → PartCall → S → Type 0)
    (stays : (s : S) (call : PartCall) (t : S) → touches s call t → StaysStack spans kept attaches is_whole s t) where
  part_goes : (call : PartCall) (old new : WorldValue S) (d : ℕ) → Replaced (λ s t. touches s call t) old new d → Goes spans kept is_whole old new
  part_goes call old new d r = record {
    stands = λ dispatch span_count site_count lane other stands. quiet_stands spans kept is_whole (λ s t. touches s call t) (quiet_part spans kept is_whole attaches touches stays call) old new d dispatch span_count site_count lane other r stands;
    known = keeps_same spans (λ s t. touches s call t) (λ s t did. (stays s call t did).spans_same) old new d r;
  }

  pub applies_goes : (old new : WorldValue S) (at : ℕ) (op : Op) (held : HeldSpan) (answer : Option (Result OpReply Memory)) → AppliesOn touches old new at op held answer → Goes spans kept is_whole old new
  applies_goes old new at op None answer did = goes_nowhere spans kept is_whole old new did.1
  applies_goes old new at op (Some h) answer did = part_goes (Applies h.1 at op answer) old new h.0 did

  pub shows_goes : (old new : WorldValue S) (at : ℕ) (held : HeldSpan) (answer : Option Context) → GivesContextOn touches old new at held answer → Goes spans kept is_whole old new
  shows_goes old new at None answer did = goes_nowhere spans kept is_whole old new did.1
  shows_goes old new at (Some h) answer did = part_goes (GivesContext h.1 at answer) old new h.0 did

module _ {S : Type 0} (spans : S → Spans) (attaches : S → Bool) (kept : S → ℕ → ℕ → ℕ) (is_whole : S → Type 0) (does : S → SubscriberCall → S → Type 0)
    (shows : (s : S) (call : SubscriberCall) (t : S) → does s call t → spans t ≡ spans_after_call (spans s) call) (lanes : (s : S) (call : SubscriberCall) (t : S) → does s call t → CallKeepsLanes (attaches s) (kept s) call (kept t))
    (keeps_whole : (s : S) (call : SubscriberCall) (t : S) → does s call t → is_whole s → is_whole t) (old new : WorldValue S) (at : ℕ) (dispatch span_count site_count : ℕ) (lane other : Lane) (stands : Stands spans kept is_whole dispatch span_count site_count old lane other) where
  pub recorded_stands : (values : ValueSet) (held : HeldSpan) (callsite : Option Callsite) → RecordsAt does old new at values held callsite → Stands spans kept is_whole dispatch span_count site_count new lane other
  recorded_stands values None callsite did = (goes_nowhere spans kept is_whole old new did).stands dispatch span_count site_count lane other stands
  recorded_stands values (Some h) None did = (goes_nowhere spans kept is_whole old new did).stands dispatch span_count site_count lane other stands
  recorded_stands values (Some h) (Some c) did = quiet_stands spans kept is_whole (λ s t. does s (Records h.1 at c values) t) (quiet_call spans attaches kept is_whole does shows lanes keeps_whole (Records h.1 at c values) tt) old new h.0 dispatch span_count site_count lane other did stands

  pub followed_stands : (held from : HeldSpan) → FollowsOn does old new at held from → Stands spans kept is_whole dispatch span_count site_count new lane other
  followed_stands None from did = (goes_nowhere spans kept is_whole old new did).stands dispatch span_count site_count lane other stands
  followed_stands (Some h) None did = (goes_nowhere spans kept is_whole old new did).stands dispatch span_count site_count lane other stands
  followed_stands (Some h) (Some f) did = quiet_stands spans kept is_whole (λ s t. does s (Follows h.1 f.1 at) t) (quiet_call spans attaches kept is_whole does shows lanes keeps_whole (Follows h.1 f.1 at) tt) old new h.0 dispatch span_count site_count lane other did stands

-- a link whose context is valid, or nothing
pub links_go : {S : Type 0} (spans : S → Spans) (kept : S → ℕ → ℕ → ℕ) (attaches : S → Bool) (is_whole : S → Type 0) (touches : S → PartCall → S → Type 0)
    → ((s : S) (call : PartCall) (t : S) → touches s call t → StaysStack spans kept attaches is_whole s t) → (old new : WorldValue S) (at : ℕ) (op : Op) (held : HeldSpan) (result : Result (Unit {0}) Memory) (b : Bool)
    → (b ≡ true → AsksDone touches old new at op held result) → (b ≡ false → (result ≡ Ok tt) × (new ≡ old)) → Goes spans kept is_whole old new
links_go spans kept attaches is_whole touches stays old new at op held result true valid invalid = applies_goes spans kept attaches is_whole touches stays old new at op held (valid refl).answer (valid refl).did
links_go spans kept attaches is_whole touches stays old new at op held result false valid invalid = goes_nowhere spans kept is_whole old new (invalid refl).1

-- an event, or room alone
pub event_goes : {S : Type 0} (spans : S → Spans) (attaches : S → Bool) (kept : S → ℕ → ℕ → ℕ) (is_whole : S → Type 0) (does : S → SubscriberCall → S → Type 0)
    (sound : (s : S) (call : SubscriberCall) (t : S) → does s call t → IsSound (spans s)) (allowed : (s : S) (call : SubscriberCall) (t : S) → does s call t → Allowed (spans s) call)
    (shows : (s : S) (call : SubscriberCall) (t : S) → does s call t → spans t ≡ spans_after_call (spans s) call) (lanes : (s : S) (call : SubscriberCall) (t : S) → does s call t → CallKeepsLanes (attaches s) (kept s) call (kept t))
    (keeps_whole : (s : S) (call : SubscriberCall) (t : S) → does s call t → is_whole s → is_whole t)
    (same : S → S → Type 0) → ((s t : S) → same s t → spans t ≡ spans s) → ((s t : S) → same s t → kept t ≡ kept s) → ((s t : S) → same s t → is_whole s → is_whole t)
    → (old new : WorldValue S) (d : ℕ) (lane : Lane) (at : ℕ) (parent : Parent) (site : ℕ) (values : ValueSet) (result : Result (Unit {0}) Memory)
    → OnOk result ((callsite : Callsite) × Replaced (λ s t. does s (Event lane at parent site callsite values) t) old new d) → OnErr result (Replaced same old new d) → Goes spans kept is_whole old new
event_goes spans attaches kept is_whole does sound allowed shows lanes keeps_whole same same_spans same_kept same_whole old new d lane at parent site values (Ok x) did left =
    let call : SubscriberCall = Event lane at parent site did.0 values in
    record {
      stands = λ dispatch span_count site_count on other stands. quiet_stands spans kept is_whole (λ s t. does s call t) (quiet_call spans attaches kept is_whole does shows lanes keeps_whole call tt) old new d dispatch span_count site_count on other did.1 stands;
      known = keeps_call spans does sound allowed shows old new d call did.1 tt;
    }
event_goes spans attaches kept is_whole does sound allowed shows lanes keeps_whole same same_spans same_kept same_whole old new d lane at parent site values (Err e) did left = record {
  stands = λ dispatch span_count site_count on other stands. quiet_stands spans kept is_whole same (quiet_same spans kept is_whole same same_spans same_kept same_whole) old new d dispatch span_count site_count on other left stands;
  known = keeps_same spans same same_spans old new d left;
}
