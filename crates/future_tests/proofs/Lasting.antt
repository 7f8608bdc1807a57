-- What goes on to be so.
use Rattle.std.proofs.Common.{◌≡◌, ℕ, Result, Ok, Err, sym, subst}
use Rattle.std.specs.Prelude.{IfOk, OnErr}
use Rattle.otel_base.specs.declared.enter_error.EnterError.{EnterError}
use Rattle.trace_base.specs.declared.lane.Lane.{Lane}
use Rattle.trace_base.specs.Gate.{WorldValue}
use Rattle.trace_base.specs.Spans.{Spans}
use Rattle.span_handles.specs.Entries.{KeepsEntry}
use Rattle.span_futures.specs.Lent.{KeepsLent}
use Rattle.span_futures.proofs.Inside.{keeps_nothing}
use Rattle.future_tests.specs.Ready.{IsReadyForCalls}

-- after what is lent a world and a lane
pub goes_on : {S : Type 0} (spans : S → Spans) (kept : S → ℕ → ℕ → ℕ) (is_whole : S → Type 0) (old new : WorldValue S) (before later : Lane) → KeepsLent spans kept is_whole old new before later → IsReadyForCalls kept is_whole old before → IsReadyForCalls kept is_whole new later
goes_on spans kept is_whole old new before later lent ready = record {
  whole = lent.whole ready.whole;
  still = lent.attached ready.still;
  in_world = lent.default ready.in_world;
}

pub nothing_lent : {S : Type 0} (spans : S → Spans) (kept : S → ℕ → ℕ → ℕ) (is_whole : S → Type 0) (world later : WorldValue S) (lane left : Lane) → later ≡ world → left ≡ lane → KeepsLent spans kept is_whole world later lane left
nothing_lent {S} spans kept is_whole world later lane left same lane_same =
    subst (λ (w : WorldValue S). KeepsLent spans kept is_whole world w lane left) (sym same)
    (subst (λ (l : Lane). KeepsLent spans kept is_whole world world lane l) (sym lane_same) (keeps_nothing spans kept is_whole world lane))

-- one thing of an answer, and another of an error
pub either_way : {T : Type 0} (result : Result T EnterError) (P : T → Type 0) (Q R G : Type 0) → ((x : T) → P x → G) → (Q → R → G) → IfOk result P → OnErr result Q → OnErr result R → G
either_way (Ok x) P Q R G inside refused ok q r = inside x ok
either_way (Err e) P Q R G inside refused ok q r = refused q r
