-- What is asked of the layer changes nothing that is read.
use Rattle.std.proofs.Common.{◌≡◌, ℕ, Bool, true, false, [], Option, Some, None, Result, Ok, refl}
use Rattle.otel_base.specs.declared.memory.Memory.{Memory}
use Rattle.trace_base.specs.declared.subscriber.Subscriber.{Ghosts}
use Rattle.trace_base.specs.Gate.{WorldValue}
use Rattle.otel_state.specs.declared.op.Op.{Op}
use Rattle.otel_state.specs.declared.op.OpReply.{OpReply}
use Rattle.span_handles.specs.Handles.{HeldSpan}
use Rattle.otel_layer.specs.Asking.{AppliesOn, AsksDone}
use Rattle.otel_layer.specs.Parts.{PartCall, Applies, StaysStack}
use Rattle.traced.specs.Staying.{IsUnchanged}
use Rattle.traced.proofs.Moves.{stays_same, stays_step}

module _ {S : Type 0} (sub : Ghosts S) (touches : S → PartCall → S → Type 0) (stays : (s : S) (call : PartCall) (t : S) → touches s call t → StaysStack sub.spans sub.kept sub.attaches sub.is_whole s t) (old new : WorldValue S) (at : ℕ) (op : Op) (held : HeldSpan) where
  pub asked : (answer : Option (Result OpReply Memory)) → AppliesOn touches old new at op held answer → IsUnchanged sub old new
  asked answer did = by_handle held did where
    by_handle : (h : HeldSpan) → AppliesOn touches old new at op h answer → IsUnchanged sub old new
    by_handle None did = stays_same sub old new did.1
    by_handle (Some h) did =
        let call : PartCall = Applies h.1 at op answer in
        stays_step sub (λ s t. touches s call t) (λ s t e. (stays s call t e).spans_same) (λ s t e. (stays s call t e).attaches_same) (λ s t e. (stays s call t e).kept_same) (λ s t e. (stays s call t e).whole) old new h.0 did

  -- a link whose context is valid, or nothing
  pub linked : (valid : Bool) (result : Result (Unit {0}) Memory) → (valid ≡ true → AsksDone touches old new at op held result) → (valid ≡ false → (result ≡ Ok tt) × (new ≡ old)) → IsUnchanged sub old new
  linked true result asks ignores = asked (asks refl).answer (asks refl).did
  linked false result asks ignores = stays_same sub old new (ignores refl).1
