-- What holds of every tape.
use Rattle.std.specs.Prelude.{◌≡◌, false}
use Rattle.std.proofs.Common.{subst}
use Rattle.trace_base.specs.Calls.{SubscriberCall}
use Rattle.trace_base.specs.lanes.Contexts.{CallKeepsLanes}
use Rattle.span_registry.specs.Registering.{registry_lanes}
use Rattle.trace_tape.specs.Tapes.{TapeValue, DoesTape}

pub tape_same : (s t : TapeValue) (call : SubscriberCall) (u : TapeValue) → t ≡ s → DoesTape t call u → DoesTape s call u
tape_same s t call u h d = subst (λ (x : TapeValue). DoesTape x call u) h d

pub tape_lanes : (s : TapeValue) (call : SubscriberCall) (t : TapeValue) → DoesTape s call t → CallKeepsLanes false (λ lane number. 0) call (λ lane number. 0)
tape_lanes s call t d = registry_lanes s.below call t.below d.below
