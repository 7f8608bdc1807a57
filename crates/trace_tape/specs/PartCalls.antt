-- What is asked of a tape from outside its calls.
use Rattle.std.specs.Prelude.{◌≡◌, ℕ, Bool, true, false, List, [], ◌∷◌, ◌++◌, nat_lt, Option, Some, None, Result, Ok, Err, IsTrue, if◌then◌else◌}
use Rattle.std.proofs.Common.{refl, ap}
use Rattle.otel_base.specs.declared.memory.Memory.{Memory}
use Rattle.otel_base.specs.Stack.{empty_context}
use Rattle.trace_base.specs.Spans.{Spans, span_at}
use Rattle.otel_state.specs.declared.op.Op.{Op}
use Rattle.otel_state.specs.declared.op.Op.TheVariants as ops
use Rattle.otel_state.specs.declared.op.OpReply.{OpReply}
use Rattle.otel_state.specs.declared.op.OpReply.TheVariants as replies
use Rattle.otel_state.specs.States.{is_growing}
use Rattle.otel_layer.specs.Parts.{PartCall, Applies, GivesContext, StaysStack}
use Rattle.span_script.specs.declared.request.Call.TheVariants as call
use Rattle.span_script.specs.declared.request.Request.{Request}
use Rattle.trace_tape.specs.Tapes.{TapeValue, on_first_lane}

-- an op is replied to, and spelled if it is an attribute
abbrev pub tape_reply : Op → OpReply
tape_reply (ops.SetParent context) = replies.Parent (Ok tt)
tape_reply _ = replies.Done

abbrev pub op_requests : ℕ → ℕ → Op → List Request
op_requests id at (ops.SetAttribute pair) = on_first_lane at (call.SetAttribute id pair.key pair.value) ∷ []
op_requests id at _ = []

-- an op of a span that is live or isn't
abbrev pub AppliesTape : Bool → TapeValue → ℕ → ℕ → Op → Option (Result OpReply Memory) → TapeValue → Type 0
AppliesTape false s id at op answer t = (answer ≡ None) × (t ≡ s)
AppliesTape true s id at op None t = ⊥
AppliesTape true s id at op (Some (Ok reply)) t = (reply ≡ tape_reply op) × (t ≡ record s { requests = s.requests ++ op_requests id at op })
AppliesTape true s id at op (Some (Err memory)) t = IsTrue (is_growing op) × (t ≡ s)

abbrev pub is_live : Spans → ℕ → Bool
is_live spans id = nat_lt 0 (span_at spans.made id).holds

abbrev pub TouchesTape : TapeValue → PartCall → TapeValue → Type 0
TouchesTape s (Applies id at op answer) t = AppliesTape (is_live s.below.spans id) s id at op answer t
TouchesTape s (GivesContext id at answer) t = (t ≡ s) × (answer ≡ (if is_live s.below.spans id then Some empty_context else None))

applied_below : (live : Bool) (s : TapeValue) (id at : ℕ) (op : Op) (answer : Option (Result OpReply Memory)) (t : TapeValue) → AppliesTape live s id at op answer t → t.below ≡ s.below
applied_below false s id at op answer t did = ap (λ (x : TapeValue). x.below) did.1
applied_below true s id at op None t did = absurd did
applied_below true s id at op (Some (Ok reply)) t did = ap (λ (x : TapeValue). x.below) did.1
applied_below true s id at op (Some (Err memory)) t did = ap (λ (x : TapeValue). x.below) did.1

pub touched_below : (s : TapeValue) (call : PartCall) (t : TapeValue) → TouchesTape s call t → t.below ≡ s.below
touched_below s (Applies id at op answer) t did = applied_below (is_live s.below.spans id) s id at op answer t did
touched_below s (GivesContext id at answer) t did = ap (λ (x : TapeValue). x.below) did.0

-- its spans and entries stay
pub tape_stays : (s : TapeValue) (call : PartCall) (t : TapeValue) → TouchesTape s call t → StaysStack (λ (x : TapeValue). x.below.spans) (λ x lane number. 0) (λ x. false) (λ x. Unit {0}) s t
tape_stays s call t did = record { spans_same = ap (λ b. b.spans) (touched_below s call t did); kept_same = refl; attaches_same = refl; whole = λ w. tt }
