-- What a command that reads lines does, from its parts.
use Rattle.std.proofs.Common.{◌≡◌, ℕ, List, [], ◌++◌, refl, sym, ap, subst, ◌∙◌, append_assoc, take, drop, length, ◌<◌, ◌+◌, inl, inr, arith, true, false, Option, Some, None, IfSome}
use Rattle.trace_stream.proofs.Common.{IsAtEnd, Status, Streams, MeetsEnd, Takes, Puts, HasCause, Answering, PutsNothingOrFront, LeavesStreams, Completes, IsRefusedForCause, ReadsLines}
use Rattle.std.proofs.lemmas.List.{append-nil, take-append-drop, length-append}
use Rattle.trace_stream.specs.declared.status.Status.TheVariants as ends
use Rattle.trace_stream.proofs.StreamsLemmas.{takes_still}

-- ---- what was read

-- the first bytes of what was read, and what comes behind them
pub split_at : (most : ℕ) (read rest : List ℕ) → take most read ++ (drop most read ++ rest) ≡ read ++ rest
split_at most read rest = sym (append_assoc (take most read) (drop most read) rest) ∙ ap (λ (r : List ℕ). r ++ rest) (take-append-drop most read)

pub at_end : (left : Option (List ℕ)) (rest : List ℕ) → left ≡ Some rest → IsAtEnd left → rest ≡ []
at_end left rest is end = subst IsAtEnd is end

pub all_read : (bytes : List ℕ) (left : Option (List ℕ)) (read : List ℕ) → Takes (Some bytes) left read → IsAtEnd left → (left ≡ Some []) × (read ≡ bytes)
all_read bytes left read took none =
    let rest : took.0 ≡ [] = at_end left took.0 took.1 none in
    (took.1 ∙ ap Some rest, sym (took.2 ∙ ap (λ (r : List ℕ). read ++ r) rest ∙ append-nil read))

-- the end was met behind what was read
pub takes_none : (old mid left : Option (List ℕ)) (read buf : List ℕ) (count : ℕ) → Takes old mid read → Takes mid left (take count buf) → count ≡ 0 → Takes old left read
takes_none old mid left read buf count first second gone = takes_still old mid left read first (subst (λ (k : ℕ). Takes mid left (take k buf)) gone second)

-- ---- what a command does

-- what is told of some bytes follows from what is told of them
pub told_by : (P Q : List ℕ → Type 0) (o : Option (List ℕ)) → IfSome o P → ((bytes : List ℕ) → P bytes → Q bytes) → IfSome o Q
told_by P Q None told by = tt
told_by P Q (Some bytes) told by = by bytes told

completes_told : (answers : Answering) (status : Status) (bytes : List ℕ) (before now : Streams) → HasCause status before now
    → LeavesStreams answers status bytes now.left before.held now.held → Completes answers status bytes before now
completes_told answers ends.Ok bytes before now causes left = λ valid quiet still. inl refl
completes_told answers ends.Usage bytes before now causes left = absurd left
completes_told answers ends.Refused bytes before now causes left =
    λ valid quiet still. let no : true ≡ false = sym valid.accepted ∙ left.refused in cc
completes_told answers ends.ReadFault bytes before now causes left =
    λ valid quiet still. let more : before.read_faults < now.read_faults = causes quiet.0 in absurd (omega (arith, quiet.1))
completes_told answers ends.WriteFault bytes before now causes left =
    λ valid quiet still. let more : before.write_faults < now.write_faults = causes still.0 in absurd (omega (arith, still.1))
completes_told answers ends.Memory bytes before now causes left = λ valid quiet still. inr refl
completes_told answers ends.TooLong bytes before now causes left =
    λ valid quiet still.
    let size : length bytes ≡ length left.read + length left.took.0 = ap length left.took.2 ∙ length-append left.read left.took.0 in
    absurd (omega (arith, left.long, valid.short))

-- what a command that reads lines does, from its parts
pub reads_lines : (answers : Answering) (status : Status) (before now : Streams)
    → IfSome before.left (λ bytes. LeavesStreams answers status bytes now.left before.held now.held)
    → IfSome before.left (λ bytes. PutsNothingOrFront answers bytes before.held now.held) → HasCause status before now
    → IsRefusedForCause answers status before now → (status ≡ ends.Ok → MeetsEnd before.ends now.ends) → ReadsLines answers status before now
reads_lines answers status before now leaves front causes refused met = record {
  leaves = leaves;
  front = front;
  complete = told_by (λ bytes. LeavesStreams answers status bytes now.left before.held now.held) (λ bytes. Completes answers status bytes before now) before.left leaves
      (λ bytes left. completes_told answers status bytes before now causes left);
  refused = refused;
  met = met;
}
