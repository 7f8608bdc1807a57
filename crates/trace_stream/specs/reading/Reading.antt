-- What a command that reads lines does, by how it answers them.
use Rattle.std.specs.Prelude.{◌≡◌, ℕ, ◌<◌, ◌≤◌, List, [], length, take, Bool, true, false, Option, Some, IfSome}
use Rattle.std.proofs.Common.{◌⊎◌}
use Rattle.trace_lines.specs.Lines.{lines_of}
use Rattle.trace_lines.specs.declared.limits.TheConstants.{MAX_INPUT}
use Rattle.input_lines.specs.Refusals.{are_blank}
use Rattle.trace_stream.specs.Meaning.{Meaning}
use Rattle.trace_stream.specs.Streams.{Streams, MeetsEnd, IsQuiet, Takes, Puts, PutsFront}
use Rattle.trace_stream.specs.reading.Breaks.{whole_lines}
use Rattle.trace_stream.specs.declared.status.Status.{Status}
use Rattle.trace_stream.specs.declared.status.Status.TheVariants as ends

-- How lines are answered: whether they are accepted, which texts may be written for all lines of an input, and which for
-- whole lines behind which an input breaks off, where none of them is refused.
pub record Answering : Type 1 where
  pub accepts : List (List ℕ) → Bool
  pub Whole : List (List ℕ) → List ℕ → Type 0
  pub Broken : List (List ℕ) → List ℕ → Type 0

-- no more bytes than an input may have, and accepted lines
pub record AreValid (answers : Answering) (bytes : List ℕ) : Type 0 where
  pub short : length bytes ≤ MAX_INPUT
  pub accepted : answers.accepts (lines_of bytes) ≡ true

-- Some line is refused, and not only the end of the lines for want of a settings line.
pub record HasRefused (accepts : List (List ℕ) → Bool) (lines : List (List ℕ)) : Type 0 where
  pub some : are_blank lines ≡ false
  pub refused : accepts lines ≡ false

-- the sink gained a whole text for these bytes
abbrev pub PutsWhole : Answering → List ℕ → Option (List ℕ) → Option (List ℕ) → Type 0
PutsWhole answers bytes before now = (text : List ℕ) × answers.Whole (lines_of bytes) text × Puts before now text

-- the sink gained nothing, or a front of such a text
abbrev pub PutsNothingOrFront : Answering → List ℕ → Option (List ℕ) → Option (List ℕ) → Type 0
PutsNothingOrFront answers bytes before now =
    Puts before now [] ⊎ ((text : List ℕ) × answers.Whole (lines_of bytes) text × PutsFront before now text)

-- ---- what is left at each status, of the source's bytes, those left, and what the sink held before and holds now

-- All came, they are valid, and their text is written.
abbrev pub ReadsWhole : Answering → List ℕ → Option (List ℕ) → Option (List ℕ) → Option (List ℕ) → Type 0
ReadsWhole answers bytes left before now = AreValid answers bytes × (left ≡ Some []) × PutsWhole answers bytes before now

-- They are refused, at a whole line within the longest input or where they ended, and their text is written.
pub record StopsRefused (answers : Answering) (bytes : List ℕ) (left before now : Option (List ℕ)) : Type 0 where
  pub refused : answers.accepts (lines_of bytes) ≡ false
  pub read : List ℕ
  pub took : Takes (Some bytes) left read
  pub place : HasRefused answers.accepts (whole_lines (take MAX_INPUT read)) ⊎ ((left ≡ Some []) × (length bytes ≤ MAX_INPUT))
  pub put : PutsWhole answers bytes before now

-- Some came, no whole line of these is refused, and what is written is the text for those lines.
pub record BreaksOff (answers : Answering) (bytes : List ℕ) (left before now : Option (List ℕ)) : Type 0 where
  pub read : List ℕ
  pub took : Takes (Some bytes) left read
  pub text : List ℕ
  pub answered : answers.Broken (whole_lines read) text
  pub put : Puts before now text

-- More than the longest input came, no whole line within that is refused, and what is written is the text for those lines.
pub record StopsTooLong (answers : Answering) (bytes : List ℕ) (left before now : Option (List ℕ)) : Type 0 where
  pub read : List ℕ
  pub took : Takes (Some bytes) left read
  pub long : MAX_INPUT < length read
  pub text : List ℕ
  pub answered : answers.Broken (whole_lines (take MAX_INPUT read)) text
  pub put : Puts before now text

abbrev pub LeavesStreams : Answering → Status → List ℕ → Option (List ℕ) → Option (List ℕ) → Option (List ℕ) → Type 0
LeavesStreams answers ends.Ok bytes left before now = ReadsWhole answers bytes left before now
LeavesStreams answers ends.Usage bytes left before now = ⊥
LeavesStreams answers ends.Refused bytes left before now = StopsRefused answers bytes left before now
LeavesStreams answers ends.ReadFault bytes left before now = BreaksOff answers bytes left before now
LeavesStreams answers ends.WriteFault bytes left before now = PutsNothingOrFront answers bytes before now
LeavesStreams answers ends.Memory bytes left before now = PutsNothingOrFront answers bytes before now
LeavesStreams answers ends.TooLong bytes left before now = StopsTooLong answers bytes left before now

-- ---- the whole of it

-- Valid bytes, with no fault, are answered whole, or memory wants.
abbrev pub Completes : Answering → Status → List ℕ → Streams → Streams → Type 0
Completes answers status bytes before now =
    AreValid answers bytes → IsQuiet before.read_faults now.read_faults → IsQuiet before.write_faults now.write_faults
    → (status ≡ ends.Ok) ⊎ (status ≡ ends.Memory)

-- A refusal is told at a whole line of what was read, within the longest input, or where the source's end was met. A source that
-- doesn't tell its bytes ties nothing to what was read, so of such a one this says nothing.
abbrev pub IsRefusedForCause : Answering → Status → Streams → Streams → Type 0
IsRefusedForCause answers status before now = status ≡ ends.Refused
    → (read : List ℕ) × Takes before.left now.left read
    × (HasRefused answers.accepts (whole_lines (take MAX_INPUT read)) ⊎ MeetsEnd before.ends now.ends)

-- Lines were read and answered. Where the source tells its bytes, what is left and what is written follow from these.
pub record ReadsLines (answers : Answering) (status : Status) (before now : Streams) : Type 0 where
  pub leaves : IfSome before.left (λ bytes. LeavesStreams answers status bytes now.left before.held now.held)
  pub front : IfSome before.left (λ bytes. PutsNothingOrFront answers bytes before.held now.held)
  pub complete : IfSome before.left (λ bytes. Completes answers status bytes before now)
  pub refused : IsRefusedForCause answers status before now
  pub met : status ≡ ends.Ok → MeetsEnd before.ends now.ends

abbrev pub meaning_of_reading : Answering → Meaning
meaning_of_reading answers = record { IsPossible = Unit {0}; reads = true; Does = ReadsLines answers }
