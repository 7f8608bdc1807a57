-- What a source gives and a sink takes, where its bytes are told, and how counts of faults and of ends go.
use Rattle.std.specs.Prelude.{◌≡◌, ℕ, ◌-◌, ◌^◌, ◌<◌, ◌≤◌, max, List, [], ◌∷◌, ◌++◌, Option, Some, None, Result, IfOk, IsErr}
use Rattle.trace_stream.specs.declared.turns.Turn.{Turn}
use Rattle.trace_stream.specs.declared.turns.Turn.TheVariants.{Fails, Moves}

-- the count rises, unless it stands at its greatest value
abbrev pub CountsFault : ℕ → ℕ → Type 0
CountsFault before now = before < 2 ^ 64 - 1 → before < now

-- that the end was met is counted, unless the count stands at its greatest value
abbrev pub MeetsEnd : ℕ → ℕ → Type 0
MeetsEnd before now = before < 2 ^ 64 - 1 → before < now

-- no fault was counted, and one would have been
abbrev pub IsQuiet : ℕ → ℕ → Type 0
IsQuiet before now = (before < 2 ^ 64 - 1) × (now ≡ before)

-- told bytes begin with the bytes, and lose them
abbrev pub Takes : Option (List ℕ) → Option (List ℕ) → List ℕ → Type 0
Takes None new bytes = Unit {0}
Takes (Some xs) new bytes = (ys : List ℕ) × (new ≡ Some ys) × (xs ≡ bytes ++ ys)

-- told bytes grow by the bytes
abbrev pub Puts : Option (List ℕ) → Option (List ℕ) → List ℕ → Type 0
Puts None new bytes = Unit {0}
Puts (Some xs) new bytes = new ≡ Some (xs ++ bytes)

-- a text is a front of the bytes
abbrev pub IsFrontOf : List ℕ → List ℕ → Type 0
IsFrontOf text bytes = (rest : List ℕ) × (bytes ≡ text ++ rest)

-- told bytes grow by a front of the bytes
abbrev pub PutsFront : Option (List ℕ) → Option (List ℕ) → List ℕ → Type 0
PutsFront old new bytes = (front : List ℕ) × IsFrontOf front bytes × Puts old new front

-- Reading stops at the first fault: before it none was counted, and behind it no byte was taken.
abbrev pub StopsReading : {R : Type 0} → (R → ℕ) → (R → Option (List ℕ)) → R → R → Type 0
StopsReading faults remaining old new = (first : _) × (faults first ≡ faults old) × Takes (remaining first) (remaining new) []

-- Writing stops at the first fault: before it none was counted, and behind it no byte was put.
abbrev pub StopsWriting : {W : Type 0} → (W → ℕ) → (W → Option (List ℕ)) → W → W → Type 0
StopsWriting faults holds old new = (first : _) × (faults first ≡ faults old) × Puts (holds first) (holds new) []

-- ---- a source and a sink beside each other

-- What is seen of a source and a sink: the bytes left and the bytes held, where they are told, and how many ends were met,
-- reads failed and writes failed.
pub record Streams : Type 0 where
  pub left : Option (List ℕ)
  pub ends : ℕ
  pub read_faults : ℕ
  pub held : Option (List ℕ)
  pub write_faults : ℕ

-- what is seen of these two, by the ghost members of their types
abbrev pub streams_of : {R W : Type 0} → (R → Option (List ℕ)) → (R → ℕ) → (R → ℕ) → (W → Option (List ℕ)) → (W → ℕ) → R → W → Streams
streams_of remaining ends faults holds failed source sink = record {
  left = remaining source;
  ends = ends source;
  read_faults = faults source;
  held = holds sink;
  write_faults = failed sink;
}

-- ---- sources and sinks in memory

-- the turn of the next call: one with no turn may move all that it can
abbrev pub first_turn : List Turn → Turn
first_turn [] = Moves (2 ^ 64 - 1)
first_turn (turn ∷ turns) = turn

-- a call keeps its turn: it fails, or moves no more bytes than the turn says
abbrev pub KeepsTurn : {E : Type 0} → Turn → Result ℕ E → Type 0
KeepsTurn Fails result = IsErr result
KeepsTurn (Moves most) result = IfOk result (λ n. n ≤ most)

-- a turn that moves one byte at the least
abbrev pub moving_at_least_one : Turn → Turn
moving_at_least_one Fails = Fails
moving_at_least_one (Moves most) = Moves (max most 1)

-- the turns of the calls behind it
abbrev pub later_turns : List Turn → List Turn
later_turns [] = []
later_turns (turn ∷ turns) = turns
