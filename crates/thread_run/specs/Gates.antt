-- The gates of the workers, before any is asked.
use Rattle.std.specs.Prelude.{◌≡◌, ℕ, List, [], ◌∷◌, length}
use Rattle.std.proofs.Common.{All}
use Rattle.shared_gate.specs.Gates.{GateValue}

-- so many gates, of which each has seen the opening text alone
abbrev pub AreNewGates : List ℕ → ℕ → List GateValue → Type 0
AreNewGates text count gates = (length gates ≡ count) × All (λ g. g.texts ≡ text ∷ []) gates
