-- Texts that are cut at one of some bytes.
use Rattle.std.specs.Prelude.{ℕ, List, [], ◌∷◌, ◌==◌, ◌&&◌, Bool, true, if◌then◌else◌, not, Option, None, Some}
use Rattle.std.specs.List.{list_any}

-- whether a byte is one of some
abbrev pub is_among : List ℕ → ℕ → Bool
is_among stops b = list_any (λ s. s == b) stops

-- whether a text has none of some bytes
abbrev pub lacks : List ℕ → List ℕ → Bool
lacks stops [] = true
lacks stops (b ∷ bs) = not (is_among stops b) && lacks stops bs

-- a text in pieces: what stands before the byte that it is cut at, that byte, and what stands behind it
pub record Pieces : Type 0 where
  pub front : List ℕ
  pub stop : Option ℕ
  pub rest : List ℕ

-- the same pieces, with one byte more in front
abbrev pub more_front : ℕ → Pieces → Pieces
more_front b pieces = record { front = b ∷ pieces.front; stop = pieces.stop; rest = pieces.rest }

-- a text cut at its first byte that is one of some, in one piece where it has none of them
abbrev pub pieces_at : List ℕ → List ℕ → Pieces
pieces_at stops [] = record { front = []; stop = None; rest = [] }
pieces_at stops (b ∷ bs) = if is_among stops b then record { front = []; stop = Some b; rest = bs } else more_front b (pieces_at stops bs)
