-- The pieces that are there, and those that come.
use Rattle.std.specs.Prelude.{◌≡◌, ℕ, List, ◌++◌}
use Rattle.env_filter.proofs.Common.{comma_pieces, Gives, texts_of}
use Rattle.env_filter.proofs.pieces.pieces.Given as goal

abbrev pub invariant-loop-piece : goal.invariant-loop-piece
invariant-loop-piece l = (left : List (List ℕ)) × Gives l.piece-iterator left × (comma_pieces l.text ≡ texts_of l.pieces.items ++ left)
