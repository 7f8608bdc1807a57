use Rattle.std.specs.Prelude.{◌≡◌, ℕ, List, ◌++◌}
use Rattle.env_directives.proofs.Common.{nonempty, comma_pieces}
use Rattle.env_directives.proofs.cuts.PiecesLemmas.{Gives}
use Rattle.env_directives.proofs.directive.nonempty.Given as goal

abbrev pub invariant-loop-name : goal.invariant-loop-name
invariant-loop-name l =
    (left : List (List ℕ)) × Gives l.name-iterator left × (nonempty (comma_pieces l.list) ≡ l.names ++ nonempty left)
