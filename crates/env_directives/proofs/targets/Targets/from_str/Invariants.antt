use Rattle.std.specs.Prelude.{◌≡◌, ℕ, List}
use Rattle.env_directives.proofs.Common.{targets_of}
use Rattle.env_directives.proofs.cuts.PiecesLemmas.{Gives}
use Rattle.env_directives.proofs.forms.StaticTextsLemmas.{read_on}
use Rattle.env_directives.proofs.targets.Targets.from_str.Given as goal

abbrev pub invariant-loop-piece : goal.invariant-loop-piece
invariant-loop-piece l = (left : List (List ℕ)) × Gives l.piece-iterator left × (targets_of l.text ≡ read_on left l.set)
