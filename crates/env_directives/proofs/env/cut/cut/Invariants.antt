use Rattle.std.proofs.Common.{◌≡◌, drop, take}
use Rattle.env_directives.proofs.Common.{pieces_at}
use Rattle.env_directives.proofs.cuts.CutsLemmas.{behind_front}
use Rattle.env_directives.proofs.env.cut.cut.Given as goal

abbrev pub invariant-loop-at : goal.invariant-loop-at
invariant-loop-at l = pieces_at l.stops l.text ≡ behind_front (take l.at l.text) (pieces_at l.stops (drop l.at l.text))
