-- As many as before.
use Rattle.std.proofs.Common.{◌∙◌, ap, length, List, Bool}
use Rattle.env_filter.proofs.kept.WatchesLemmas.{length_more}
use Rattle.env_filter.proofs.watch.Matches.note.Goals as goal

pub invariant_of-self : goal.invariant_of-self
invariant_of-self c = ap (λ (xs : List Bool). length xs) c.note.ensures ∙ length_more _ _ ∙ c.self.invariant
