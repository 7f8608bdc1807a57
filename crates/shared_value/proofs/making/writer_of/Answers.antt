use Rattle.shared_value.proofs.Steps.{starts_with}
use Rattle.shared_value.proofs.making.writer_of.Goals as goal

pub new-requires-clause-rule : goal.new-requires-clause-rule
new-requires-clause-rule g c = starts_with _ _ c.in_ok-try_clone.ensures c.requires.number
