use Rattle.value_reader.proofs.Steps.{looks}
use Rattle.value_reader.proofs.reader.find.Goals as goal

pub enter_as-requires : goal.enter_as-requires
enter_as-requires g c = looks _ _
