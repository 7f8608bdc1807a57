use Rattle.value_reader.proofs.Steps.{admits}
use Rattle.value_reader.proofs.reader.ValueReader.new.Goals as goal

pub reader-requires : goal.reader-requires
reader-requires g c = admits
