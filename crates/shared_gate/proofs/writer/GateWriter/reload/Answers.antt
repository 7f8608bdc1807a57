-- The text that is put in force was read.
use Rattle.shared_gate.proofs.writer.GateWriter.reload.Goals as goal

pub returns-clause-refused : goal.returns-clause-refused
returns-clause-refused g c = c.in_ok-filter.ensures.refused
