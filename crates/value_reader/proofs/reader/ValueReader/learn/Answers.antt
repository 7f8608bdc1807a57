-- What is learnt is the note's.
use Rattle.std.proofs.Common.{ap}
use Rattle.value_reader.specs.Knowing.{WriterValue}
use Rattle.value_reader.proofs.Firsts.{stands}
use Rattle.value_reader.proofs.reader.ValueReader.learn.Goals as goal

pub invariant_of-self : goal.invariant_of-self
invariant_of-self g c = stands _ _ _ c.note.invariant

pub returns-then-deref-clause-begins : goal.returns-then-deref-clause-begins
returns-then-deref-clause-begins g c = λ _. ap (λ (w : WriterValue g.row.T.Denot). w.values) c.note.view_is
