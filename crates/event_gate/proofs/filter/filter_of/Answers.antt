use Rattle.event_gate.proofs.Texts.{told_by, read_of}
use Rattle.event_gate.proofs.filter.filter_of.Goals as goal

pub returns-in-Ok-clause-ok : goal.returns-in-Ok-clause-ok
returns-in-Ok-clause-ok c = read_of _ c.in-Ok.filter c.in-Ok.ensures.ok c.in-Ok.ensures.new

pub returns-in-Ok-clause-refused : goal.returns-in-Ok-clause-refused
returns-in-Ok-clause-refused c = told_by _ c.in-Ok.filter c.in-Ok.ensures.ok
