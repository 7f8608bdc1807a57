-- The readers were made with the filter of this text.
use Rattle.shared_gate.proofs.Openings.{opened_by}
use Rattle.shared_gate.proofs.gate.SharedGate.make.Goals as goal

pub returns-clause-gates : goal.returns-clause-gates
returns-clause-gates c = opened_by c.in_ok-writer.writer.table c.args.text.now _ c.in_ok-writer.made.items c.gates_of.result.items c.in_ok-filter.ensures.ok c.in_ok-writer.ensures.readers c.gates_of.ensures.gates
