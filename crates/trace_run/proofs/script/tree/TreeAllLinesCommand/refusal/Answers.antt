use Rattle.std.specs.Prelude.{None}
use Rattle.trace_run.proofs.Common.{lines_of, accepts, accepts_same, TellsTreeOf}
use Rattle.trace_run.proofs.ScriptsLemmas.{refusal_some, refusal_none}
use Rattle.trace_run.proofs.script.tree.TreeAllLinesCommand.refusal.Goals as goal

pub returns-clause-some : goal.returns-clause-some
returns-clause-some c = refusal_some None accepts accepts_same TellsTreeOf (lines_of c.args.bytes.now) c.refusal_of.result c.refusal_of.ensures.some

pub returns-clause-none : goal.returns-clause-none
returns-clause-none c = refusal_none None accepts accepts_same (lines_of c.args.bytes.now) c.refusal_of.result c.refusal_of.ensures.none
