-- One lane fewer is left.
use Rattle.std.proofs.Common.{◌-◌, length}
use Rattle.trace_batch.proofs.writer.+serve.Given as goal

abbrev pub decreases-serve : goal.decreases-serve
decreases-serve g l = length l.lists.now - l.lane
