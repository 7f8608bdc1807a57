-- One id more is counted.
use Rattle.std.proofs.Common.{rules}
use Rattle.trace_pipeline.proofs.Common.{counts_held, counts_none}
use Rattle.trace_pipeline.proofs.records.count_open.Goals as goal
use Rattle.trace_pipeline.proofs.records.count_open.Goals.{then-holds-gt0, else-holds-gt0}

pub loop-id-preserved : goal.loop-id-preserved
loop-id-preserved c = elim c.if-holds-gt0.branch [
  | then-holds-gt0 w ↦ record {
    counted = counts_held c.args.registry.now.spans.made c.loop-id.id c.at.result c.loop-id.open c.if-holds-gt0.open (search rules) c.loop-id.invariant.counted (search rules) (search rules);
    few = (search rules);
  }
  | else-holds-gt0 w ↦ record {
    counted = counts_none c.args.registry.now.spans.made c.loop-id.id c.at.result c.loop-id.open c.if-holds-gt0.open (search rules) c.loop-id.invariant.counted (search rules) (search rules);
    few = (search rules);
  }
]
