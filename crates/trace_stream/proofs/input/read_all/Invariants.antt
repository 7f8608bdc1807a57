use Rattle.std.proofs.Common.{◌≡◌, ◌+◌, ◌-◌, length}
use Rattle.trace_stream.proofs.Common.{MAX_INPUT, Takes}
use Rattle.trace_stream.proofs.input.read_all.Given as goal

abbrev pub invariant-loop-block : goal.invariant-loop-block
invariant-loop-block g l = record {
  told : Takes (g.R.Source.remaining l.fn.source) (g.R.Source.remaining l.source) l.bytes.items;
  sure : g.R.Source.faults l.source ≡ g.R.Source.faults l.fn.source;
  goes : g.R.Source.ends l.source ≡ g.R.Source.ends l.fn.source;
}

abbrev pub decreases-loop-block : goal.decreases-loop-block
decreases-loop-block g l = MAX_INPUT + 1 - length l.bytes.items
