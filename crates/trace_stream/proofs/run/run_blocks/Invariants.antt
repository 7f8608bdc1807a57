use Rattle.std.proofs.Common.{◌≡◌, ◌+◌, ◌-◌, [], List, ℕ, false, length, take}
use Rattle.trace_stream.proofs.Common.{MAX_INPUT, is_refused, IsMidway, Takes}
use Rattle.trace_stream.proofs.run.run_blocks.Given as goal

abbrev pub invariant-loop-total : goal.invariant-loop-total
invariant-loop-total g l = record {
  told : (read : List ℕ) × Takes (g.R.Source.remaining l.fn.source) (g.R.Source.remaining l.source) read × (l.total ≡ length read)
      × IsMidway l.fn.signal (g.W.Sink.holds l.fn.sink) (g.W.Sink.holds l.sink) (take MAX_INPUT read) l.progress;
  empty : l.progress.answers.written.text.items ≡ [];
  going : is_refused l.progress.answers.stage ≡ false;
  reads : g.R.Source.faults l.source ≡ g.R.Source.faults l.fn.source;
  goes : g.R.Source.ends l.source ≡ g.R.Source.ends l.fn.source;
  writes : g.W.Sink.faults l.sink ≡ g.W.Sink.faults l.fn.sink;
}

abbrev pub decreases-loop-total : goal.decreases-loop-total
decreases-loop-total g l = MAX_INPUT + 1 - l.total
