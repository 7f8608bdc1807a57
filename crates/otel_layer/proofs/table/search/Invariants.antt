-- What is left lies between older and younger spans.
use Rattle.std.proofs.Common.{◌≡◌, ◌≤◌, ◌-◌, length}
use Rattle.otel_layer.proofs.RisingIdsLemmas.{AreOlder, AreYounger}
use Rattle.otel_layer.proofs.table.search.Given as goal

abbrev pub invariant-loop-low : goal.invariant-loop-low
invariant-loop-low l = record {
  within : l.high ≤ length l.entries;
  apart : l.low ≤ l.high;
  older : AreOlder l.entries l.fn.id l.low;
  younger : AreYounger l.entries l.fn.id l.high;
  wanted : l.wanted ≡ l.fn.id;
}

abbrev pub decreases-loop-low : goal.decreases-loop-low
decreases-loop-low l = l.high - l.low
