-- The ids that were passed are counted.
use Rattle.std.proofs.Common.{◌≡◌, ◌≤◌, count_by, nat_lt}
use Rattle.std.specs.List.{range_with_len}
use Rattle.trace_base.specs.Spans.{span_at}
use Rattle.trace_pipeline.proofs.records.count_open.Given as goal

abbrev pub invariant-loop-id : goal.invariant-loop-id
invariant-loop-id l = record {
  counted : l.open ≡ count_by (λ id. nat_lt 0 (span_at l.fn.registry.spans.made id).holds) (range_with_len 0 l.id);
  few : l.open ≤ l.id;
}
