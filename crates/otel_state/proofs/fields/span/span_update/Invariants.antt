-- The fields so far have been written.
use Rattle.std.proofs.Common.{◌≡◌, take}
use Rattle.std.specs.Prelude.{fold}
use Rattle.otel_state.specs.fields.Fields.{by_name}
use Rattle.otel_state.specs.fields.SpanFields.{with_value, no_update}
use Rattle.otel_state.proofs.fields.span.span_update.Given as goal

abbrev pub invariant-loop-pair : goal.invariant-loop-pair
invariant-loop-pair l = l.update ≡ fold (by_name (with_value l.settings) l.callsite) no_update (take l.pair-index l.pairs)
