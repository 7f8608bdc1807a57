-- The fields so far have been told.
use Rattle.std.proofs.Common.{◌≡◌, take}
use Rattle.std.specs.Prelude.{fold}
use Rattle.otel_state.specs.fields.Fields.{by_name}
use Rattle.otel_state.specs.fields.EventFields.{with_field, begun_event}
use Rattle.otel_state.proofs.fields.event.event_op.Given as goal

abbrev pub invariant-loop-pair : goal.invariant-loop-pair
invariant-loop-pair l = l.event ≡ fold (by_name (with_field l.settings) l.callsite) (begun_event l.callsite) (take l.pair-index l.pairs)
