-- What each op of a span does, in one table. All that is said of a span's ops is said of these columns.
use Rattle.std.specs.Prelude.{ℕ, List, [], ◌∷◌, Bool, true, false, Option, None, Some}
use Rattle.otel_base.specs.declared.context.Context.{Context}
use Rattle.otel_base.specs.declared.context.SpanContext.{SpanContext}
use Rattle.otel_base.specs.declared.record.Link.{Link}
use Rattle.otel_base.specs.declared.record.OtelEvent.{OtelEvent}
use Rattle.otel_base.specs.declared.record.SpanKind.{SpanKind}
use Rattle.otel_base.specs.declared.status.Status.{Status}
use Rattle.otel_base.specs.declared.value.KeyValue.{KeyValue}
use Rattle.otel_state.specs.declared.op.Op.{Op}
use Rattle.otel_state.specs.declared.op.Op.TheVariants as ops
use Rattle.otel_state.specs.declared.update.Update.{Update}

-- an op with its moment
pub record TimedOp : Type 0 where
  pub at : ℕ
  pub op : Op

-- what an op does: what it writes, what it adds, whether it starts the span, counts an event, opens or closes an entry
pub record Deed : Type 0 where
  pub name : Option (List ℕ)
  pub kind : Option SpanKind
  pub parent : Option Context
  pub own : Option SpanContext
  pub is_error : Bool
  pub status : Option Status
  pub attributes : List KeyValue
  pub event : Option OtelEvent
  pub link : Option Link
  pub counts : Bool
  pub enters : Bool
  pub exits : Bool

abbrev pub no_deed : Deed
no_deed = record {
  name = None;
  kind = None;
  parent = None;
  own = None;
  is_error = false;
  status = None;
  attributes = [];
  event = None;
  link = None;
  counts = false;
  enters = false;
  exits = false;
}

abbrev pub written_by : Update → Deed
written_by update = record no_deed { name = update.name; kind = update.kind; status = update.status; attributes = update.attributes }

abbrev pub deed : Op → Deed
deed (ops.Update update) = written_by update
deed (ops.Event is_error update event) = record (written_by update) { is_error = is_error; event = Some event }
deed ops.Counted = record no_deed { counts = true }
deed (ops.AddEvent event) = record no_deed { event = Some event }
deed (ops.Link link) = record no_deed { link = Some link }
deed (ops.SetAttribute pair) = record no_deed { attributes = pair ∷ [] }
deed (ops.SetStatus status) = record no_deed { status = Some status }
deed (ops.SetParent context) = record no_deed { parent = Some context }
deed (ops.Start own) = record no_deed { own = Some own }
deed ops.Enter = record no_deed { enters = true }
deed ops.Exit = record no_deed { exits = true }
