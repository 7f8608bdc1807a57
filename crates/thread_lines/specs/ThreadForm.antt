-- The forms of the lines of scripts for threads.
use Rattle.std.specs.Prelude.{ℕ, ◌==◌, ◌||◌, List, Option, Some, None, option_map, option_and_then, if◌then◌else◌, codes, bytes_eq}
use Rattle.serde_json.specs.Data.{Data}
use Rattle.serde_json.specs.Find.{as_array, as_str}
use Rattle.otel_base.specs.declared.context.SpanContext.{SpanContext}
use Rattle.otel_state.specs.declared.op.Op.{Op}
use Rattle.otel_state.specs.declared.op.Op.TheVariants as op
use Rattle.span_script.specs.calls.Links.{event_time}
use Rattle.thread_lines.specs.declared.line.ThreadCall.{ThreadCall}
use Rattle.thread_lines.specs.declared.line.ThreadCall.TheVariants as calls
use Rattle.thread_lines.specs.declared.line.ThreadOp.{ThreadOp}
use Rattle.thread_lines.specs.declared.line.ThreadLine.{ThreadLine}
use Rattle.thread_lines.specs.declared.line.ThreadLine.TheVariants as line
use Rattle.trace_lines.specs.forms.AttributeForm.{otel_value_of, attributes_form, status_spelled}
use Rattle.trace_lines.specs.forms.ExtensionForm.{time_form}
use Rattle.trace_lines.specs.forms.FieldForm.{fields_of}
use Rattle.trace_lines.specs.forms.Forms.{Form, ◌>>=◌, give, when, natural, text, member, optional, each, object_of}
use Rattle.trace_lines.specs.text.Hex.{id_of_word, long_id_of_word}
use Rattle.trace_lines.specs.forms.RequestForm.{fields_form}

-- ---- what each word goes on with

unfoldable pub record_op_form : Form ThreadCall
record_op_form = do
  there ← member (codes "fields")
  fields ← when (fields_of there)
  give (calls.Record fields)

unfoldable pub event_op_form : Form ThreadCall
event_op_form = do
  site ← natural (codes "site")
  fields ← fields_form
  give (calls.Event site fields)

unfoldable pub attribute_op_form : Form Op
attribute_op_form = do
  key ← text (codes "key")
  there ← member (codes "value")
  value ← when (otel_value_of there)
  give (op.SetAttribute (record { key = key; value = value }))

unfoldable pub status_op_form : Form Op
status_op_form = do
  there ← member (codes "status")
  status ← when (status_spelled there)
  give (op.SetStatus status)

-- an event at the time that is said, else at the moment of its op
unfoldable pub added_event_form : ℕ → Form Op
added_event_form at = do
  name ← text (codes "name")
  attributes ← attributes_form
  time ← time_form
  give (op.AddEvent (record { name = name; time = event_time at time; attributes = attributes }))

-- ids of which neither is 0
abbrev pub valid_context : ℕ → ℕ → Option SpanContext
valid_context trace span = if (trace == 0) || (span == 0) then None else Some (record { trace = trace; span = span })

-- ids are texts of all their digits
abbrev pub trace_id_of : Data → Option ℕ
trace_id_of d = option_and_then long_id_of_word (as_str d)

abbrev pub span_id_of : Data → Option ℕ
span_id_of d = option_and_then id_of_word (as_str d)

unfoldable pub link_op_form : Form Op
link_op_form = do
  trace_there ← member (codes "trace")
  trace ← when (trace_id_of trace_there)
  span_there ← member (codes "span_id")
  span ← when (span_id_of span_there)
  context ← when (valid_context trace span)
  attributes ← attributes_form
  give (op.Link (record { context = context; attributes = attributes }))

-- an op by itself
abbrev pub op_call_form : Form Op → Form ThreadCall
op_call_form form = do
  o ← form
  give (calls.Own o)

-- the ids of a start are those of the span's making
abbrev pub no_ids : SpanContext
no_ids = record { trace = 0; span = 0 }

-- what a word of `do` goes on with; workers have no other word
abbrev pub call_by : ℕ → List ℕ → Form ThreadCall
call_by at word =
    if bytes_eq word (codes "record") then record_op_form else
    (if bytes_eq word (codes "event") then event_op_form else
    (if bytes_eq word (codes "set_attribute") then op_call_form attribute_op_form else
    (if bytes_eq word (codes "set_status") then op_call_form status_op_form else
    (if bytes_eq word (codes "add_event") then op_call_form (added_event_form at) else
    (if bytes_eq word (codes "add_link") then op_call_form link_op_form else
    (if bytes_eq word (codes "enter") then give (calls.Own op.Enter) else
    (if bytes_eq word (codes "exit") then give (calls.Own op.Exit) else
    (if bytes_eq word (codes "start") then give (calls.Own (op.Start no_ids)) else when None))))))))

-- ---- lines

-- a moment, a shared span, and what is done there
unfoldable pub op_form : Form ThreadOp
op_form = do
  at ← natural (codes "at")
  span ← natural (codes "span")
  word ← text (codes "do")
  what ← call_by at word
  give (record { at = at; span = span; call = what })

abbrev pub op_of : Data → Option ThreadOp
op_of d = object_of op_form d

-- a worker: what it does, in order
abbrev pub worker_of : Data → Option ThreadLine
worker_of d = option_map line.Worker (option_and_then (each op_of) (as_array d))

-- a shared span: its moment and its callsite
unfoldable pub shared_form : Form ThreadLine
shared_form = do
  at ← natural (codes "at")
  site ← natural (codes "shared")
  give (line.Shared at site)

abbrev pub worker_or_shared : Option Data → Form ThreadLine
worker_or_shared (Some d) = when (worker_of d)
worker_or_shared None = shared_form

unfoldable pub thread_form : Form ThreadLine
thread_form = do
  there ← optional (codes "worker")
  worker_or_shared there
