-- The forms of the requests that follow spans, and that ask something of the span extension.
use Rattle.std.specs.Prelude.{ℕ, Option, option_and_then, codes}
use Rattle.serde_json.specs.Data.{Data}
use Rattle.span_script.specs.declared.request.Call.{Call}
use Rattle.span_script.specs.declared.request.Call.TheVariants as call
use Rattle.span_script.specs.declared.request.TheConstants.{LAST_MOMENT}
use Rattle.trace_lines.specs.forms.AttributeForm.{otel_value_of, attributes_form, status_spelled}
use Rattle.trace_lines.specs.forms.Forms.{Form, ◌>>=◌, give, when, natural, text, member, optional, if_there, if_at_most, as_whole}

-- `follows` links a handle's span to that of another handle
unfoldable pub follows_form : Form Call
follows_form = do
  handle ← natural (codes "handle")
  from ← natural (codes "from")
  give (call.Follows handle from)

-- `set_parent` sets the parent of a handle's span
unfoldable pub set_parent_form : Form Call
set_parent_form = do
  handle ← natural (codes "handle")
  context ← natural (codes "context")
  give (call.SetParent handle context)

-- `add_link` links a handle's span to what a context shows
unfoldable pub add_link_form : Form Call
add_link_form = do
  handle ← natural (codes "handle")
  context ← natural (codes "context")
  attributes ← attributes_form
  give (call.AddLink handle context attributes)

-- `set_attribute` adds an attribute to a handle's span
unfoldable pub set_attribute_form : Form Call
set_attribute_form = do
  handle ← natural (codes "handle")
  key ← text (codes "key")
  there ← member (codes "value")
  value ← when (otel_value_of there)
  give (call.SetAttribute handle key value)

-- `set_status` writes a status on a handle's span
unfoldable pub set_status_form : Form Call
set_status_form = do
  handle ← natural (codes "handle")
  there ← member (codes "status")
  status ← when (status_spelled there)
  give (call.SetStatus handle status)

-- a time up to the last moment
abbrev pub as_moment : Data → Option ℕ
as_moment d = option_and_then (if_at_most LAST_MOMENT) (as_whole d)

-- the time of an event, if it is said
abbrev pub time_form : Form (Option ℕ)
time_form = do
  there ← optional (codes "time")
  when (if_there as_moment there)

-- `add_event` adds an event to a handle's span
unfoldable pub add_event_form : Form Call
add_event_form = do
  handle ← natural (codes "handle")
  name ← text (codes "name")
  attributes ← attributes_form
  time ← time_form
  give (call.AddEvent handle name attributes time)
