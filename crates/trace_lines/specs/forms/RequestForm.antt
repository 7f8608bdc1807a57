-- The form of a request, with a row for each word of `do`.
use Rattle.std.specs.Prelude.{ℕ, List, [], Option, Some, None, if◌then◌else◌, codes, bytes_eq, option_and_then}
use Rattle.serde_json.specs.Data.{Data}
use Rattle.serde_json.specs.Find.{as_str}
use Rattle.trace_base.specs.declared.field.Value.{Value}
use Rattle.span_script.specs.declared.request.Request.{Request}
use Rattle.span_script.specs.declared.request.Call.{Call}
use Rattle.span_script.specs.declared.request.Call.TheVariants as call
use Rattle.span_script.specs.declared.request.RequestParent.{RequestParent}
use Rattle.span_script.specs.declared.request.RequestParent.TheVariants as request_parent
use Rattle.trace_lines.specs.forms.ExtensionForm.{follows_form, set_parent_form, add_link_form, set_attribute_form, set_status_form, add_event_form}
use Rattle.trace_lines.specs.forms.FieldForm.{fields_of}
use Rattle.trace_lines.specs.forms.Forms.{Form, ◌>>=◌, give, when, natural, text, member, optional, if_absent, as_whole}
use Rattle.trace_lines.specs.text.Hex.{id_of_word, long_id_of_word}

-- the word of no span
abbrev pub root_of_word : List ℕ → Option RequestParent
root_of_word word = if bytes_eq word (codes "root") then Some request_parent.Root else None

-- the place that a value names: by a handle's number, or by the word of no span
abbrev pub parent_by : Option ℕ → Data → Option RequestParent
parent_by (Some handle) d = Some (request_parent.Under handle)
parent_by None d = option_and_then root_of_word (as_str d)

abbrev pub parent_spelled : Data → Option RequestParent
parent_spelled d = parent_by (as_whole d) d

-- where a new span or an event is put: under the current span where nothing is said
abbrev pub parent_form : Form RequestParent
parent_form = do
  there ← optional (codes "parent")
  when (if_absent request_parent.Contextual parent_spelled there)

-- the fields that are given, which are none where nothing is said
abbrev pub fields_form : Form (List (List ℕ × Value))
fields_form = do
  there ← optional (codes "fields")
  when (if_absent [] fields_of there)

-- `new` makes a span of a callsite, with the values of some fields
unfoldable pub new_form : Form Call
new_form = do
  site ← natural (codes "site")
  put ← parent_form
  fields ← fields_form
  give (call.New site put fields)

-- `clone` makes a handle of what a handle stands for
unfoldable pub clone_form : Form Call
clone_form = do
  handle ← natural (codes "handle")
  give (call.Clone handle)

-- `or_current` spends a handle, and makes one of its span or of the current one
unfoldable pub or_current_form : Form Call
or_current_form = do
  handle ← natural (codes "handle")
  give (call.OrCurrent handle)

-- `drop` spends a handle
unfoldable pub drop_form : Form Call
drop_form = do
  handle ← natural (codes "handle")
  give (call.Drop handle)

-- `enter` enters a handle's span
unfoldable pub enter_form : Form Call
enter_form = do
  handle ← natural (codes "handle")
  give (call.Enter handle)

-- `entered` enters it by a guard that owns the handle
unfoldable pub entered_form : Form Call
entered_form = do
  handle ← natural (codes "handle")
  give (call.Entered handle)

-- `exit` spends a guard of an entry
unfoldable pub exit_form : Form Call
exit_form = do
  guard ← natural (codes "guard")
  give (call.Exit guard)

-- `context` makes the context of a handle's span
unfoldable pub context_form : Form Call
context_form = do
  handle ← natural (codes "handle")
  give (call.Context handle)

-- `attach` attaches a context
unfoldable pub attach_form : Form Call
attach_form = do
  context ← natural (codes "context")
  give (call.Attach context)

-- `detach` spends a guard of an attached context
unfoldable pub detach_form : Form Call
detach_form = do
  guard ← natural (codes "guard")
  give (call.Detach guard)

-- `record` records the values of some fields on a handle's span
unfoldable pub record_form : Form Call
record_form = do
  handle ← natural (codes "handle")
  there ← member (codes "fields")
  fields ← when (fields_of there)
  give (call.Record handle fields)

-- `has_field` asks whether a handle's callsite declares a field of a name
unfoldable pub has_field_form : Form Call
has_field_form = do
  handle ← natural (codes "handle")
  name ← text (codes "name")
  give (call.HasField handle name)

-- `event` records an event of a callsite, with the values of some fields
unfoldable pub event_form : Form Call
event_form = do
  site ← natural (codes "site")
  put ← parent_form
  fields ← fields_form
  give (call.Event site put fields)

-- `remote` makes a context of ids, which are written in all their digits
unfoldable pub remote_form : Form Call
remote_form = do
  trace_word ← text (codes "trace")
  trace ← when (long_id_of_word trace_word)
  span_word ← text (codes "span")
  span ← when (id_of_word span_word)
  give (call.Remote (record { trace = trace; span = span }))

-- `enabled` asks whether what a callsite makes is let through
unfoldable pub enabled_form : Form Call
enabled_form = do
  site ← natural (codes "site")
  give (call.Enabled site)

-- `reload` puts a filter of another text in force
unfoldable pub reload_form : Form Call
reload_form = do
  directives ← text (codes "text")
  give (call.Reload directives)

-- what a word of `do` goes on with; there is no other word
abbrev pub call_by : List ℕ → Form Call
call_by word =
    if bytes_eq word (codes "new") then new_form else
    (if bytes_eq word (codes "current") then give call.Current else
    (if bytes_eq word (codes "clone") then clone_form else
    (if bytes_eq word (codes "or_current") then or_current_form else
    (if bytes_eq word (codes "drop") then drop_form else
    (if bytes_eq word (codes "enter") then enter_form else
    (if bytes_eq word (codes "entered") then entered_form else
    (if bytes_eq word (codes "exit") then exit_form else
    (if bytes_eq word (codes "record") then record_form else
    (if bytes_eq word (codes "has_field") then has_field_form else
    (if bytes_eq word (codes "event") then event_form else
    (if bytes_eq word (codes "remote") then remote_form else
    (if bytes_eq word (codes "context") then context_form else
    (if bytes_eq word (codes "attach") then attach_form else
    (if bytes_eq word (codes "detach") then detach_form else
    (if bytes_eq word (codes "follows") then follows_form else
    (if bytes_eq word (codes "set_parent") then set_parent_form else
    (if bytes_eq word (codes "add_link") then add_link_form else
    (if bytes_eq word (codes "set_attribute") then set_attribute_form else
    (if bytes_eq word (codes "set_status") then set_status_form else
    (if bytes_eq word (codes "add_event") then add_event_form else
    (if bytes_eq word (codes "enabled") then enabled_form else
    (if bytes_eq word (codes "reload") then reload_form else when None))))))))))))))))))))))

-- what is to be done
abbrev pub call_form : Form Call
call_form = do
  word ← text (codes "do")
  call_by word

-- a moment, a lane, and what is to be done
unfoldable pub request_form : Form Request
request_form = do
  at ← natural (codes "at")
  lane ← natural (codes "lane")
  call ← call_form
  give (record { at = at; lane_place = lane; call = call })
