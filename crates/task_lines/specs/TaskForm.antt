-- The form of a task line, and of a step, with a row for each word of `do`.
use Rattle.std.specs.Prelude.{ℕ, List, Option, None, Result, ok_or, if◌then◌else◌, codes, bytes_eq}
use Rattle.serde_json.specs.Data.{Data}
use Rattle.trace_lines.specs.declared.told.Told.{Told}
use Rattle.trace_lines.specs.declared.told.Told.TheVariants.{BadLine}
use Rattle.trace_lines.specs.forms.AttributeForm.{otel_value_of}
use Rattle.trace_lines.specs.forms.FieldForm.{fields_of}
use Rattle.trace_lines.specs.forms.Forms.{Form, ◌>>=◌, give, when, natural, text, member, array, each, object_of, all_of}
use Rattle.trace_lines.specs.forms.RequestForm.{fields_form}
use Rattle.trace_lines.specs.reading.Spelled.{value_on_line}
use Rattle.trace_tasks.specs.declared.script.Step.{Step}
use Rattle.trace_tasks.specs.declared.script.Step.TheVariants as step
use Rattle.trace_tasks.specs.declared.script.Task.{Task}

-- `event` tells an event of a callsite, with the values of some fields
unfoldable pub event_form : Form Step
event_form = do
  site ← natural (codes "site")
  fields ← fields_form
  give (step.Event site fields)

-- `record` records the values of some fields
unfoldable pub record_form : Form Step
record_form = do
  there ← member (codes "fields")
  fields ← when (fields_of there)
  give (step.Record fields)

-- `set_attribute` sets an attribute
unfoldable pub set_attribute_form : Form Step
set_attribute_form = do
  key ← text (codes "key")
  there ← member (codes "value")
  value ← when (otel_value_of there)
  give (step.SetAttribute key value)

-- what a word of `do` goes on with, `yield` with nothing; there is no other word
abbrev pub step_by : List ℕ → Form Step
step_by word =
    if bytes_eq word (codes "event") then event_form else
    (if bytes_eq word (codes "record") then record_form else
    (if bytes_eq word (codes "set_attribute") then set_attribute_form else
    (if bytes_eq word (codes "yield") then give step.Yield else when None)))

unfoldable pub step_form : Form Step
step_form = do
  word ← text (codes "do")
  step_by word

abbrev pub step_of : Data → Option Step
step_of d = object_of step_form d

-- a task: the callsite of its span, the values of some fields, and its steps
unfoldable pub task_form : Form Task
task_form = do
  site ← natural (codes "site")
  fields ← fields_form
  values ← array (codes "task")
  steps ← when (each step_of values)
  give (record { site = site; fields = fields; steps = steps })

-- the task that a line spells
unfoldable pub task_spelled : List ℕ → Result Task Told
task_spelled line = ok_or (value_on_line (all_of task_form) line) BadLine
