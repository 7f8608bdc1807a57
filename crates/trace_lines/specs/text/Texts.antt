-- The texts of the lines that are written.
use Rattle.std.specs.Prelude.{ℕ, List, [], ◌∷◌, codes, Bool, true, false, Result, Ok, Err}
use Rattle.serde_json.specs.Data.{Data, boolean, string, object}
use Rattle.otel_base.specs.declared.record.Record.{Record}
use Rattle.otel_metrics.specs.declared.measure.Measure.{Measure}
use Rattle.otel_state.specs.declared.op.SetParentError.{SetParentError}
use Rattle.otel_state.specs.declared.op.SetParentError.TheVariants as unset
use Rattle.span_script.specs.declared.reply.Reply.{Reply}
use Rattle.span_script.specs.declared.reply.Reply.TheVariants as reply
use Rattle.span_script.specs.declared.reply.What.{What}
use Rattle.span_script.specs.declared.reply.What.TheVariants as what
use Rattle.span_script.specs.declared.reply.Refusal.{Refusal}
use Rattle.span_script.specs.declared.reply.Refusal.TheVariants as refusal
use Rattle.trace_lines.specs.declared.told.Told.{Told}
use Rattle.trace_lines.specs.declared.told.Told.TheVariants as told
use Rattle.trace_lines.specs.text.Hex.{hex16, hex32}
use Rattle.trace_lines.specs.reading.Object.{by_name, whole_number, line_of}
use Rattle.trace_lines.specs.values.RecordData.{record_data}
use Rattle.trace_lines.specs.values.MeasureData.{measure_data}

-- ---- replies

-- whether a parent was set, by its name or that of the fault
abbrev pub name_of_set_result : Result (Unit {0}) SetParentError → List ℕ
name_of_set_result (Ok u) = codes "Ok"
name_of_set_result (Err unset.AlreadyStarted) = codes "AlreadyStarted"
name_of_set_result (Err unset.SpanDisabled) = codes "SpanDisabled"
name_of_set_result (Err unset.LayerNotFound) = codes "LayerNotFound"

-- what a reply line tells of the reply
abbrev pub reply_members : Reply → List (List ℕ × Data)
reply_members (reply.Made enabled handle) =
    (codes "enabled", boolean enabled) ∷ (codes "handle", whole_number handle) ∷ []
reply_members (reply.Guard guard) = (codes "guard", whole_number guard) ∷ []
reply_members (reply.Context context ids) =
    (codes "context", whole_number context)
    ∷ (codes "span", string (hex16 ids.span)) ∷ (codes "trace", string (hex32 ids.trace)) ∷ []
reply_members reply.Done = []
reply_members (reply.Has has) = (codes "has", boolean has) ∷ []
reply_members (reply.Enabled enabled) = (codes "enabled", boolean enabled) ∷ []
reply_members (reply.Set set) = (codes "set", string (name_of_set_result set)) ∷ []

-- a reply, with the number of its request's line
abbrev pub reply_data : ℕ → Reply → Data
reply_data line answer = object (by_name ((codes "reply", whole_number line) ∷ reply_members answer))

-- the reply line of the request on a line
unfoldable pub reply_text : ℕ → Reply → List ℕ
reply_text line answer = line_of (reply_data line answer)

-- ---- records

-- the line of the record with a number
unfoldable pub record_text : ℕ → Record → List ℕ
record_text number finished = line_of (record_data number finished)

-- ---- measures

-- the line of a measure of the event on a line
unfoldable pub measure_text : ℕ → Measure → List ℕ
measure_text line measure = line_of (measure_data line measure)

-- ---- refusals

-- the name of what is unknown
abbrev pub what_name : What → List ℕ
what_name what.Lane = codes "lane"
what_name what.Site = codes "site"
what_name what.Handle = codes "handle"
what_name what.Guard = codes "guard"
what_name what.Context = codes "context"
what_name what.Field = codes "field"

-- the member that names a refusal
abbrev pub refusal_member : List ℕ → List ℕ × Data
refusal_member name = (codes "refused", string name)

-- the settings' texts of directives by their names: the one for counting, and the filter's
abbrev pub text_name : Bool → List ℕ
text_name true = codes "counting"
text_name false = codes "filter"

-- a text of directives that isn't read, and the number of its piece that is none
abbrev pub directive_members : List ℕ → ℕ → List (List ℕ × Data)
directive_members text piece =
    refusal_member (codes "Directive") ∷ (codes "piece", whole_number piece) ∷ (codes "text", string text) ∷ []

-- What a refusal line tells of a step's refusal. Want of memory has no such line: its row stands for none
-- that is written.
abbrev pub step_members : Refusal → List (List ℕ × Data)
step_members (refusal.UnknownName unknown) =
    refusal_member (codes "UnknownName") ∷ (codes "what", string (what_name unknown)) ∷ []
step_members (refusal.BadMoment before given) =
    refusal_member (codes "BadMoment")
    ∷ (codes "before", whole_number before) ∷ (codes "given", whole_number given) ∷ []
step_members refusal.InUse = refusal_member (codes "InUse") ∷ []
step_members (refusal.WrongLane lane) = refusal_member (codes "WrongLane") ∷ (codes "lane", whole_number lane) ∷ []
step_members (refusal.Full lane) = refusal_member (codes "Full") ∷ (codes "lane", whole_number lane) ∷ []
step_members (refusal.Directive piece) = directive_members (codes "reload") piece
step_members refusal.Memory = refusal_member (codes "Memory") ∷ []

-- what a refusal line tells of the refusal
abbrev pub told_members : Told → List (List ℕ × Data)
told_members told.BadLine = refusal_member (codes "BadLine") ∷ []
told_members (told.Directive counting piece) = directive_members (text_name counting) piece
told_members told.Lanes = refusal_member (codes "Lanes") ∷ []
told_members (told.Step why) = step_members why

-- a refusal of which the name alone is told, with the number of its line
abbrev pub named_refusal : ℕ → List ℕ → Data
named_refusal line name = object (by_name ((codes "line", whole_number line) ∷ refusal_member name ∷ []))

-- a refusal of which the lane is told beside the name, which is told by its place
abbrev pub refusal_on : ℕ → ℕ → List ℕ → Data
refusal_on line lane name = object (by_name (
    (codes "line", whole_number line) ∷ refusal_member name ∷ (codes "lane", whole_number lane) ∷ []))

-- a text of directives that isn't read, with the number of its line
abbrev pub directive_refusal : ℕ → List ℕ → ℕ → Data
directive_refusal line text piece = object (by_name ((codes "line", whole_number line) ∷ directive_members text piece))

-- a refusal, with the number of its line
abbrev pub refusal_data : ℕ → Told → Data
refusal_data line why = object (by_name ((codes "line", whole_number line) ∷ told_members why))

-- the line that tells why a line is refused
unfoldable pub refusal_text : ℕ → Told → List ℕ
refusal_text line why = line_of (refusal_data line why)

-- ---- the end

-- the end of a run that tells traces
abbrev pub end_data : ℕ → ℕ → Data
end_data open_spans records = object (by_name (
    (codes "done", boolean true)
    ∷ (codes "open", whole_number open_spans)
    ∷ (codes "records", whole_number records) ∷ []))

-- the last line, which tells how many spans are open and how many records were written
unfoldable pub end_text : ℕ → ℕ → List ℕ
end_text open_spans records = line_of (end_data open_spans records)

-- the end of a run that tells metrics
abbrev pub measures_end_data : ℕ → Data
measures_end_data measures = object (by_name (
    (codes "done", boolean true) ∷ (codes "measures", whole_number measures) ∷ []))

-- the last line, which tells how many measures were written
unfoldable pub measures_end_text : ℕ → List ℕ
measures_end_text measures = line_of (measures_end_data measures)
