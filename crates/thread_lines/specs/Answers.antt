-- What is answered for what comes of a test. Want of memory says nothing.
use Rattle.std.specs.Prelude.{◌≡◌, Result, Ok, Err}
use Rattle.trace_lines.specs.declared.told.Told.{Told}
use Rattle.trace_lines.specs.declared.read.LineError.{LineError}
use Rattle.trace_lines.specs.declared.read.LineError.TheVariants as unread
use Rattle.trace_lines.specs.declared.told.Told.TheVariants as told
use Rattle.thread_script.specs.declared.script.ThreadScript.{ThreadScript}
use Rattle.thread_lines.specs.declared.stop.ScriptStop.{ScriptStop}
use Rattle.thread_lines.specs.declared.stop.ScriptStop.TheVariants as stop

abbrev pub AnswersTest : {A B : Type 0} → (A → B) → Result A ScriptStop → Result B Told → Type 0
AnswersTest view (Ok a) tested = tested ≡ Ok (view a)
AnswersTest view (Err (stop.Refused why)) tested = tested ≡ Err why
AnswersTest view (Err stop.Memory) tested = Unit {0}

-- what is added to a script, which is left as it is where nothing is
abbrev pub AddsToScript : {U : Type 0} → ThreadScript → Result U ScriptStop → Result ThreadScript Told → Type 0
AddsToScript new (Ok done) added = added ≡ Ok new
AddsToScript new (Err (stop.Refused why)) added = added ≡ Err why
AddsToScript new (Err stop.Memory) added = Unit {0}

-- why nothing was read of a line
abbrev pub stop_of : LineError → ScriptStop
stop_of unread.BadLine = stop.Refused told.BadLine
stop_of unread.Memory = stop.Memory
