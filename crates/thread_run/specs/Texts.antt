-- The lines of what came of a script for threads.
use Rattle.std.specs.Prelude.{◌≡◌, ℕ, ◌+◌, ◌==◌, slice_index_or, if◌then◌else◌, List, [], ◌∷◌, ◌++◌, codes, length}
use Rattle.serde_json.specs.Data.{Data, string, object, array, item, no_items}
use Rattle.otel_base.specs.declared.record.Record.{Record}
use Rattle.trace_lines.specs.reading.Object.{by_name, whole_number, line_of, array_of}
use Rattle.trace_lines.specs.text.Texts.{record_text, end_text}
use Rattle.trace_threads.specs.declared.history.Entry.{Entry}
use Rattle.trace_threads.specs.declared.history.HandleAct.{HandleAct}
use Rattle.trace_threads.specs.declared.history.HandleAct.TheVariants.{Clone, Call, Join, Release}
use Rattle.thread_run.specs.declared.entry.EntryDeed.{EntryDeed}
use Rattle.thread_run.specs.declared.entry.Deed.{Deed}
use Rattle.thread_run.specs.declared.entry.Deed.TheVariants as deed
use Rattle.thread_handles.specs.declared.gather.Ended.{Ended}

-- how many calls a handle made in a history
abbrev pub one_if_call : HandleAct → ℕ
one_if_call (Clone n) = 0
one_if_call (Call op) = 1
one_if_call (Join k) = 0
one_if_call Release = 0

abbrev pub call_count : ℕ → List Entry → ℕ
call_count k [] = 0
call_count k (e ∷ log) = if e.caller == k then one_if_call e.what + call_count k log else call_count k log

-- the calls of each handle in a history are counted at its number
abbrev pub CallsAreCounted : List Entry → List ℕ → Type 0
CallsAreCounted log counts = (k : ℕ) → slice_index_or counts k 0 ≡ call_count k log

-- what an entry tells: a call by its number among those that its handle made on the span, from 0
abbrev pub deed_after : List Entry → ℕ → HandleAct → Deed
deed_after before k (Clone n) = deed.Clone
deed_after before k (Call op) = deed.Call (call_count k before)
deed_after before k (Join n) = deed.Join
deed_after before k Release = deed.Release

abbrev pub entry_deed_after : List Entry → Entry → EntryDeed
entry_deed_after before e = record { caller = e.caller; deed = deed_after before e.caller e.what }

-- what the entries of a history tell, some having come before
abbrev pub entry_deeds_after : List Entry → List Entry → List EntryDeed
entry_deeds_after before [] = []
entry_deeds_after before (e ∷ log) = entry_deed_after before e ∷ entry_deeds_after (before ++ e ∷ []) log

abbrev pub deed_data : Deed → Data
deed_data deed.Clone = string (codes "clone")
deed_data deed.Join = string (codes "join")
deed_data deed.Release = string (codes "release")
deed_data (deed.Call k) = whole_number k

abbrev pub entry_data : EntryDeed → Data
entry_data e = array (item (whole_number e.caller) (item (deed_data e.deed) no_items))

-- what the entries of the shared span at a place tell
abbrev pub history_data : ℕ → List EntryDeed → Data
history_data place told = object (by_name (
    (codes "history", array_of entry_data told)
    ∷ (codes "shared", whole_number place) ∷ []))

unfoldable pub entries_line : ℕ → List EntryDeed → List ℕ
entries_line place told = line_of (history_data place told)

-- the line of a history
abbrev pub history_text : ℕ → List Entry → List ℕ
history_text place log = entries_line place (entry_deeds_after [] log)

-- a history line and a record line for each shared span, so many having come before
abbrev pub spans_text : ℕ → List Ended → List ℕ
spans_text place [] = []
spans_text place (e ∷ es) = (history_text place e.history ++ record_text (place + 1) e.finished) ++ spans_text (place + 1) es

-- then the end line: no span is open
abbrev pub ended_text : List Ended → List ℕ
ended_text es = spans_text 0 es ++ end_text 0 (length es)
