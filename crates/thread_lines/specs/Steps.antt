-- What each line adds to a script for threads, or the first refusal that applies.
use Rattle.std.specs.Prelude.{ℕ, ◌+◌, ok_or, ◌&&◌, nat_lt, List, [], ◌∷◌, ◌++◌, length, Bool, true, false, not, if◌then◌else◌, Option, Some, None, Result, Ok, Err, set, slice_index_or, replicate, ◌==◌, ⊤}
use Rattle.std.specs.List.{list_all}
use Rattle.otel_state.specs.declared.op.Op.{Op}
use Rattle.trace_threads.specs.Moves.{Move, enters, exits, stays, move_of, open_count_after}
use Rattle.thread_script.specs.declared.script.ThreadScript.{ThreadScript}
use Rattle.thread_script.specs.declared.script.SharedLine.{SharedLine}
use Rattle.thread_script.specs.declared.script.WorkerOp.{WorkerOp}
use Rattle.thread_script.specs.declared.script.WorkerCall.{WorkerCall}
use Rattle.thread_script.specs.declared.script.WorkerCall.TheVariants as work
use Rattle.span_script.specs.declared.settings.Settings.{Settings}
use Rattle.span_script.specs.declared.reply.Refusal.TheVariants as refusal
use Rattle.span_script.specs.declared.reply.What.{What}
use Rattle.span_script.specs.declared.reply.What.TheVariants as what
use Rattle.span_script.specs.Admission.{OpeningRead, opening_read}
use Rattle.span_script.specs.Effects.{is_bad_moment}
use Rattle.span_script.specs.Fields.{all_values}
use Rattle.span_script.specs.Setups.{span_site, event_site}
use Rattle.trace_lines.specs.declared.told.Told.{Told}
use Rattle.trace_lines.specs.declared.told.Told.TheVariants as told
use Rattle.trace_lines.specs.forms.Forms.{all_of}
use Rattle.trace_lines.specs.Lines.{is_blank}
use Rattle.trace_lines.specs.reading.Spelled.{value_on_line, settings_spelled}
use Rattle.thread_lines.specs.ThreadForm.{thread_form}
use Rattle.input_lines.specs.declared.refused_line.RefusedLine.{RefusedLine}
use Rattle.thread_lines.specs.declared.limits.TheConstants.{MAX_SHARED_SPANS, MAX_WORKERS}
use Rattle.thread_lines.specs.declared.line.ThreadCall.{ThreadCall}
use Rattle.thread_lines.specs.declared.line.ThreadCall.TheVariants as said
use Rattle.thread_lines.specs.declared.line.ThreadLine.{ThreadLine}
use Rattle.thread_lines.specs.declared.line.ThreadLine.TheVariants as line
use Rattle.thread_lines.specs.declared.line.ThreadOp.{ThreadOp}

-- ---- one test after another

-- goes on with what came of a test
infixl 10 ◌>>=◌
abbrev pub ◌>>=◌ : {A B : Type 0} → Result A Told → (A → Result B Told) → Result B Told
(Ok a) >>= go = go a
(Err why) >>= go = Err why

-- refuses unless this holds
abbrev pub refuse_unless : Told → Bool → Result ⊤ Told
refuse_unless why true = Ok tt
refuse_unless why false = Err why

-- a name names nothing
abbrev pub unknown_name : What → Told
unknown_name w = told.Step (refusal.UnknownName w)

-- what a name names, which has to be there
abbrev pub need : {A : Type 0} → What → Option A → Result A Told
need w (Some x) = Ok x
need w None = Err (unknown_name w)

-- there is a lane at this place
abbrev pub lane_tested : ThreadScript → ℕ → Result ⊤ Told
lane_tested s place = refuse_unless (unknown_name what.Lane) (nat_lt place (length s.lanes))

-- the moment is neither too late nor below the one before
abbrev pub time_tested : ℕ → ℕ → Result ⊤ Told
time_tested before at = refuse_unless (told.Step (refusal.BadMoment before at)) (not (is_bad_moment before at))

-- ---- the settings line

-- the script of some settings, before its lines
abbrev pub script_at_first : Settings → ThreadScript
script_at_first s = record { filter = s.filter; callsites = s.callsites; lanes = s.lanes; layer = s.layer; shared = []; workers = [] }

-- a text of directives that isn't read is refused
abbrev pub directives_tested : OpeningRead → Result ⊤ Told
directives_tested (Ok read) = Ok tt
directives_tested (Err unread) = Err (told.Directive unread.0 unread.1)

abbrev pub script_if_read : Settings → Result ThreadScript Told
script_if_read s = do
  read ← directives_tested (opening_read s.filter s.counting)
  Ok (script_at_first s)

-- the script of a settings line
abbrev pub script_opened : List ℕ → Result ThreadScript Told
script_opened text = settings_spelled text >>= script_if_read

-- ---- the line of a shared span

-- the moment of the last shared span, 0 where there is none
abbrev pub last_shared_moment : List SharedLine → ℕ
last_shared_moment [] = 0
last_shared_moment (l ∷ []) = l.at
last_shared_moment (l ∷ m ∷ ls) = last_shared_moment (m ∷ ls)

abbrev pub has_no_workers : List (List WorkerOp) → Bool
has_no_workers [] = true
has_no_workers (ops ∷ workers) = false

-- shared spans come before workers, and there is a most
abbrev pub may_add_shared : ThreadScript → Bool
may_add_shared s = has_no_workers s.workers && nat_lt (length s.shared) MAX_SHARED_SPANS

abbrev pub with_shared : ThreadScript → SharedLine → ThreadScript
with_shared s l = record s { shared = s.shared ++ l ∷ [] }

-- the first lane is that of the shared spans
abbrev pub shared_added : ThreadScript → SharedLine → Result ThreadScript Told
shared_added s l = do
  room ← refuse_unless told.BadLine (may_add_shared s)
  time ← time_tested (last_shared_moment s.shared) l.at
  lane ← lane_tested s 0
  callsite ← need what.Site (span_site s.callsites l.site)
  Ok (with_shared s l)

-- ---- a call of a worker

-- whether a call opens an entry or closes one
abbrev pub move_of_call : WorkerCall → Move
move_of_call (work.Record fields) = stays
move_of_call (work.Event site values) = stays
move_of_call (work.Own op) = move_of op

-- how many entries a worker has open on a span, of these numbers for all spans
abbrev pub open_count_on : List ℕ → ℕ → ℕ
open_count_on entered span = slice_index_or entered span 0

abbrev pub open_counts_after : List ℕ → ℕ → Move → List ℕ
open_counts_after entered span m = set entered span (open_count_after (open_count_on entered span) m)

-- there is such a shared span
abbrev pub shared_tested : ThreadScript → ℕ → Result ⊤ Told
shared_tested s span = refuse_unless (unknown_name what.Handle) (nat_lt span (length s.shared))

-- an exit needs an open entry, so many being open
abbrev pub has_entry_for : ℕ → Move → Bool
has_entry_for n exits = nat_lt 0 n
has_entry_for n enters = true
has_entry_for n stays = true

abbrev pub entry_tested : ℕ → Op → Result ⊤ Told
entry_tested n op = refuse_unless (unknown_name what.Guard) (has_entry_for n (move_of op))

-- an op, where so many entries are open on the span
abbrev pub op_call_tested : ℕ → Op → Result WorkerCall Told
op_call_tested n op = do
  open_there ← entry_tested n op
  Ok (work.Own op)

-- a call on a span, where the worker has so many entries open on each
abbrev pub call_tested : ThreadScript → List ℕ → ℕ → ThreadCall → Result WorkerCall Told
call_tested s entered span (said.Record fields) = do
  there ← shared_tested s span
  Ok (work.Record fields)
call_tested s entered span (said.Event site fields) = do
  callsite ← need what.Site (event_site s.callsites site)
  there ← shared_tested s span
  values ← need what.Field (all_values callsite fields)
  Ok (work.Event site values)
call_tested s entered span (said.Own op) = do
  there ← shared_tested s span
  op_call_tested (open_count_on entered span) op

abbrev pub op_tested : ThreadScript → ℕ → List ℕ → ThreadOp → Result WorkerOp Told
op_tested s before entered o = do
  time ← time_tested before o.at
  call ← call_tested s entered o.span o.call
  Ok (record { at = o.at; span = o.span; what = call })

-- the calls of a worker, the last of those before them having come at a moment; at their end no entry may be open
abbrev pub ops_tested : ThreadScript → ℕ → List ℕ → List ThreadOp → Result (List WorkerOp) Told
ops_tested s before entered [] = refuse_unless (told.Step refusal.InUse) (list_all (λ n. n == 0) entered) >>= (λ closed. Ok [])
ops_tested s before entered (o ∷ os) =
    op_tested s before entered o
    >>= (λ op. ops_tested s op.at (open_counts_after entered op.span (move_of_call op.what)) os >>= (λ ops. Ok (op ∷ ops)))

-- ---- the line of a worker

abbrev pub with_worker : ThreadScript → List WorkerOp → ThreadScript
with_worker s ops = record s { workers = s.workers ++ ops ∷ [] }

-- each worker has a lane of its own
abbrev pub worker_added : ThreadScript → List ThreadOp → Result ThreadScript Told
worker_added s os = do
  room ← refuse_unless told.BadLine (nat_lt (length s.workers) MAX_WORKERS)
  lane ← lane_tested s (length s.workers)
  ops ← ops_tested s (last_shared_moment s.shared) (replicate (length s.shared) 0) os
  Ok (with_worker s ops)

-- ---- any line

abbrev pub line_added : ThreadScript → ThreadLine → Result ThreadScript Told
line_added s (line.Shared at site) = shared_added s (record { at = at; site = site })
line_added s (line.Worker ops) = worker_added s ops

-- ---- all lines

-- what a line behind the settings line adds
abbrev pub text_added : ThreadScript → List ℕ → Result ThreadScript Told
text_added s text = ok_or (value_on_line (all_of thread_form) text) told.BadLine >>= line_added s

-- refused at a line
abbrev pub unless_refused_at : {A B : Type 0} → ℕ → Result A Told → (A → Result B RefusedLine) → Result B RefusedLine
unless_refused_at number (Ok a) go = go a
unless_refused_at number (Err why) go = Err (record { line = number; told = why })

-- what the lines behind the settings line add, so many lines having come before; blank ones are counted and left out
abbrev pub lines_added : ThreadScript → ℕ → List (List ℕ) → Result ThreadScript RefusedLine
lines_added s n [] = Ok s
lines_added s n (text ∷ lines) =
    if is_blank text then lines_added s (n + 1) lines else
    unless_refused_at (n + 1) (text_added s text) (λ more. lines_added more (n + 1) lines)

-- The first line that isn't blank is the settings line. If there is none, the lines are refused at their end.
abbrev pub script_from : ℕ → List (List ℕ) → Result ThreadScript RefusedLine
script_from n [] = Err (record { line = n + 1; told = told.BadLine })
script_from n (text ∷ lines) =
    if is_blank text then script_from (n + 1) lines else
    unless_refused_at (n + 1) (script_opened text) (λ s. lines_added s (n + 1) lines)

-- the script that lines come to, or the first line that is refused
abbrev pub script_of : List (List ℕ) → Result ThreadScript RefusedLine
script_of lines = script_from 0 lines
