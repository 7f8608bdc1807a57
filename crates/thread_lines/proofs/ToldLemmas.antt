-- A refused line is told why, and that is never want of memory.
use Rattle.std.proofs.Common.{◌≡◌, ◌≢◌, ℕ, ◌+◌, List, [], ◌∷◌, length, Bool, true, false, Ok, Err, refl, ap, subst, replicate}
use Rattle.std.specs.Prelude.{Result, Option, Some, None, not, ◌==◌, nat_lt, if◌then◌else◌, ok_or}
use Rattle.std.specs.List.{list_all}
use Rattle.otel_state.specs.declared.op.Op.{Op}
use Rattle.span_script.specs.declared.reply.Refusal.{Refusal}
use Rattle.span_script.specs.declared.reply.Refusal.TheVariants as refusal
use Rattle.span_script.specs.declared.reply.What.{What}
use Rattle.span_script.specs.declared.reply.What.TheVariants as what
use Rattle.span_script.specs.declared.settings.Settings.{Settings}
use Rattle.span_script.specs.Admission.{OpeningRead, opening_read}
use Rattle.span_script.specs.Effects.{is_bad_moment}
use Rattle.span_script.specs.Setups.{span_site}
use Rattle.trace_lines.specs.declared.told.Told.{Told}
use Rattle.trace_lines.specs.declared.told.Told.TheVariants as told
use Rattle.trace_lines.specs.forms.Forms.{all_of}
use Rattle.trace_lines.specs.Lines.{is_blank}
use Rattle.trace_lines.specs.reading.Spelled.{value_on_line, settings_spelled}
use Rattle.thread_script.specs.declared.script.ThreadScript.{ThreadScript}
use Rattle.thread_script.specs.declared.script.SharedLine.{SharedLine}
use Rattle.thread_lines.specs.declared.limits.TheConstants.{MAX_WORKERS}
use Rattle.thread_lines.specs.declared.line.ThreadLine.{ThreadLine}
use Rattle.thread_lines.specs.declared.line.ThreadLine.TheVariants as line
use Rattle.thread_lines.specs.declared.line.ThreadOp.{ThreadOp}
use Rattle.thread_lines.specs.declared.line.ThreadCall.{ThreadCall}
use Rattle.thread_lines.specs.declared.line.ThreadCall.TheVariants as said
use Rattle.input_lines.specs.declared.refused_line.RefusedLine.{RefusedLine}
use Rattle.input_lines.specs.Refusals.{HasRefusalLine}
use Rattle.thread_lines.specs.Steps.{◌>>=◌, refuse_unless, unknown_name, need, time_tested, lane_tested, directives_tested, script_at_first, script_if_read, script_opened, last_shared_moment, may_add_shared, shared_added, move_of_call, open_count_on, open_counts_after, shared_tested, entry_tested, call_tested, op_tested, ops_tested, worker_added, line_added, text_added, unless_refused_at, lines_added, script_from, script_of}
use Rattle.thread_lines.specs.ThreadForm.{thread_form}

-- what refuses is told
abbrev pub Tells : {A : Type 0} → Result A Told → Type 0
Tells r = (w : Told) → r ≡ Err w → HasRefusalLine w

-- ---- single tests

step_told : (r : Refusal) → r ≢ refusal.Memory → HasRefusalLine (told.Step r)
step_told r other e = other (cc e)

required_told : (t : Told) (b : Bool) → HasRefusalLine t → Tells (refuse_unless t b)
required_told t true is w e = absurd (cc e)
required_told t false is w e = (let same : t ≡ w = cc e in subst HasRefusalLine same is)

bad_line : HasRefusalLine told.BadLine
bad_line e = cc e

no_name : (w : What) → HasRefusalLine (unknown_name w)
no_name w = step_told (refusal.UnknownName w) (λ e. cc e)

named_told : {A : Type 0} (w : What) (o : Option A) → Tells (need w o)
named_told w (Some x) v e = absurd (cc e)
named_told w None v e = (let same : unknown_name w ≡ v = cc e in subst HasRefusalLine same (no_name w))

none_told : {A : Type 0} (a : A) → Tells {A = A} (Ok a)
none_told a w e = absurd (cc e)

then_told : {A B : Type 0} (r : Result A Told) (go : A → Result B Told) → Tells r → ((a : A) → Tells (go a)) → Tells (r >>= go)
then_told (Ok a) go first later w e = later a w e
then_told (Err why) go first later w e = first w (let same : why ≡ w = cc e in ap Err same)

time_told : (before at : ℕ) → Tells (time_tested before at)
time_told before at = required_told (told.Step (refusal.BadMoment before at)) (not (is_bad_moment before at)) (step_told (refusal.BadMoment before at) (λ e. cc e))

lane_told : (s : ThreadScript) (place : ℕ) → Tells (lane_tested s place)
lane_told s place = required_told (unknown_name what.Lane) (nat_lt place (length s.lanes)) (no_name what.Lane)

-- ---- lines

spelled_told : {A : Type 0} (o : Option A) → Tells (ok_or o told.BadLine)
spelled_told (Some x) w e = absurd (cc e)
spelled_told None w e = (let same : told.BadLine ≡ w = cc e in subst HasRefusalLine same bad_line)

directives_told : (r : OpeningRead) → Tells (directives_tested r)
directives_told (Ok read) w e = absurd (cc e)
directives_told (Err unread) w e = (let same : told.Directive unread.0 unread.1 ≡ w = cc e in subst HasRefusalLine same (λ no. cc no))

opened_told : (s : Settings) → Tells (script_if_read s)
opened_told s = then_told (directives_tested (opening_read s.filter s.counting)) _ (directives_told (opening_read s.filter s.counting)) (λ a. none_told (script_at_first s))

shared_told : (s : ThreadScript) (l : SharedLine) → Tells (shared_added s l)
shared_told s l =
    then_told (refuse_unless told.BadLine (may_add_shared s)) _ (required_told told.BadLine (may_add_shared s) bad_line) (λ a.
    then_told (time_tested (last_shared_moment s.shared) l.at) _ (time_told (last_shared_moment s.shared) l.at) (λ b.
    then_told (lane_tested s 0) _ (lane_told s 0) (λ c.
    then_told (need what.Site (span_site s.callsites l.site)) _ (named_told what.Site (span_site s.callsites l.site)) (λ d. none_told _))))

there_told : (s : ThreadScript) (span : ℕ) → Tells (shared_tested s span)
there_told s span = required_told (unknown_name what.Handle) (nat_lt span (length s.shared)) (no_name what.Handle)

entered_told : (n : ℕ) (op : Op) → Tells (entry_tested n op)
entered_told n op = required_told (unknown_name what.Guard) _ (no_name what.Guard)

call_told : (s : ThreadScript) (entered : List ℕ) (span : ℕ) (call : ThreadCall) → Tells (call_tested s entered span call)
call_told s entered span (said.Record fields) = then_told (shared_tested s span) _ (there_told s span) (λ a. none_told _)
call_told s entered span (said.Event site fields) =
    then_told _ _ (named_told what.Site _) (λ c.
    then_told (shared_tested s span) _ (there_told s span) (λ a.
    then_told _ _ (named_told what.Field _) (λ v. none_told _)))
call_told s entered span (said.Own op) =
    then_told (shared_tested s span) _ (there_told s span) (λ a.
    then_told (entry_tested (open_count_on entered span) op) _ (entered_told (open_count_on entered span) op) (λ b. none_told _))

op_told : (s : ThreadScript) (before : ℕ) (entered : List ℕ) (o : ThreadOp) → Tells (op_tested s before entered o)
op_told s before entered o =
    then_told (time_tested before o.at) _ (time_told before o.at) (λ a.
    then_told (call_tested s entered o.span o.call) _ (call_told s entered o.span o.call) (λ c. none_told _))

ops_told : (s : ThreadScript) (before : ℕ) (entered : List ℕ) (os : List ThreadOp) → Tells (ops_tested s before entered os)
ops_told s before entered [] =
    then_told _ _ (required_told (told.Step refusal.InUse) (list_all (λ n. n == 0) entered) (step_told refusal.InUse (λ e. cc e))) (λ a. none_told _)
ops_told s before entered (o ∷ os) =
    then_told (op_tested s before entered o) _ (op_told s before entered o) (λ op.
    then_told (ops_tested s op.at (open_counts_after entered op.span (move_of_call op.what)) os) _ (ops_told s op.at (open_counts_after entered op.span (move_of_call op.what)) os) (λ ops. none_told _))

worker_told : (s : ThreadScript) (os : List ThreadOp) → Tells (worker_added s os)
worker_told s os =
    then_told (refuse_unless told.BadLine (nat_lt (length s.workers) MAX_WORKERS)) _ (required_told told.BadLine (nat_lt (length s.workers) MAX_WORKERS) bad_line) (λ a.
    then_told (lane_tested s (length s.workers)) _ (lane_told s (length s.workers)) (λ b.
    then_told (ops_tested s (last_shared_moment s.shared) (replicate (length s.shared) 0) os) _ (ops_told s (last_shared_moment s.shared) (replicate (length s.shared) 0) os) (λ c. none_told _)))

line_told : (s : ThreadScript) (l : ThreadLine) → Tells (line_added s l)
line_told s (line.Shared at site) = shared_told s (record { at = at; site = site })
line_told s (line.Worker ops) = worker_told s ops

text_told : (s : ThreadScript) (text : List ℕ) → Tells (text_added s text)
text_told s text = then_told (ok_or (value_on_line (all_of thread_form) text) told.BadLine) (line_added s) (spelled_told (value_on_line (all_of thread_form) text)) (λ l. line_told s l)

-- ---- all lines

abbrev pub TellsLine : {A : Type 0} → Result A RefusedLine → Type 0
TellsLine r = (w : RefusedLine) → r ≡ Err w → HasRefusalLine w.told

at_told : {A B : Type 0} (n : ℕ) (r : Result A Told) (go : A → Result B RefusedLine) → Tells r → ((a : A) → TellsLine (go a)) → TellsLine (unless_refused_at n r go)
at_told n (Ok a) go first later w e = later a w e
at_told n (Err why) go first later w e =
    (let same : record { line = n; told = why } ≡ w = cc e in subst (λ (x : RefusedLine). HasRefusalLine x.told) same (first why refl))

by_blank : {A : Type 0} (b : Bool) (one other : Result A RefusedLine) → TellsLine one → TellsLine other → TellsLine (if b then one else other)
by_blank true one other x y = x
by_blank false one other x y = y

none_refused : {A : Type 0} (a : A) → TellsLine {A = A} (Ok a)
none_refused a w e = absurd (cc e)

refused_bad : {A : Type 0} (n : ℕ) → TellsLine {A = A} (Err (record { line = n; told = told.BadLine }))
refused_bad n w e = (let same : record { line = n; told = told.BadLine } ≡ w = cc e in subst (λ (x : RefusedLine). HasRefusalLine x.told) same bad_line)

added_told : (s : ThreadScript) (n : ℕ) (lines : List (List ℕ)) → TellsLine (lines_added s n lines)
added_told s n [] = none_refused s
added_told s n (text ∷ lines) =
    by_blank (is_blank text) _ _ (added_told s (n + 1) lines)
    (at_told (n + 1) (text_added s text) _ (text_told s text) (λ more. added_told more (n + 1) lines))

settings_told : (t : List ℕ) → Tells (settings_spelled t)
unfolding settings_spelled
settings_told t = spelled_told _

from_told : (n : ℕ) (lines : List (List ℕ)) → TellsLine (script_from n lines)
from_told n [] = refused_bad (n + 1)
from_told n (text ∷ lines) =
    by_blank (is_blank text) _ _ (from_told (n + 1) lines)
    (at_told (n + 1) (script_opened text) _ (then_told (settings_spelled text) script_if_read (settings_told text) opened_told) (λ s. added_told s (n + 1) lines))

pub script_told : (lines : List (List ℕ)) → TellsLine (script_of lines)
script_told lines = from_told 0 lines
