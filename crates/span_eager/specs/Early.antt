-- Scripts whose spans start at their making, and the same scripts without that.
use Rattle.std.specs.Prelude.{◌≡◌, ℕ, ◌==◌, ◌&&◌, ◌||◌, nat_lt, Bool, true, false, List, [], ◌∷◌, length, is_some}
use Rattle.std.specs.List.{AllByRecursion}
use Rattle.otel_base.specs.declared.record.Record.{Record}
use Rattle.otel_state.specs.Deeds.{Deed, deed}
use Rattle.otel_layer.specs.Recording.{Recording}
use Rattle.otel_layer.specs.Table.{data_at, start_context}
use Rattle.span_script.specs.declared.reply.Reply.{Reply}
use Rattle.span_script.specs.declared.request.Call.{Call}
use Rattle.span_script.specs.declared.request.Call.TheVariants as call
use Rattle.span_script.specs.declared.request.Request.{Request}
use Rattle.span_script.specs.Outcomes.{history_of}
use Rattle.span_script.specs.Setups.{Setup}
use Rattle.span_script.specs.Tables.{SpanOp, History, Tables, no_tables, tables, after_effect, with_starts_of, records_of}
use Rattle.span_laws.specs.Starts.{starting_order}
use Rattle.span_eager.specs.Renaming.{id_by_making}

-- the same script where no span starts at its making
abbrev pub lazy_setup : Setup → Setup
lazy_setup setup = record setup { layer = record setup.layer { eager = false } }

-- each id by the place of a start, and the id by the number of the making
abbrev pub eager_id : Setup → List Request → ℕ → ℕ
eager_id setup requests = id_by_making (starting_order (history_of setup requests))

-- for each request of a history its reply, and the records of the spans that it closed
abbrev pub answers_from : Tables → History → List (Reply × List Record)
answers_from t [] = []
answers_from t (e ∷ h) = (e.reply, records_of t e) ∷ answers_from (after_effect t e) h

abbrev pub answers : Setup → List Request → List (Reply × List Record)
answers setup requests = answers_from (no_tables setup) (history_of setup requests)

-- ---- scripts in which an early start changes ids alone

-- an op that writes a name, a kind or a parent
abbrev pub writes_start_data : Deed → Bool
writes_start_data d = is_some d.name || is_some d.kind || is_some d.parent

-- an op that does isn't done to a span that hasn't started
abbrev pub LeavesStartData : Recording → SpanOp → Type 0
LeavesStartData r d = (writes_start_data (deed d.op) && is_some (start_context (data_at d.span r.spans))) ≡ false

-- no op of an effect is, the making's own left aside
abbrev pub LeaveStartData : Tables → History → Type 0
LeaveStartData t [] = Unit {0}
LeaveStartData t (e ∷ h) = AllByRecursion (LeavesStartData (with_starts_of (length t.spans) e t.recording)) e.ops × LeaveStartData (after_effect t e) h

-- ids from elsewhere are no ids of spans: each is 0 or greater than a number
abbrev pub is_no_span_id : ℕ → ℕ → Bool
is_no_span_id many id = id == 0 || nat_lt many id

abbrev pub gives_no_span_id : ℕ → Call → Bool
gives_no_span_id many (call.Remote ids) = is_no_span_id many ids.trace && is_no_span_id many ids.span
gives_no_span_id many _ = true

abbrev pub GiveNoSpanIds : ℕ → List Request → Type 0
GiveNoSpanIds many requests = AllByRecursion (λ (request : Request). gives_no_span_id many request.call ≡ true) requests

-- No name, kind or parent is written between the making of a span and its start, or the end of the script where it doesn't start,
-- and contexts from elsewhere have no ids up to the number of spans made.
pub record MayStartEarly (setup : Setup) (requests : List Request) : Type 0 where
  pub settled : LeaveStartData (no_tables setup) (history_of setup requests)
  pub far : GiveNoSpanIds (length (tables setup (history_of setup requests)).spans) requests
