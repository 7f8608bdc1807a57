-- Names of other modules that proofs of the crate import, passed on from one place. Declares nothing.
pub use lib.ListN.{get_elem?}
pub use mathlib.Core.List.{IsPrefix}
pub use mathlib.Core.Logic.{dite}
pub use native.Mathlib.Decide.{ℕ_discrete}
pub use prog.Atomic.{either}
pub use Rattle.atomic_table.proofs.Lists.{at_longer, at_set, set_again, set_else, set_here}
pub use Rattle.atomic_table.specs.Table.{Act, Allows, Joins, Splits, Step, Valid, carried_after, gives, keeps, opening, rest, step, stepped, takes}
pub use Rattle.std.proofs.lemmas.Bool.Decides.{nat_tests}
pub use Rattle.std.proofs.lemmas.Grind.{common_steps, flat_map-append}
pub use Rattle.otel_state.specs.States.{SpanData, Represents, after_op, after_stamped, data_at_making, is_growing, reply}
pub use Rattle.otel_state.specs.declared.op.Op.{Op}
pub use Rattle.trace_threads.specs.Calls.{Begun, Called, MayClose, ClosesWith, MayFinish, IsAtRest, IsBare, IsCloneOf, IsIdle, MakesNoEntry, MakesEntry}
pub use Rattle.trace_threads.specs.Handles.{OneBeginsTheOther, SharedHandle}
pub use Rattle.trace_threads.specs.History.{EndedForGood, EndedIsDone, IsHeld, IsLegal, HasNoneOpen, NothingFollows, OwnCount, HistoryState, WholeIsSeen, clone_count_after, ends_handle, entries_by, entry, has, has_end, held_after, inside_after, is_closed, is_legal, is_other, may, may_do, may_move, move_in, open_count, open_count_from, others_in, start, state_after, state_from, written_entry}
pub use Rattle.trace_threads.specs.Moves.{Move, count, enters, exits, move_by, move_of, open_count_after, stays, without_one}
pub use Rattle.trace_threads.specs.Shared.{IsSoundShared, SharedSpanValue, base_of, content_of, data_by, ops_at_close, ops_by, ops_in, ops_of, op_with_ids, reply_at, shared_of, some_making, data_once_started}
pub use Rattle.trace_threads.specs.Turns.{AllBegin, Closed, Drawn, Earlier, HasTurn, IsHolder, IsHomeOrOut, KeepsRule, KeepsWords, Known, Looked, LookedAs, MayEnd, MayTurn, SeatValue, Noticed, PassedOn, Placed, Slot, Staged, Turn, ViewFitsRule, with_stage, both_of, entries, first_view, home_of, left_of, longer_turns, passed_by, right_of, spent_view, view, view_after}
pub use Rattle.trace_threads.specs.declared.history.Entry.{Entry}
pub use Rattle.trace_threads.specs.declared.history.HandleAct.{HandleAct}
pub use Rattle.trace_threads.specs.declared.history.HandleAct.TheVariants.{Call, Clone, Join, Release}
pub use Rattle.trace_threads.specs.declared.making.Making.{Making}
pub use Rattle.trace_threads.specs.declared.turns.TicketStage.{TicketStage}
pub use Rattle.trace_threads.specs.declared.turns.TicketStage.TheVariants.{Holds, Idle, Waits}
pub use Rattle.trace_threads.specs.declared.turns.TheConstants.{MAX_TURNS}
pub use Rattle.trace_threads.specs.declared.turns.View.{View}
