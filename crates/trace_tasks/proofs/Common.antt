-- Names of other modules that proofs of the crate import, passed on from one place. Declares nothing.
pub use Rattle.futures.specs.Task.{Keeps}
unfoldable pub use Rattle.futures.specs.Task.{Holds}
pub use Rattle.std.proofs.lemmas.Bool.{cond-true}
pub use Rattle.std.proofs.lemmas.Grind.{common_steps}
pub use Rattle.std.proofs.lemmas.List.Sums.{sum_by-cons, sum_by_push}
pub use Rattle.std.specs.List.{cons_option, list_all}
pub use Rattle.std.specs.Option.{option_map_or}
pub use Rattle.otel_base.specs.declared.enter_error.EnterError.{EnterError}
pub use Rattle.otel_base.specs.declared.memory.Memory.{Memory}
pub use Rattle.trace_base.proofs.EntryLemmas.{count_cons, made_if_held, with_same}
pub use Rattle.trace_base.specs.Calls.{Enter, Event, Exit, NewSpan, Records, SubscriberCall, TryClose, spans_after_call, with_new_span, with_span_entry, with_span_exit}
pub use Rattle.trace_base.specs.Field.{place_of}
pub use Rattle.trace_base.specs.Gate.{Admits, WorldValue, cached_at, dispatch_on, gate}
pub use Rattle.trace_base.specs.Spans.{Span, Spans, current_of, current_on, entries_on, is_in, span_without_hold, parent_to_release, no_span, parent_on, span_at, times_in, with_hold, without_hold, without_last}
pub use Rattle.trace_base.specs.declared.callsite.Callsite.{Callsite}
pub use Rattle.trace_base.specs.declared.field.ValueSet.{ValueSet}
pub use Rattle.trace_base.specs.declared.lane.Lane.{Lane}
pub use Rattle.trace_base.specs.declared.level.LevelFilter.{LevelFilter}
pub use Rattle.trace_base.specs.lanes.Contexts.{IsFull, CallKeepsLanes, attached_count, attached_count_on}
pub use Rattle.span_handles.proofs.ChangedSubscriberLemmas.{as_many, chain_shown, now_there, seen_before, seen_later}
pub use Rattle.span_handles.specs.Entries.{BeginsInside, KeepsLaneButRoom, MeetsFullLane}
pub use Rattle.span_handles.specs.Handles.{Handle, HasOn, HeldSpan, IsKnown, MakesIf, RecordsAt, RecordsOn, ReplacedIf, ReplacedOn, callsite_in, handle_of, id_of}
pub use Rattle.span_handles.specs.Worlds.{Chain, ReleasesChain, Replaced, all_released, closes, ended, kept_in, no_spans, releases, spans_in}
pub use Rattle.span_futures.proofs.CallsLemmas.{called_once, called_same, calls_none, calls_one, calls_then, changed_once}
pub use Rattle.span_futures.proofs.Inside.{keeps_nothing, refused}
pub use Rattle.span_futures.proofs.KeptLemmas.{keeps_all, same_kept}
pub use Rattle.span_futures.specs.Calling.{Beside, ChangesUpTo}
pub use Rattle.span_futures.specs.Lent.{AreAllAttached, HasAll, KeepsLent}
pub use Rattle.span_futures.specs.Polls.{FailsToEnter, PollsInside, PollResult}
pub use Rattle.span_futures.specs.declared.instrument.Instrumented.{Instrumented}
pub use Rattle.otel_state.specs.declared.op.OpReply.{OpReply}
pub use Rattle.otel_layer.specs.Parts.{Applies, PartCall, StaysStack}
pub use Rattle.span_script.specs.Fields.{Fields, declared_value, declares, values_by, values_of}
pub use Rattle.span_script.specs.declared.request.Request.{Request}
pub use Rattle.trace_tape.specs.Tapes.{DoesTape, TapeValue, drop_requests, exit_requests, handle_count_of, is_due, is_entry_of, without_handle, field_name_at, named_values, on_first_lane, one_more, tape_after}
pub use Rattle.trace_tape.specs.PartCalls.{AppliesTape, TouchesTape, is_live}
pub use Rattle.trace_tasks.specs.Acts.{Asks, CallsIf, Changes, IsGranted, PollsSteps, RecordsTo, StepAt, StepIf, StepOn, StepsOn, TellsAt, WantsMemory, asked, denied, steps_left, nothing, steps_now, recorded, room, spare, told, untouched}
pub use Rattle.trace_tasks.specs.Begun.{AllHaveCallsites, AreBegun, Begins, MakesTaskSpan, RunsTasks}
pub use Rattle.trace_tasks.specs.Carrying.{Carries, CarriesCall, CarriesEnter, CarriesEvent, CarriesExit, CarriesOnHandle, CarriesNew, MakesGated, TaskScene}
pub use Rattle.trace_tasks.specs.Flat.{UnfinishedTask, after_poll, poll_count, declared_ones, drop_at_end, flat_list, makings, moment_of, poll_requests, polls_left, requeue, round_requests, rounds_requests, step_call, tasks_at_first, turns_requests, yield_count}
pub use Rattle.trace_tasks.specs.Spelled.{TasksAreDeclared, CarriesTape, IsDeclared, IsNewTape, StepsAreDeclared, KeepsOnTape, tape_spans}
pub use Rattle.trace_tasks.specs.Stops.{Drops, DropsAll, GaveUp, IsFrontOf, IsPartOfPoll, MeetsFull, StopsBeginning, StopsInTurn, StopsPoll, StopsTurns, TurnStops, drops_of_tasks, exit_if, leaving_requests, left_after}
pub use Rattle.trace_tasks.specs.Turning.{IsAlone, IsAloneAs, IsAfterPoll, ReadyToPoll, SameAttached, OtherSpansStay, PollsTask, dispatch_serving, unfinished_task, root_of_one_handle, dispatch_of_default}
pub use Rattle.trace_tasks.specs.Waiting.{AllKnownAndApart, AllStand, AllWait, AreApart, IsApart, KeepsKnownBut, TakesTurn, TakesTurnIf, TakesTurns, TaskStands, Waits, polls_in, queue_with}
pub use Rattle.trace_tasks.specs.declared.running.TaskFuture.{TaskFuture}
pub use Rattle.trace_tasks.specs.declared.script.Step.{Step}
pub use Rattle.trace_tasks.specs.declared.script.Task.{Task}
