-- Names of other modules that proofs of the crate import, passed on from one place. Declares nothing.
pub use Rattle.std.proofs.Math.ListN.{get_or-map}
pub use Rattle.std.proofs.lemmas.Bool.{and_from, and_parts, cases_Bool, cases_eq, cases_lt, cond-false, cond-true, or_cases, or_parts, or_right}
pub use Rattle.std.proofs.lemmas.List.{get_or_append_left, get_or_past, get_or_push, length-map, length_push, map-append, map-set, map_push, set-append_left}
pub use Rattle.std.proofs.lemmas.List.Sums.{fold_push, get_or-le-sum_by, sum_by-cons, sum_by-set}
pub use Rattle.std.specs.List.{cons_option, list_all, list_any, range_with_len}
pub use Rattle.std.specs.Option.{option_map_or}
pub use Rattle.otel_base.specs.Ids.{ids_of, is_valid}
pub use Rattle.otel_base.specs.Stack.{empty_context, has_number, last_context, without_number}
pub use Rattle.otel_base.specs.declared.context.Context.{Context}
pub use Rattle.otel_base.specs.declared.context.SpanContext.{SpanContext}
pub use Rattle.otel_base.specs.declared.enter_error.EnterError.{EnterError}
pub use Rattle.otel_base.specs.declared.record.Record.{Record}
pub use Rattle.otel_base.specs.declared.stack.TheConstants.{MAX_CONTEXTS}
pub use Rattle.otel_base.specs.declared.value.KeyValue.{KeyValue}
pub use Rattle.trace_base.proofs.EntryLemmas.{any_if_counted, count_cons, count_push, counted_if_any, length_held, made_if_held, with_other, with_same}
pub use Rattle.trace_base.proofs.HoldLemmas.{children_set, current_in, first_if_in, holds_other, holds_set, keeps_children, less_holds, less_last, less_more, times_without}
pub use Rattle.trace_base.specs.Calls.{CloneSpan, Enter, Exit, NewSpan, SubscriberCall, with_new_span, with_span_entry, with_span_exit}
pub use Rattle.trace_base.specs.Conditions.{AreFew, HasFewHolds, ParentHasFewHolds, HasUnboundHold, IsLive, IsLiveParent, MayExit}
pub use Rattle.trace_base.specs.Gate.{AreSame, IsFresh, WorldValue, interests_of_sites}
pub use Rattle.trace_base.specs.Sound.{OneEach, has_lane}
pub use Rattle.trace_base.specs.Spans.{Entries, Span, Spans, current_of, entries_on, entered_lane_count, has_entry, with_hold_of_child, is_child_of, is_in, is_open_child, span_without_hold, parent_to_release, no_span, open_child_count, parent_on, span_at, times_in, with_entries, with_hold, without_hold, without_last}
pub use Rattle.trace_base.specs.declared.callsite.Callsite.{Callsite}
pub use Rattle.trace_base.specs.declared.callsite.Kind.{Kind}
pub use Rattle.trace_base.specs.declared.field.ValueSet.{ValueSet}
pub use Rattle.trace_base.specs.declared.lane.Lane.{Lane}
pub use Rattle.trace_base.specs.declared.span.Parent.{Parent}
pub use Rattle.trace_base.specs.declared.subscriber.Interest.{Interest}
pub use Rattle.trace_base.specs.lanes.Contexts.{AreAttached, TracksAttached, CallKeepsLanes, attached_count}
pub use Rattle.span_handles.specs.Entries.{IsThere, KeepsLaneButRoom, MeetsFullLane}
pub use Rattle.span_handles.specs.Handles.{AreOfOne, Copies, FollowsOn, Handle, HasOn, HeldSpan, CopiesCurrent, IsKnown, IsSite, Makes, MayMake, RecordsAt, RecordsOn, ReplacedOn, callsite_in, field_at, field_in, id_of, no_handle, as_parent}
pub use Rattle.span_handles.specs.Worlds.{KeepsPlainData, Chain, ChainChangesPlainData, Has, ReleasesChain, Replaced, ChangesPlainData, all_released, closed_in, kept_in, read_subscriber, no_spans, releases, spans_in}
pub use Rattle.env_directives.specs.declared.env.directive.Directive.{Directive}
pub use Rattle.env_filter.specs.Filtering.{FilterState, FilterWithRoom, IsNewFilter, enables_in, interest_in, is_admitted, plain_filter}
pub use Rattle.env_filter.specs.Reloading.{layer_or, none_kept, sometimes}
pub use Rattle.otel_state.specs.Stack.{last_passing}
pub use Rattle.otel_state.specs.States.{SpanData, after_op, data_at_making, is_growing, reply_after}
pub use Rattle.otel_state.specs.declared.op.Op.{Op}
pub use Rattle.otel_state.specs.declared.settings.LayerSettings.{LayerSettings}
pub use Rattle.otel_layer.specs.Asking.{AppliesOn, AsksContext, AsksDone, AsksParent, GivesContextOn, context_or_empty, done_answer, add_event_op, link_op, parent_answer, parent_reply}
pub use Rattle.otel_layer.specs.Core.{is_attached_as, is_token, keeps_as, kept_by}
pub use Rattle.otel_layer.specs.Parts.{Applies, AppliesTo, PartCall, GivesContext, own_context_if_known}
pub use Rattle.otel_layer.specs.Recording.{AttachesOwnContext, Detaches, Enters, Exits, Recording, RecordsCall, RecordsChain, with_close_of_started, data_after, data_after_start, no_recording, id_if_on, with_start_under, with_applied, with_close, with_start, with_start_if_some, with_span_finished}
pub use Rattle.otel_layer.specs.Steps.{lane_context, context_from, new_span_data, parent_source, with_link}
pub use Rattle.otel_layer.specs.Table.{data_at, ids_if_known, knows_span, own_context_or, start_context, context_unless_started, with_op, with_span_data}
pub use Rattle.otel_layer.specs.declared.layer.tokens.Token.{Token}
pub use Rattle.otel_metrics.specs.declared.measure.Measure.{Measure}
pub use Rattle.span_stack.specs.Counting.{RecordsCallBy, with_counted, with_event_by}
pub use Rattle.span_stack.specs.FilterInPlace.{FiltersChain, filter_after, without_span}
pub use Rattle.span_stack.specs.Measured.{measures_of_call}
pub use Rattle.span_stack.specs.Reading.{StackWorld, SubscriberStack, counting_filter_in, filter_in_place, measures_in, new_recording, stack_interest}
pub use Rattle.span_script.specs.Admission.{IsCountingFilter, IsTextFilter, IsOpenError, TextRead, fault_in, filter_of_read, pieces_read, text_filter, text_read, open_error_by, with_piece, with_piece_read}
pub use Rattle.span_script.specs.Balance.{Balanced, OpenGuard, guards_span, span_of_handle, names_span, open_guard_by, open_guard_on}
pub use Rattle.span_script.specs.Effects.{effect_of, effect_of_call, is_bad_moment}
pub use Rattle.span_script.specs.Fields.{Fields, all_values, declared_by, declared_value, declares, values_by, values_of}
pub use Rattle.span_script.specs.Fits.{AllContextsFit, ContextSlots, ContextsFit, FilteringFits, HaveDistinctNumbers, PipelineInvariant, IsLaterThanParent, IsRefusal, IsScope, LaneValue, LanesFit, SpansFit, Parts, RecordingFits, IsServed, IsServedByHistory, Serves, ServesResolved, ShownFilter, StandsFor, PipelineState, Views, counting_filter_by, values_below, guard_of, held_by, held_of, is_for_memory, attach_numbers_on, lane_at, lane_place_of, lane_value, no_lane_value, owner_numbers, live_numbers_of, parent_in, shown_of, site_by, stack_views, state_of, token_numbers_of}
pub use Rattle.span_script.specs.Setups.{HaveDistinctIds, Setup, event_site, id_at, if_event, if_span, name_at, span_site}
pub use Rattle.span_script.specs.Slots.{HasWhatItNames, IsGateAnswer, MakesSpanOfRequest, MakesSpanOrNothing, TellsEventOfRequest, TellsEventOrNothing, is_named_by_guard, is_shared_by, values_or_refusal, names_handle, parent_for}
pub use Rattle.span_script.specs.SubscriberLaws.{AddsMeasures, Aside, AsksLaw, CallsLaw, ChainsLaw, SameLaw, aside_in}
pub use Rattle.span_script.specs.Tables.{Attached, Effect, EntryOf, FilterHook, GuardOf, History, HookClose, HookEnter, HookExit, HookNew, HookRecord, MadeSpan, Owner, Scope, ScopeGuard, SpanOp, Tables, after_effect, either_after, hooks_since, is_attached_by, is_same_owner, with_lane_entries, with_entry_on, with_exit_on, made_span_at, newer_text, no_made_span, no_tables, nothing_recorded, open_part, span_of_scope, quiet_effect, recording_after, records_of, scope_of, site_of, slot_at, slots_after, spend, tables, with_attached, with_detached, with_either, with_item, with_span_made}
pub use Rattle.span_script.specs.calls.Contexts.{attach_effect, context_effect, detach_effect, context_of_scope}
pub use Rattle.span_script.specs.calls.Entries.{activated_span, entry_context, enter_effect, entry_call, exit_effect, is_full, is_shared, meets_full}
pub use Rattle.span_script.specs.calls.Events.{event_ops, event_effect, if_enabled}
pub use Rattle.span_script.specs.calls.Filter.{admits_on, after_filter_hook, enabled_effect, filter_in_force, hooks_of_span, text_in_force, reload_by, reload_effect}
pub use Rattle.span_script.specs.calls.Here.{Here, Resolved, here_at, need, op_on, ops_effect, ops_on, refuse_if, ◌>>=◌}
pub use Rattle.span_script.specs.calls.Links.{follow_effect, event_time, set_parent_result, link_ops, result_if_settable}
pub use Rattle.span_script.specs.calls.Refusals.{entry_refusal}
pub use Rattle.span_script.specs.calls.Spans.{borrows, clone_effect, closed_of, context_around, current_scope, disabled_effect, drop_effect, exchange_effect, holds_span, is_borrowed, is_open, lane_in, last_attached, new_effect, new_span_data_at, open_spans, parent_under, parent_scope, scope_or_current, span_effect}
pub use Rattle.span_script.specs.declared.contexts.AttachGuard.{AttachGuard}
pub use Rattle.span_script.specs.declared.reply.Refusal.{Refusal}
pub use Rattle.span_script.specs.declared.reply.Reply.{Reply}
pub use Rattle.span_script.specs.declared.request.RequestParent.{RequestParent}
pub use Rattle.span_script.specs.declared.request.Request.{Request}
pub use Rattle.span_script.specs.declared.slots.Guard.{Guard}
