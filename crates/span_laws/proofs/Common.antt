-- Names of other modules that proofs of the crate import, passed on from one place. Declares nothing.
pub use Rattle.std.proofs.Common.{Bool, Err, IfSome, IsTrue, List, None, Ok, Option, Result, Some, [], ap, append_assoc, ap₂, arith, cond, count_by, false, filter, filter_map, flat_map, fold, get_or, if◌then◌else◌, inl, inr, is_some, length, map, min, nat_lt, not, option_map, refl, set, slice_get, slice_set, subst, suc, sum_by, sym, true, unwrap_or, zero, ℕ, ◌&&◌, ◌++◌, ◌+◌, ◌-◌, ◌<◌, ◌==◌, ◌||◌, ◌↔◌, ◌∙◌, ◌∷◌, ◌≡◌, ◌≢◌, ◌≤◌}
pub use Rattle.std.proofs.lemmas.Bool.{and_from, and_parts, cases_Bool, cases_eq, cases_lt, cond-false, cond-true, or_right}
pub use Rattle.std.proofs.lemmas.Bool.Decides.{nat_tests}
pub use Rattle.std.proofs.lemmas.Grind.{flat_map-append}
pub use Rattle.std.proofs.lemmas.List.{get_or_append_left, get_or_past, get_or_push, length_push, map-append}
pub use Rattle.std.proofs.lemmas.List.Sums.{fold-append, fold_push, get_or-le-sum_by, sum_by-append, sum_by-cons, sum_by-set, sum_by_push}
pub use Rattle.std.specs.List.{AllByRecursion, cons_option, list_any, range_with_len}
pub use Rattle.std.specs.Option.{option_map_or}
pub use Rattle.otel_base.specs.Ids.{ids_of, ids_or_zeros, is_valid}
pub use Rattle.otel_base.specs.RecorderIds.{recorder_ids}
pub use Rattle.otel_base.specs.declared.context.Context.{Context}
pub use Rattle.otel_base.specs.declared.context.SpanContext.{SpanContext}
pub use Rattle.otel_base.specs.declared.record.Record.{Record}
pub use Rattle.trace_base.proofs.EntryLemmas.{any_if_counted, count_cons, count_push, counted_if_any, length_held, made_if_held}
pub use Rattle.trace_base.proofs.HoldLemmas.{current_in, holds_other, holds_set, in_push, in_push_same, less_holds, times_without}
pub use Rattle.trace_base.specs.Spans.{Span, Spans, current_of, entries_on, with_hold_of_child, is_in, span_without_hold, parent_to_release, no_span, parent_on, span_at, times_in, with_hold, without_hold, without_last}
pub use Rattle.trace_base.specs.declared.callsite.Callsite.{Callsite}
pub use Rattle.trace_base.specs.declared.field.ValueSet.{ValueSet}
pub use Rattle.trace_base.specs.declared.lane.Lane.{Lane}
pub use Rattle.trace_base.specs.layers.Hooks.{Hook, OnClose, OnEnter, OnEvent, OnExit, OnFollows, OnNewSpan, OnRecord, one_if}
pub use Rattle.env_directives.specs.declared.env.directive.Directive.{Directive}
pub use Rattle.env_filter.proofs.kept.StackedLemmas.{IsBefore, all_more, all_push, in_order, new_if}
pub use Rattle.env_filter.specs.Filtering.{Each, FilterState, after_hook, enables_in, fresh_filter, span_level}
pub use Rattle.env_filter.specs.spans.Histories.{AreInOrder, MayComeNext, NeverFalls, is_close_of, is_ended, level_by_calls, levels_by_calls}
pub use Rattle.otel_state.proofs.SumLemmas.{appended, content_is, entries_is, own_is, parent_is}
pub use Rattle.otel_state.specs.Content.{Making, attributes_of, closing_count_attributes, closing_times_attributes, content, counted_of}
pub use Rattle.otel_state.specs.Deeds.{Deed, TimedOp, deed}
pub use Rattle.otel_state.specs.Laws.{TellsTimes, was_entered}
pub use Rattle.otel_state.specs.Opening.{before_start, is_start, last_or, ids_of_start, parent_context_of}
pub use Rattle.otel_state.specs.States.{SpanData, Represents, after_op, after_stamped, data_at_making, first_start, record_of, unless_started, with_all}
pub use Rattle.otel_state.specs.Times.{MomentsRise, busy_of, idle_of, last_exit, open_after_ops}
pub use Rattle.otel_state.specs.declared.op.Op.{Op}
pub use Rattle.otel_state.specs.declared.settings.LayerSettings.{LayerSettings}
pub use Rattle.otel_state.specs.declared.times.TheConstants.{GREATEST}
pub use Rattle.otel_state.specs.fields.EventFields.{event_op}
pub use Rattle.otel_state.specs.fields.FirstAttributes.{first_attributes}
pub use Rattle.otel_state.specs.fields.SpanFields.{span_update}
pub use Rattle.otel_layer.proofs.FoundSpanLemmas.{told_at_made, told_at_op, told_at_removed}
pub use Rattle.otel_layer.specs.Recording.{Enters, Exits, Recording, RecordsCall, RecordsChain, RecordsPart, ChangesNothing, data_after, with_span_under, id_if_on, with_start_under, with_applied, with_close, with_entry, with_event, with_exit, with_follow, with_new_span, with_start, with_start_if_some, with_span_finished}
pub use Rattle.otel_layer.specs.Steps.{IfKnown, context_from, new_span_data, parent_source, with_link}
pub use Rattle.otel_layer.specs.Table.{data_at, ids_if_known, is_id, knows_span, own_context_or, start_context, context_unless_started, with_span_data}
pub use Rattle.span_script.proofs.runs.RunLemmas.{goes_on_with, records_push, stays_with}
pub use Rattle.span_script.proofs.spans.OpenCountLemmas.{range_more}
pub use Rattle.span_script.proofs.spans.OpenSpansLemmas.{any_counted, pick, slot_open}
pub use Rattle.span_script.proofs.steps.SlotsLemmas.{named_push, named_set, named_within, some_is}
pub use Rattle.span_script.specs.Admission.{TextRead, filter_of_read, text_filter, text_read}
pub use Rattle.span_script.specs.Effects.{effect_of, effect_of_call, is_bad_moment}
pub use Rattle.span_script.specs.Fields.{Fields, all_values, values_of}
pub use Rattle.span_script.specs.Setups.{Setup, event_site, id_at, span_site}
pub use Rattle.span_script.specs.Tables.{Effect, FilterHook, History, HookClose, HookEnter, HookExit, HookNew, HookRecord, MadeSpan, Scope, ScopeGuard, SpanOp, Tables, after_effect, with_ops_of, either_after, hooks_since, with_entry_on, with_exit_on, made_span_at, newer_text, no_made_span, no_tables, open_part, span_of_scope, recording_after, records_of, scope_of, slot_at, spend, tables, with_item, with_span_made}
pub use Rattle.span_script.specs.calls.Contexts.{attach_effect, context_effect, detach_effect, context_of_scope}
pub use Rattle.span_script.specs.calls.Entries.{activated_span, enter_effect, entry_call, exit_effect, is_full, is_shared, meets_full}
pub use Rattle.span_script.specs.calls.Events.{event_ops, if_enabled}
pub use Rattle.span_script.specs.calls.Fields.{callsite_of, hooks_of_values, update_ops}
pub use Rattle.span_script.specs.calls.Filter.{admits_on, after_filter_hook, filter_in_force, hook_of, hooks_of_span, text_in_force, reload_by, reload_effect}
pub use Rattle.span_script.specs.calls.Here.{Here, Resolved, here_at, need, op_on, ops_effect, ops_on, refuse_if, ◌>>=◌}
pub use Rattle.span_script.specs.calls.Links.{follow_effect, event_time}
pub use Rattle.span_script.specs.calls.Spans.{borrows, clone_effect, closed_of, context_around, current_scope, disabled_effect, drop_effect, exchange_effect, holds_span, is_borrowed, is_open, lane_in, new_span_data_at, open_spans, parent_under, parent_scope, scope_or_current, span_effect}
pub use Rattle.span_script.specs.declared.request.Call.{Call}
pub use Rattle.span_script.specs.declared.request.RequestParent.{RequestParent}
pub use Rattle.span_script.specs.declared.request.Request.{Request}
pub use Rattle.span_laws.specs.Closes.{BeginsWith, is_drop}
pub use Rattle.span_laws.specs.LegalHistories.{IsHistory, more, none, occurrences}
pub use Rattle.span_laws.specs.Makings.{HasContextOf, IsMadeBy, IsRecordOf, SeesContextOf, asks_admitted, context_of_lane, context_span, is_making, parent_context}
pub use Rattle.span_laws.specs.Records.{IsMadeWith, EachRecord, IsRecord, all_ops, closed_at, ops_from, ops_in, ops_of, records_of_history, start_in}
pub use Rattle.span_laws.specs.Starts.{span_starting_at_making, place_from, place_in, starting_order, starts_of, with_started}
pub use Rattle.span_laws.specs.Telling.{TellsAttributes, TellsStartAndEnd, id_in_data, id_of}
