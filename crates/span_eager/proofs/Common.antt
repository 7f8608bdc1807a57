-- Names of other modules that proofs of the crate import, passed on from one place. Declares nothing.
pub use Rattle.std.proofs.lemmas.Bool.{cases_Bool, cond-false, cond-true}
pub use Rattle.std.proofs.lemmas.Bool.Decides.{nat_tests}
pub use Rattle.std.proofs.lemmas.List.{length-map, map-append}
pub use Rattle.std.proofs.lemmas.Option.{slice_get-map, slice_get_past}
pub use Rattle.std.specs.List.{AllByRecursion, list_any, range_with_len}
pub use Rattle.std.specs.Option.{option_map_or}
pub use Rattle.otel_base.specs.Ids.{ids_of, ids_or_zeros, is_valid, parent_id}
pub use Rattle.otel_base.specs.RecorderIds.{recorder_ids}
pub use Rattle.otel_base.specs.declared.context.Context.{Context}
pub use Rattle.otel_base.specs.declared.context.SpanContext.{SpanContext}
pub use Rattle.otel_base.specs.declared.record.Record.{Record}
pub use Rattle.trace_base.specs.Spans.{current_of, is_in, without_last}
pub use Rattle.otel_state.specs.Deeds.{Deed, deed}
pub use Rattle.otel_state.specs.States.{SpanData, after_op, after_time, after_deed, first_start, moment_after, record_of, unless_started, with_one}
pub use Rattle.otel_state.specs.declared.op.Op.{Op}
pub use Rattle.otel_state.specs.declared.settings.LayerSettings.{LayerSettings}
pub use Rattle.otel_state.specs.declared.times.TheConstants.{GREATEST}
pub use Rattle.otel_layer.specs.Recording.{Recording, with_close_of_started, id_if_on, with_start_under, with_applied, with_close, with_start, with_start_if_some, with_span_finished}
pub use Rattle.otel_layer.specs.Table.{data_at, is_id, own_context_or, update, start_context, context_unless_started, with_op}
pub use Rattle.span_script.specs.Effects.{effect_of, effect_of_call, is_bad_moment}
pub use Rattle.span_script.specs.Outcomes.{with_effects_behind, history_from, history_of, outcome_of, records_from, refusal_at}
pub use Rattle.span_script.specs.Setups.{Setup, event_site, span_site}
pub use Rattle.span_script.specs.Tables.{Attached, Effect, EntryOf, History, HookNew, MadeSpan, Owner, Scope, SpanOp, Tables, after_effect, with_starts_of, with_ops_of, is_attached_by, made_span_at, no_tables, nothing_recorded, open_part, span_of_scope, quiet_effect, recording_after, records_of, scope_of, site_of, slot_at, tables, with_attached, with_detached, with_item, with_span_made}
pub use Rattle.span_script.specs.calls.Here.{Here, Resolved, here_at, need, op_on, ops_effect, ops_on, refuse_if, ◌>>=◌}
pub use Rattle.span_script.specs.calls.Spans.{clone_effect, context_around, current_scope, disabled_effect, drop_effect, exchange_effect, is_borrowed, is_open, lane_in, last_attached, new_effect, open_spans, parent_under, parent_scope, scope_or_current, span_effect}
pub use Rattle.span_script.specs.declared.reply.Refusal.{Refusal}
pub use Rattle.span_script.specs.declared.reply.Reply.{Reply}
pub use Rattle.span_script.specs.declared.request.Request.{Request}
pub use Rattle.span_laws.proofs.spans.StartOrdersLemmas.{closes_from, effect_order, if_waiting, order_in, starting, starts_from}
pub use Rattle.span_laws.specs.LegalHistories.{IsHistory, more, none, occurrences}
pub use Rattle.span_laws.specs.Starts.{span_starting_at_making, starting_order}
pub use Rattle.span_eager.specs.Early.{GiveNoSpanIds, LeaveStartData, LeavesStartData, MayStartEarly, answers, answers_from, eager_id, gives_no_span_id, is_no_span_id, lazy_setup, writes_start_data}
pub use Rattle.span_eager.specs.Renaming.{renamed_answer, renamed_context, renamed_ids, renamed_link, id_by_making, renamed_outcome, renamed_record, renamed_reply}
