-- Names of other modules that proofs of the crate import, passed on from one place. Declares nothing.
pub use Rattle.std.proofs.lemmas.Bool.{and_from, and_parts, cases_Bool, cases_eq, cond-false, cond-true, or_parts}
pub use Rattle.std.specs.List.{list_any, position_or_len}
pub use Rattle.std.specs.Map.{lookup, remove_entry}
pub use Rattle.otel_base.specs.Ids.{ids_of}
pub use Rattle.otel_base.specs.Recorder.{RecorderValue}
pub use Rattle.otel_base.specs.RecorderIds.{recorder_ids}
pub use Rattle.otel_base.specs.Stack.{empty_context, has_number, without_number}
pub use Rattle.otel_base.specs.declared.context.Context.{Context}
pub use Rattle.otel_base.specs.declared.context.SpanContext.{SpanContext}
pub use Rattle.otel_base.specs.declared.memory.Memory.{Memory}
pub use Rattle.otel_base.specs.declared.record.Record.{Record}
pub use Rattle.trace_base.specs.Spans.{Spans, parent_to_release, span_at}
pub use Rattle.trace_base.specs.declared.lane.Lane.{Lane}
pub use Rattle.trace_base.specs.lanes.Contexts.{AreAttached, attached_count}
pub use Rattle.trace_base.specs.layers.Hooks.{ForEvent, ForRecord, Hook, KnownSpans, OnClose, OnEnter, OnEvent, OnExit, OnFollows, OnNewSpan, OnRecord}
pub use Rattle.span_registry.specs.Both.{DoesBoth, InStep}
pub use Rattle.span_handles.proofs.ChangedSubscriberLemmas.{alike, seen_before, seen_later}
pub use Rattle.otel_state.specs.Stack.{last_passing}
pub use Rattle.otel_state.specs.States.{HasRoom, Room, SpanData, StateValue, after_op, data_at_making, is_growing, record_of, reply}
pub use Rattle.otel_state.specs.declared.op.Op.{Op}
pub use Rattle.otel_state.specs.declared.op.OpReply.{OpReply}
pub use Rattle.otel_state.specs.declared.settings.LayerSettings.{LayerSettings}
pub use Rattle.otel_state.specs.fields.EventFields.{event_op}
pub use Rattle.otel_state.specs.fields.FirstAttributes.{first_attributes}
pub use Rattle.otel_layer.specs.Core.{Core, CoreWithRoom, is_attached_as, is_token, keeps_as, kept_by, seen_in}
pub use Rattle.otel_layer.specs.Counting.{after_counted, counted_events_effect, hook_any}
pub use Rattle.otel_layer.specs.Parts.{AnswersCallIf, Applies, AppliesIn, AppliesTo, PartCall, GivesContext, Touches, TouchesFirst, TouchesNone, own_context_if_known}
pub use Rattle.otel_layer.specs.Ready.{IsReadyOp, IsReadyOtel, with_moment}
pub use Rattle.otel_layer.specs.Recording.{AttachesOwnContext, Closes, Detaches, Enters, Exits, Recording, RecordsCall, RecordsChain, RecordsHook, RecordsPart, ChangesNothing, with_close_of_started, count_after, data_after, data_after_start, layer_recording, with_span_under, no_recording, recording_of, id_if_on, data_once_started, with_start_under, with_applied, with_close, with_entry, with_entry_op, with_exit, with_follow, with_new_span, with_start, with_started_link, with_start_if_some, with_span_finished}
pub use Rattle.otel_layer.specs.laws.RoomLemmas.{step_from_prepared}
pub use Rattle.otel_layer.specs.Steps.{ClosesSpan, DetachesOwnContext, DoesHook, EntersLane, EntersSpan, ExitsSpan, FollowsSpan, IfKnown, MakesSpan, Reserves, SameCore, StartsIfSome, StartsIf, StartsSpan, Step, all_events_effect, lane_context, context_from, new_span_data, parent_source}
pub use Rattle.otel_layer.specs.Table.{IdsRise, IsSpanTable, IdsRiseIf, RisesTo, RoomFor, RoomForLink, all_data, data_at, entry_ids, ids_if_known, is_id, is_of_id, knows_span, own_context_or, read_off, update, start_context, context_unless_started, with_entry_read, with_op, with_span_data}
pub use Rattle.otel_layer.specs.declared.table.Entry.{Entry}
pub use Rattle.otel_layer.specs.laws.CountsLemmas.{has_if_counted, last_counted, last_passes}
