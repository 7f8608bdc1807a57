-- Names of other modules that proofs of the crate import, passed on from one place. Declares nothing.
pub use Rattle.std.proofs.lemmas.Bool.{cases_Bool, cases_eq, cond-false, cond-true}
pub use Rattle.std.proofs.lemmas.Option.{slice_get-get_or, slice_get-map, slice_get_within}
pub use Rattle.std.specs.Option.{option_map_or}
pub use Rattle.otel_base.specs.Recorder.{RecorderValue}
pub use Rattle.trace_base.proofs.InterestLemmas.{fresh_admits, registered_same}
pub use Rattle.trace_base.specs.Calls.{CloneSpan, Enter, Event, Exit, Follows, NewSpan, Records, SubscriberCall, TryClose, spans_after_call}
pub use Rattle.trace_base.specs.Conditions.{Allowed}
pub use Rattle.trace_base.specs.Gate.{Admits, AreSame, IsFresh, WorldValue, interests_in, interests_of_sites}
pub use Rattle.trace_base.specs.Spans.{Spans, entries_on, parent_to_release, parent_on, span_at, times_in}
pub use Rattle.trace_base.specs.declared.callsite.Callsite.{Callsite}
pub use Rattle.trace_base.specs.declared.lane.Lane.{Lane}
pub use Rattle.trace_base.specs.declared.level.LevelFilter.{LevelFilter}
pub use Rattle.trace_base.specs.declared.subscriber.Interest.{Interest}
pub use Rattle.trace_base.specs.lanes.Contexts.{AreAttached, CallKeepsLanes}
pub use Rattle.trace_base.specs.layers.Hooks.{Hook, HookKeepsLanes, KnownSpans, OnEnter, OnEvent, OnExit}
pub use Rattle.trace_base.specs.layers.Unseeing.{LeavesLanes, no_known_spans}
pub use Rattle.span_registry.specs.Both.{DoesBoth, InStep, IsWholeBoth, KnowsNone, hint_both, joint_interest}
pub use Rattle.span_registry.specs.Hearing.{ObservesCall}
pub use Rattle.span_registry.specs.Layering.{both_allowed, both_shows}
pub use Rattle.span_registry.specs.declared.layered.Layered.{Layered}
pub use Rattle.span_handles.proofs.ChangedSubscriberLemmas.{alike, as_many, now_there, seen_before, seen_later}
pub use Rattle.span_handles.specs.Worlds.{KeepsPlainData, Chain, Has, Replaced, closed_in, closes, ended, read_subscriber, no_spans}
pub use Rattle.env_filter.proofs.kept.StackedLemmas.{Steps, does_in_place, over_hears, same_in_place, step_in_place}
pub use Rattle.env_filter.specs.Filtering.{IsWholeFilter, DoesFilter, Each, FilterState, FilterWithRoom, IsAtMostLevel, IsNewFilter, enables_in, has_dynamics, hint_in, interest_in, is_admitted, levels_admit, plain_filter, span_level}
pub use Rattle.env_filter.specs.Reloading.{BothOrNeither, HoldsIfThere, Swaps, both_alike, both_refl, layer_or, never_enabled, none_kept, sometimes}
pub use Rattle.env_filter.specs.declared.reload.Layer.{Layer}
pub use Rattle.otel_layer.specs.Core.{Core, CoreWithRoom, IsWholeCore, kept_by, kept_in, seen_in}
pub use Rattle.otel_layer.specs.Counting.{events_effect}
pub use Rattle.otel_layer.specs.Parts.{Applies, PartCall, GivesContext, StaysStack, Touches, TouchesFirst}
pub use Rattle.otel_layer.specs.Recording.{Recording, RecordsCall, RecordsChain, RecordsPart, no_recording, recording_of}
pub use Rattle.otel_layer.specs.Table.{data_at, update}
pub use Rattle.otel_layer.specs.declared.counting.FilteredOpenTelemetryLayer.{FilteredOpenTelemetryLayer}
pub use Rattle.otel_metrics.specs.Waiting.{MeasuresWithRoom}
pub use Rattle.otel_metrics.specs.declared.measure.Measure.{Measure}
pub use Rattle.span_stack.specs.Counting.{RecordsCallBy, with_counted, with_event_by}
pub use Rattle.span_stack.specs.Measured.{measures_of_call, waiting_measures}
pub use Rattle.span_stack.specs.Reading.{HasCurrentInterests, StackWorld, SubscriberStack, stack_counting_filter, filter_in_place, interest_over, stack_interest, stack_measures, stack_recording, without_oldest_record, without_record}
pub use Rattle.span_stack.specs.Through.{inner_worlds, inner_of}
