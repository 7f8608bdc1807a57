-- Names of other modules that proofs of the crate import, passed on from one place. Declares nothing.
pub use Rattle.std.proofs.lemmas.Bool.{cases_Bool, cases_eq, cases_lt, cases_order, cond-false, cond-true}
pub use Rattle.std.proofs.lemmas.List.{get_or_append_left, get_or_past, get_or_push, length_push}
pub use Rattle.std.specs.Option.{option_map_or}
pub use Rattle.otel_base.specs.declared.memory.Memory.{Memory}
pub use Rattle.trace_base.proofs.EntryLemmas.{any_if_counted, count_push, counted_if_any, length_held, made_if_held, none_counted, with_other, with_same}
pub use Rattle.trace_base.proofs.HoldLemmas.{first_if_in, holds_other, holds_set, less_holds, less_last, less_more}
pub use Rattle.trace_base.specs.Calls.{Enter, Event, Exit, NewSpan, SubscriberCall, TryClose, spans_after_call, with_new_span, with_span_entry, with_span_exit}
pub use Rattle.trace_base.specs.Conditions.{AreFew, HasFewHolds, ParentHasFewHolds, IsLive, IsLiveParent, MayExit}
pub use Rattle.trace_base.specs.Gate.{Admits, AreSame, IsInWorld, WorldValue, dispatch_on}
pub use Rattle.trace_base.specs.Spans.{Span, Spans, entries_on, with_hold_of_child, is_in, span_without_hold, parent_to_release, no_span, parent_on, span_at, times_in, with_hold, without_hold, without_last}
pub use Rattle.trace_base.specs.declared.callsite.Callsite.{Callsite}
pub use Rattle.trace_base.specs.declared.field.ValueSet.{ValueSet}
pub use Rattle.trace_base.specs.declared.lane.Lane.{Lane}
pub use Rattle.trace_base.specs.declared.span.Parent.{Parent}
pub use Rattle.trace_base.specs.declared.subscriber.Subscriber.{Ghosts}
pub use Rattle.trace_base.specs.lanes.Contexts.{AreAttached, TracksAttached, attached_count}
pub use Rattle.span_handles.proofs.ChangedSubscriberLemmas.{alike, as_many, chain_shown, shown}
pub use Rattle.span_handles.specs.Entries.{EntryGuard, IsAttachedOn, IsThere, KeepsLaneButRoom}
pub use Rattle.span_handles.specs.Events.{TellsEventIf}
pub use Rattle.span_handles.specs.Handles.{Handle, HasIf, HasOn, HeldSpan, IsKnown, IsOf, Makes, MakesIf, MayMakeIf, ReplacedIf, ReplacedOn, no_handle, as_parent}
pub use Rattle.span_handles.specs.Knowing.{KeepsHandles, KeepsKnown, KeepsOthers}
pub use Rattle.span_handles.specs.Worlds.{KeepsPlainData, Chain, ChainChangesPlainData, Has, ReleasesChain, Replaced, ChangesPlainData, all_released, kept_in, read_subscriber, no_spans, releases, spans_in}
pub use Rattle.traced.specs.AsBefore.{AreAsBefore, HadNoHandle, HasEntered, HasMade, IsAsBefore, GainsEntry, IsInside, IsLiveOn, IsNewest, IsOfNewest, IsOpen}
pub use Rattle.traced.specs.Between.{EntersAndExits, MakesAndCloses}
pub use Rattle.traced.specs.Gating.{GateAnswers, MakesOne, TellsIfGateAdmits, TellsOne}
pub use Rattle.traced.specs.Keeping.{RestoresAndDid, HaveSameIds, RestoresWorld, StandsAlone, StandsWith}
pub use Rattle.traced.specs.Laws.{IsLawful}
pub use Rattle.traced.specs.Making.{MakesIfGateAdmits}
pub use Rattle.traced.specs.Moving.{Closes, Enters, Exits, Refuses}
pub use Rattle.traced.specs.Standing.{AreAssigned, AreAtMost, AreServed, CanAsk, CanClose, CanEnter, CanExit, CanMake, CanTell, HasDistinctId, IsHeld, ServesLane, StandsReady}
pub use Rattle.traced.specs.Staying.{IsUnchanged}
pub use Rattle.traced.specs.Telling.{Tells}
