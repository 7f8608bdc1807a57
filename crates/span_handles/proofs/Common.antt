-- The names that most proofs of the crate cite, passed on from one place. Declares nothing.
pub use Rattle.std.proofs.lemmas.Bool.{cases_Bool, cases_eq, cond-false, cond-true}
pub use Rattle.std.proofs.lemmas.List.{get_or_append_left}
pub use Rattle.std.specs.Option.{option_map_or}
pub use Rattle.trace_base.proofs.EntryLemmas.{any_if_counted, count_push, made_if_held, with_same}
pub use Rattle.trace_base.proofs.HoldLemmas.{children_set, first_if_in, first_with, holds_other, holds_set, in_push_same, keeps_children, less_holds, less_last, less_more}
pub use Rattle.trace_base.proofs.Sound.{clone_own, exit_live, new_own, parent_live}
pub use Rattle.trace_base.specs.Calls.{CloneSpan, Enter, Event, Exit, Follows, NewSpan, Records, SubscriberCall, TryClose, spans_after_call, with_new_span, with_span_entry, with_span_exit}
pub use Rattle.trace_base.specs.Conditions.{Allowed, HasUnboundHold, IsLive, IsLiveParent, MayExit}
pub use Rattle.trace_base.specs.Gate.{WorldValue}
pub use Rattle.trace_base.specs.Sound.{IsSound}
pub use Rattle.trace_base.specs.Spans.{Span, Spans, bound_holds, entries_on, is_child_of, is_in, is_open_child, span_without_hold, parent_to_release, no_span, open_child_count, parent_on, span_at, times_in, with_hold, without_hold}
pub use Rattle.trace_base.specs.declared.field.ValueSet.{ValueSet}
pub use Rattle.trace_base.specs.declared.lane.Lane.{Lane}
pub use Rattle.trace_base.specs.declared.span.Parent.{Parent}
pub use Rattle.trace_base.specs.lanes.Contexts.{AreAttached, CallKeepsLanes, TracksAttached, attached_count}
pub use Rattle.span_handles.specs.Handles.{Handle, HasIf, HasOn, HeldSpan, IsKnown, IsKnownBeside, ReplacedIf, ReplacedOn}
pub use Rattle.span_handles.specs.Knowing.{GainsOne, IsNoClose, KeepsHandles, KeepsKnown, KeepsOthers, LosesOne}
pub use Rattle.span_handles.specs.Worlds.{KeepsPlainData, Chain, ChainChangesPlainData, ChangesByCloses, Has, ReleasesChain, Replaced, ChangesPlainData, ChainChangesRead, all_released, closed_in, closes, ended, read_subscriber, no_spans, releases}
