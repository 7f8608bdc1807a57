-- The names that most proofs of the crate cite, passed on from one place. Declares nothing.
pub use Rattle.std.proofs.lemmas.Bool.{cases_eq, cond-false, cond-true}
pub use Rattle.std.specs.Option.{option_map_or}
pub use Rattle.trace_base.specs.Calls.{Enter, Exit, SubscriberCall, spans_after_call, with_span_entry, with_span_exit}
pub use Rattle.trace_base.specs.Conditions.{Allowed}
pub use Rattle.trace_base.specs.Gate.{IsInWorld, WorldValue}
pub use Rattle.trace_base.specs.Sound.{IsSound}
pub use Rattle.trace_base.specs.Spans.{Spans, entries_on, times_in, without_last}
pub use Rattle.trace_base.specs.declared.lane.Lane.{Lane}
pub use Rattle.trace_base.specs.lanes.Contexts.{CallKeepsLanes, TracksAttached, attached_count}
pub use Rattle.span_handles.proofs.ChangedSubscriberLemmas.{as_many, keeps, now_there, seen_before, seen_later}
pub use Rattle.span_handles.proofs.KnownHandlesLemmas.{handles_trans, keeps_call, keeps_same}
pub use Rattle.span_handles.specs.Handles.{HasOn, HeldSpan, IsKnown, ReplacedOn}
pub use Rattle.span_handles.specs.Knowing.{KeepsHandles, KeepsKnown, KeepsOthers, LosesOne}
pub use Rattle.span_handles.specs.Worlds.{Has, Replaced, no_spans, spans_in}
pub use Rattle.span_futures.specs.Lent.{AreAllAttached, HasAll, KeepsAttachments, KeepsLent, KeepsParts, total_kept}
