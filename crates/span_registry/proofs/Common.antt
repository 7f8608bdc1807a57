-- The names that most proofs of the crate cite, passed on from one place. Declares nothing.
pub use Rattle.std.proofs.lemmas.Bool.{cases_Bool, cases_eq, cases_lt, cond-false, cond-true, eqb-false, or_cases, or_parts, or_right}
pub use Rattle.std.proofs.lemmas.List.{get_or_append_left, get_or_default, get_or_past, get_or_push, length_push, set-append_left}
pub use Rattle.std.proofs.lemmas.List.Sums.{fold-append, get_or-le-sum_by, sum_by-set}
pub use Rattle.std.specs.List.{last_or}
pub use Rattle.trace_base.proofs.EntryLemmas.{any_if_counted, count_cons, count_push, counted_if_any, length_held, made_if_held, no_entries, with_other, with_same}
pub use Rattle.trace_base.proofs.HoldLemmas.{holds_other, holds_set, in_push_other, in_push_same, less_holds, less_last, less_more}
pub use Rattle.trace_base.proofs.Sound.{current_live, exit_live, next_own, parent_live, sound_call, sound_entered, sound_exited, sound_held, sound_new, sound_released}
pub use Rattle.trace_base.specs.Calls.{CloneSpan, Enter, Event, Exit, Follows, NewSpan, Records, SubscriberCall, TryClose, spans_after_call, with_new_span, with_span_entry, with_span_exit}
pub use Rattle.trace_base.specs.Conditions.{Allowed, HasFewHolds, HasUnboundHold, IsLive, IsLiveParent, MayExit}
pub use Rattle.trace_base.specs.Sound.{IsSound, OneEach}
pub use Rattle.trace_base.specs.Spans.{Entries, Span, Spans, current_from, current_of, entered_lane_count, entries_on, is_child_of, is_in, is_open_child, span_without_hold, parent_to_release, no_span, parent_on, span_at, times_in, with_entries, with_hold, with_hold_of_child, without_hold, without_last}
pub use Rattle.trace_base.specs.layers.Hooks.{KnownSpans, one_if}
pub use Rattle.span_registry.specs.Firsts.{firsts_from, firsts_of}
pub use Rattle.span_registry.specs.Registering.{RegistryValue, StandsAt, no_lane, no_spans}
pub use Rattle.span_registry.specs.Stepping.{in_step_start, left_at_close}
pub use Rattle.span_registry.specs.Tabling.{IsSlotTable, SlotTableValue, SlotValue, is_live, live_span_count, no_slot, place_in, slot_table_value, slot_value_at, span_in, span_in_slot, spans_to}
