-- What calls make of the filter that is in place over a subscriber.
use Rattle.std.specs.Prelude.{◌≡◌, ◌==◌, ℕ, if◌then◌else◌, Option, None, length, fold}
use Rattle.std.specs.Option.{option_map}
use Rattle.trace_base.specs.Spans.{Spans, span_at, entries_on, current_of, parent_on}
use Rattle.trace_base.specs.Calls.{SubscriberCall, NewSpan, Records, Follows, Event, Enter, Exit, CloneSpan, TryClose}
use Rattle.trace_base.specs.layers.Hooks.{OnNewSpan, OnRecord, OnFollows, OnEvent, OnEnter, OnExit}
use Rattle.span_handles.specs.Worlds.{ReleasesChain, closed_in}
use Rattle.env_filter.specs.Filtering.{FilterState, after_hook}
use Rattle.env_filter.specs.spans.Keyed.{put}

-- a span that closed is forgotten
abbrev pub without_span : FilterState → ℕ → FilterState
without_span f id = record f { spans = put f.spans id None }

-- a call is its hook; a release is one where the span closes
abbrev pub filter_after : Spans → SubscriberCall → FilterState → FilterState
filter_after spans (NewSpan lane at parent site callsite values) f = after_hook f (OnNewSpan (length spans.made) lane at parent (current_of (entries_on lane.id spans.lanes)) callsite values)
filter_after spans (Records id at callsite values) f = after_hook f (OnRecord id at callsite values)
filter_after spans (Follows id from at) f = after_hook f (OnFollows id from at)
filter_after spans (Event lane at parent site callsite values) f = after_hook f (OnEvent (parent_on (entries_on lane.id spans.lanes) parent) lane at callsite values)
filter_after spans (Enter id at before later) f = after_hook f (OnEnter id at before later)
filter_after spans (Exit id at before later) f = after_hook f (OnExit id at before later)
filter_after spans (CloneSpan id) f = f
filter_after spans (TryClose id at) f = if (span_at spans.made id).holds == 1 then without_span f id else f

-- a chain of closes: each span that closes is forgotten, in order
pub record FiltersChain (next : Option ℕ) (x y : Spans) (before later : Option FilterState) : Type 0 where
  pub chain : ReleasesChain next x y
  pub is : later ≡ option_map (λ f. fold without_span f (closed_in next x y chain)) before
