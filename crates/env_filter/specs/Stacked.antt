-- What a filter over a subscriber is told by the subscriber's calls.
use Rattle.std.specs.Prelude.{◌≡◌, ℕ, List, [], ◌∷◌, ◌++◌, Option, Some, fold}
use Rattle.std.specs.Option.{option_map}
use Rattle.trace_base.specs.Spans.{Spans}
use Rattle.trace_base.specs.Calls.{SubscriberCall, spans_after_call}
use Rattle.trace_base.specs.layers.Hooks.{Hook}
use Rattle.span_registry.specs.Hearing.{ObservesCall}
use Rattle.env_filter.specs.Filtering.{FilterState, FilterWithRoom, plain_filter, after_hook, span_level}
use Rattle.env_filter.specs.spans.Histories.{AreInOrder, level_by_calls, levels_by_calls}

-- a hook comes behind those before
abbrev pub Appends : List Hook → Hook → List Hook → Type 0
Appends past hook later = later ≡ past ++ hook ∷ []

-- the hook of a call, if it has one, and then those of the calls behind it
pub record HooksFirst (spans : Spans) (call : SubscriberCall) (rest : List Hook → Type 0) (hooks : List Hook) : Type 0 where
  pub first : List Hook
  pub later : List Hook
  pub told : ObservesCall Appends spans [] call first
  pub behind : rest later
  pub all : hooks ≡ first ++ later

-- the hooks of some calls in order; the spans are those before the calls
abbrev pub AreHooksOf : Spans → List SubscriberCall → List Hook → Type 0
AreHooksOf spans [] hooks = hooks ≡ []
AreHooksOf spans (call ∷ calls) hooks = HooksFirst spans call (AreHooksOf (spans_after_call spans call) calls) hooks

-- A filter that had no span is told the hooks of some calls, in which each span is made once, before any other hook of
-- it. So its levels are what these hooks tell.
pub record ObservesCalls (spans : Spans) (calls : List SubscriberCall) (f g : FilterState) : Type 0 where
  pub hooks : List Hook
  pub of_calls : AreHooksOf spans calls hooks
  pub order : AreInOrder [] hooks
  pub now : g ≡ fold after_hook f hooks
  pub level : (id : ℕ) → span_level g id ≡ level_by_calls f.dynamics.directives id hooks
  pub levels : (lane : ℕ) → g.lanes lane ≡ levels_by_calls f.dynamics.directives lane hooks

-- the same of a filter that can be exchanged, and is in place
pub record ObservesInPlace (spans : Spans) (calls : List SubscriberCall) (f : FilterState) (later : Option FilterWithRoom) : Type 0 where
  pub filter : FilterState
  pub in_place : option_map plain_filter later ≡ Some filter
  pub heard : ObservesCalls spans calls f filter
