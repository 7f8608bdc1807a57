-- What the shared spans of a script are made of.
use Rattle.std.specs.Prelude.{◌≡◌, ℕ, ◌+◌, ◌<◌, List, [], length, Option, Some, None, option_map, option_and_then, slice_get, slice_index_or}
use Rattle.otel_base.specs.declared.context.Context.{Context}
use Rattle.otel_base.specs.declared.context.SpanContext.{SpanContext}
use Rattle.otel_base.specs.Stack.{empty_context}
use Rattle.trace_base.specs.declared.field.ValueSet.{ValueSet}
use Rattle.trace_base.specs.declared.lane.Lane.{Lane}
use Rattle.trace_threads.specs.declared.making.Making.{Making}
use Rattle.trace_threads.specs.Handles.{SharedHandle}
use Rattle.trace_threads.specs.Making.{making_of}
use Rattle.trace_threads.specs.Turns.{first_view}
use Rattle.thread_script.specs.declared.script.SharedLine.{SharedLine}
use Rattle.thread_script.specs.declared.script.ThreadScript.{ThreadScript}

-- a lane of an id and a name, without contexts
abbrev pub lane_of : ℕ × Option (List ℕ) → Lane
lane_of l = record { id = l.0; name = l.1; default = None; contexts = record { live = []; room = 0 } }

-- such a lane stands for the first of these
abbrev pub IsFirstLane : List (ℕ × Option (List ℕ)) → Lane → Type 0
IsFirstLane lanes lane = slice_get lanes 0 ≡ Some (lane.id, lane.name)

-- the ids of the shared span at a place
abbrev pub ids_at : ℕ → SpanContext
ids_at place = record { trace = place + 1; span = place + 1 }

abbrev pub no_values : ValueSet
no_values = record { pairs = [] }

-- a shared span is made of its callsite on the first lane, as a root, with no fields
abbrev pub making_on : ThreadScript → ℕ → SharedLine → Option Making
making_on script place l =
    option_and_then (λ c. option_map (λ lane. making_of c (lane_of lane) script.layer l.at (ids_at place) empty_context no_values)
    (slice_get script.lanes 0)) (slice_get script.callsites l.site)

-- what the shared span at a place is made of
abbrev pub shared_making : ThreadScript → ℕ → Option Making
shared_making script place = option_and_then (making_on script place) (slice_get script.shared place)

-- ---- handles

-- the first handle of the shared span at a place
pub record IsMadeFor (script : ThreadScript) (place : ℕ) (h : SharedHandle) : Type 0 where
  pub number : h.number ≡ 0
  pub view : h.view ≡ first_view h.view.origin
  pub making : shared_making script place ≡ Some h.view.origin

-- those of the first so many shared spans
abbrev pub AreMadeUpTo : ThreadScript → ℕ → List SharedHandle → Type 0
AreMadeUpTo script n hs = (length hs ≡ n) × ((place : ℕ) (d : SharedHandle) → place < n → IsMadeFor script place (slice_index_or hs place d))

abbrev pub AreMadeFor : ThreadScript → List SharedHandle → Type 0
AreMadeFor script hs = AreMadeUpTo script (length script.shared) hs
