-- What a change of a stack comes to, whichever subscriber lies below its outer layers.
use Rattle.std.specs.Prelude.{◌≡◌, ℕ, List, Option}
use Rattle.trace_base.specs.declared.callsite.Callsite.{Callsite}
use Rattle.trace_base.specs.declared.subscriber.Interest.{Interest}
use Rattle.trace_base.specs.Gate.{WorldValue, IsFresh}
use Rattle.span_handles.specs.Worlds.{Replaced}
use Rattle.otel_layer.specs.Parts.{PartCall}
use Rattle.otel_metrics.specs.declared.measure.Measure.{Measure}
use Rattle.env_filter.specs.Filtering.{FilterState}
use Rattle.span_stack.specs.Measured.{measures_over}
use Rattle.span_stack.specs.Reading.{StackOver, filter_in}
use Rattle.span_stack.specs.Through.{inner_worlds}

-- a step below the outer layers, one of the filter in place, and what becomes of the measures; the cached interests stay
pub record StepsWithOuter {S : Type 0} (does : S → S → Type 0) (filters : Option FilterState → Option FilterState → Type 0) (measured : List Measure → List Measure) (interest : StackOver S → Callsite → Interest) (old new : WorldValue (StackOver S)) (dispatch : ℕ) : Type 0 where
  pub inner : Replaced does (inner_worlds (inner_worlds old)) (inner_worlds (inner_worlds new)) dispatch
  pub filter : filters (filter_in old dispatch) (filter_in new dispatch)
  pub measures : measures_over (inner_worlds new) dispatch ≡ measured (measures_over (inner_worlds old) dispatch)
  pub fresh : IsFresh interest old → IsFresh interest new

-- a call from outside is one below the outer layers, which stay
pub record AsksOuter {S : Type 0} (touches : S → PartCall → S → Type 0) (call : PartCall) (old new : WorldValue (StackOver S)) (dispatch : ℕ) : Type 0 where
  pub inner : Replaced (λ s t. touches s call t) (inner_worlds (inner_worlds old)) (inner_worlds (inner_worlds new)) dispatch
  pub filter : Replaced (λ s t. t.layer ≡ s.layer) old new dispatch
  pub measures : Replaced (λ s t. t.layer ≡ s.layer) (inner_worlds old) (inner_worlds new) dispatch
