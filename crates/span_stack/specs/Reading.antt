-- What is read of a stack, and of worlds whose subscribers are stacks.
use Rattle.std.specs.Prelude.{◌≡◌, ℕ, Bool, List, [], drop, Option, None}
use Rattle.std.specs.Option.{option_map}
use Rattle.trace_base.specs.declared.callsite.Callsite.{Callsite}
use Rattle.trace_base.specs.declared.subscriber.Interest.{Interest}
use Rattle.trace_base.specs.declared.subscriber.Interest.TheVariants as interests
use Rattle.trace_base.specs.Gate.{WorldValue, IsFresh}
use Rattle.span_registry.specs.declared.layered.Layered.{Layered}
use Rattle.span_registry.specs.Registering.{RegistryValue}
use Rattle.span_registry.specs.Both.{joint_interest}
use Rattle.span_handles.specs.Worlds.{read_subscriber}
use Rattle.otel_base.specs.Recorder.{RecorderValue}
use Rattle.otel_layer.specs.Recording.{Recording, no_recording, recording_of}
use Rattle.otel_layer.specs.declared.counting.FilteredOpenTelemetryLayer.{FilteredOpenTelemetryLayer}
use Rattle.env_filter.specs.declared.reload.Layer.{Layer}
use Rattle.env_filter.specs.Filtering.{FilterState, FilterWithRoom, plain_filter, interest_in}
use Rattle.env_filter.specs.Reloading.{layer_or, sometimes}
use Rattle.otel_metrics.specs.declared.measure.Measure.{Measure}
use Rattle.otel_metrics.specs.Waiting.{MeasuresWithRoom}
use Rattle.otel_state.specs.declared.settings.LayerSettings.{LayerSettings}
use Rattle.span_stack.specs.Measured.{waiting_measures}

-- over any subscriber, the layer of metrics and the filter that is in place
abbrev pub StackOver : Type 0 → Type 0
StackOver S = Layered (Layer FilterWithRoom) (Layered MeasuresWithRoom S)

-- a stack: these, over the OpenTelemetry layer that may count events, and the registry
abbrev pub SubscriberStack : Type 0
SubscriberStack = StackOver (Layered (FilteredOpenTelemetryLayer RecorderValue FilterWithRoom) RegistryValue)

abbrev pub StackWorld : Type 0
StackWorld = WorldValue SubscriberStack

-- what the OpenTelemetry layer keeps
abbrev pub stack_recording : SubscriberStack → Recording
stack_recording s = recording_of s.inner.inner.layer.inner.core

abbrev pub recording_in : StackWorld → ℕ → Recording
recording_in world dispatch = read_subscriber stack_recording no_recording world dispatch

-- the filter in place over any subscriber, if it wasn't retired
abbrev pub filter_in_place : {S : Type 0} → Layered (Layer FilterWithRoom) S → Option FilterState
filter_in_place s = option_map plain_filter s.layer.inner

abbrev pub filter_in : {S : Type 0} → WorldValue (Layered (Layer FilterWithRoom) S) → ℕ → Option FilterState
filter_in world dispatch = read_subscriber filter_in_place None world dispatch

-- The cached interests are those of the filters that are in place; what lies below a filter is interested in everything.
abbrev pub interest_over : Layer FilterWithRoom → Callsite → Interest
interest_over l = λ c. joint_interest (layer_or sometimes (λ f. interest_in (plain_filter f)) l.inner c) interests.Always

abbrev pub stack_interest : SubscriberStack → Callsite → Interest
stack_interest s = interest_over s.layer

abbrev pub HasCurrentInterests : StackWorld → Type 0
HasCurrentInterests world = IsFresh stack_interest world

-- the filter that counts events, if they are counted
abbrev pub stack_counting_filter : SubscriberStack → Option FilterState
stack_counting_filter s = option_map plain_filter s.inner.inner.layer.filter

abbrev pub counting_filter_in : StackWorld → ℕ → Option FilterState
counting_filter_in world dispatch = read_subscriber stack_counting_filter None world dispatch

-- the measures that weren't taken
abbrev pub stack_measures : SubscriberStack → List Measure
stack_measures s = waiting_measures s.inner

abbrev pub measures_in : StackWorld → ℕ → List Measure
measures_in world dispatch = read_subscriber stack_measures [] world dispatch

-- what is recorded by a stack that was just made
abbrev pub new_recording : LayerSettings → Bool → Recording
new_recording settings counting = record { spans = []; tokens = []; started = 0; finished = []; settings = settings; counting = counting }

-- the same layer, and the same stack, without the oldest record
abbrev pub without_record : {F : Type 0} → FilteredOpenTelemetryLayer RecorderValue F → FilteredOpenTelemetryLayer RecorderValue F
without_record l = record l { inner = record l.inner { core = record l.inner.core { tracer = record l.inner.core.tracer { finished = drop 1 l.inner.core.tracer.finished } } } }

abbrev pub without_oldest_record : SubscriberStack → SubscriberStack
without_oldest_record s = record s { inner = record s.inner { inner = record s.inner.inner { layer = without_record s.inner.inner.layer } } }

-- the same but for the oldest measure
pub record WithoutOldestMeasure (s t : SubscriberStack) : Type 0 where
  pub filter : t.layer ≡ s.layer
  pub others : t.inner.inner ≡ s.inner.inner
  pub measures : stack_measures t ≡ drop 1 (stack_measures s)
