-- The outer layers have no OpenTelemetry layer, and stay as they are.
use Rattle.std.proofs.Common.{ap, sym, ◌∙◌, None, [], Option}
use Rattle.std.specs.Option.{option_map}
use Rattle.span_stack.proofs.Common.{RecordsPart, no_recording, Layer, FilterWithRoom, plain_filter, MeasuresWithRoom, waiting_measures, filter_in_place, stack_interest, interest_over, inner_worlds}
use Rattle.span_stack.proofs.hooks.CountersLemmas.{plain_counter, base_recorded, base_counter, base_part}
use Rattle.span_stack.proofs.worlds.FreshInterestsLemmas.{fresh_later}
use Rattle.span_stack.proofs.worlds.ViewsLemmas.{seen_below, seen_two, along_two, kept_place, read_two}
use Rattle.span_stack.proofs.laws.asks.Goals as goal

pub returns : goal.returns
returns c = record {
  recording = λ old new dispatch call r.
      along_two (λ before later. RecordsPart before call later) (seen_two base_recorded no_recording old dispatch) (seen_two base_recorded no_recording new dispatch)
      (read_two (λ before later. RecordsPart before call later) base_recorded no_recording (λ s t d. base_part s.layer.inner.core call t.layer.inner.core d.0.0) (inner_worlds (inner_worlds old)) (inner_worlds (inner_worlds new)) dispatch
      (c.of_stack.ensures.asks old new dispatch call r).inner);
  filter = λ old new dispatch call r. kept_place filter_in_place None (λ s t e. ap (λ (l : Layer FilterWithRoom). option_map plain_filter l.inner) e) old new dispatch (c.of_stack.ensures.asks old new dispatch call r).filter;
  counting_filter = λ old new dispatch call r. sym (seen_two base_counter None new dispatch)
      ∙ kept_place base_counter None (λ s t d. ap (λ (o : Option FilterWithRoom). plain_counter o) d.0.1) (inner_worlds (inner_worlds old)) (inner_worlds (inner_worlds new)) dispatch (c.of_stack.ensures.asks old new dispatch call r).inner
      ∙ seen_two base_counter None old dispatch;
  measures = λ old new dispatch call r. sym (seen_below waiting_measures [] new dispatch)
      ∙ kept_place waiting_measures [] (λ s t e. ap (λ (l : MeasuresWithRoom). l.measures) e) (inner_worlds old) (inner_worlds new) dispatch (c.of_stack.ensures.asks old new dispatch call r).measures
      ∙ seen_below waiting_measures [] old dispatch;
  current = λ old new dispatch call r. fresh_later stack_interest _ (λ s t e. ap (λ (l : Layer FilterWithRoom). interest_over l) e) old new dispatch (c.of_stack.ensures.asks old new dispatch call r).filter;
}
