-- By what the call is to the registry with its layer, to the filter, to the measures, and to the interests.
use Rattle.std.proofs.Common.{None, List, [], ◌++◌, sym, ap, ◌∙◌}
use Rattle.span_stack.proofs.Common.{no_recording, Measure, no_spans, RecordsCallBy, waiting_measures, measures_of_call, inner_worlds}
use Rattle.span_stack.proofs.hooks.CountersLemmas.{base_spans, base_recorded, base_counter, base_records, counter_kept}
use Rattle.span_stack.proofs.worlds.ViewsLemmas.{seen_below, seen_two, along_four, read_step, kept_place}
use Rattle.span_stack.proofs.laws.calls.Goals as goal

pub returns : goal.returns
returns c = record {
  recording = λ old new dispatch call r.
      along_four (λ f x before later. RecordsCallBy f x before call later) (seen_two base_counter None old dispatch) (seen_two base_spans no_spans old dispatch) (seen_two base_recorded no_recording old dispatch) (seen_two base_recorded no_recording new dispatch)
      (read_step (λ f x before later. RecordsCallBy f x before call later) base_counter None base_spans no_spans base_recorded no_recording (λ s t d. base_records s call t d) (inner_worlds (inner_worlds old)) (inner_worlds (inner_worlds new)) dispatch
      (c.of_stack.ensures.calls old new dispatch call r).inner);
  filter = λ old new dispatch call r. (c.of_stack.ensures.calls old new dispatch call r).filter;
  counting_filter = λ old new dispatch call r. sym (seen_two base_counter None new dispatch)
      ∙ kept_place base_counter None (λ s t d. counter_kept s call t d) (inner_worlds (inner_worlds old)) (inner_worlds (inner_worlds new)) dispatch (c.of_stack.ensures.calls old new dispatch call r).inner
      ∙ seen_two base_counter None old dispatch;
  measures = λ old new dispatch call r. sym (seen_below waiting_measures [] new dispatch)
      ∙ (c.of_stack.ensures.calls old new dispatch call r).measures
      ∙ ap (λ (ms : List Measure). ms ++ measures_of_call call) (seen_below waiting_measures [] old dispatch);
  current = λ old new dispatch call r. (c.of_stack.ensures.calls old new dispatch call r).fresh;
}
