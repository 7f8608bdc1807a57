-- By what the chain is to the registry with its layer, to the filter, to the measures, and to the interests.
use Rattle.std.proofs.Common.{None, Some, [], sym, ◌∙◌}
use Rattle.span_stack.proofs.Common.{no_recording, RecordsChain, no_spans, waiting_measures, inner_worlds}
use Rattle.span_stack.proofs.hooks.CountersLemmas.{BaseDoes, base_spans, base_recorded, base_counter, base_chain, counter_kept}
use Rattle.span_stack.proofs.worlds.FreshInterestsLemmas.{chain_keeps}
use Rattle.span_stack.proofs.worlds.ViewsLemmas.{seen_below, seen_two, along_four, kept_place}
use Rattle.span_stack.proofs.laws.chains.Goals as goal

pub returns : goal.returns
returns c = record {
  recording = λ old new dispatch at id r.
      along_four (λ x y before later. RecordsChain at (Some id) x y before later) (seen_two base_spans no_spans old dispatch) (seen_two base_spans no_spans new dispatch) (seen_two base_recorded no_recording old dispatch) (seen_two base_recorded no_recording new dispatch)
      (base_chain at (inner_worlds (inner_worlds old)) (inner_worlds (inner_worlds new)) dispatch id (c.of_stack.ensures.chains old new dispatch at id r).inner);
  filter = λ old new dispatch at id r. (c.of_stack.ensures.chains old new dispatch at id r).filter;
  counting_filter = λ old new dispatch at id r. sym (seen_two base_counter None new dispatch)
      ∙ kept_place base_counter None (λ s t d. chain_keeps base_spans BaseDoes base_counter counter_kept at (Some id) s t d) (inner_worlds (inner_worlds old)) (inner_worlds (inner_worlds new)) dispatch (c.of_stack.ensures.chains old new dispatch at id r).inner
      ∙ seen_two base_counter None old dispatch;
  measures = λ old new dispatch at id r. sym (seen_below waiting_measures [] new dispatch) ∙ (c.of_stack.ensures.chains old new dispatch at id r).measures ∙ seen_below waiting_measures [] old dispatch;
  current = λ old new dispatch at id r. (c.of_stack.ensures.chains old new dispatch at id r).fresh;
}
