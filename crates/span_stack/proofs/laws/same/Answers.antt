-- By what spare room is to the registry with its layer, to the filter, to the measures, and to the interests.
use Rattle.std.proofs.Common.{None, [], sym, ◌∙◌}
use Rattle.span_stack.proofs.Common.{no_recording, waiting_measures, inner_worlds}
use Rattle.span_stack.proofs.hooks.CountersLemmas.{base_recorded, base_counter, base_same, counter_same}
use Rattle.span_stack.proofs.worlds.ViewsLemmas.{seen_below, seen_two, kept_place}
use Rattle.span_stack.proofs.laws.same.Goals as goal

pub returns : goal.returns
returns c = record {
  recording = λ old new dispatch r. sym (seen_two base_recorded no_recording new dispatch)
      ∙ kept_place base_recorded no_recording base_same (inner_worlds (inner_worlds old)) (inner_worlds (inner_worlds new)) dispatch (c.of_stack.ensures.same old new dispatch r).inner
      ∙ seen_two base_recorded no_recording old dispatch;
  filter = λ old new dispatch r. (c.of_stack.ensures.same old new dispatch r).filter;
  counting_filter = λ old new dispatch r. sym (seen_two base_counter None new dispatch)
      ∙ kept_place base_counter None counter_same (inner_worlds (inner_worlds old)) (inner_worlds (inner_worlds new)) dispatch (c.of_stack.ensures.same old new dispatch r).inner
      ∙ seen_two base_counter None old dispatch;
  measures = λ old new dispatch r. sym (seen_below waiting_measures [] new dispatch) ∙ (c.of_stack.ensures.same old new dispatch r).measures ∙ seen_below waiting_measures [] old dispatch;
  current = λ old new dispatch r. (c.of_stack.ensures.same old new dispatch r).fresh;
}
