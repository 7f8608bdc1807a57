-- The parts but for the layer of metrics stay.
use Rattle.std.proofs.Common.{ap, None}
use Rattle.std.specs.Option.{option_map}
use Rattle.span_stack.proofs.Common.{no_recording, Layer, FilterWithRoom, plain_filter, stack_recording, stack_counting_filter, filter_in_place, stack_interest, interest_over}
use Rattle.span_stack.proofs.hooks.CountersLemmas.{Base, base_recorded, base_counter}
use Rattle.span_stack.proofs.worlds.FreshInterestsLemmas.{fresh_later}
use Rattle.span_stack.proofs.worlds.ViewsLemmas.{kept_place}
use Rattle.span_stack.proofs.laws.takes_measure.Goals as goal

pub returns-clause-recording : goal.returns-clause-recording
returns-clause-recording c = λ old new dispatch r. kept_place stack_recording no_recording (λ s t h. ap (λ (b : Base). base_recorded b) h.others) old new dispatch r

pub returns-clause-filter : goal.returns-clause-filter
returns-clause-filter c = λ old new dispatch r. kept_place filter_in_place None (λ s t h. ap (λ (l : Layer FilterWithRoom). option_map plain_filter l.inner) h.filter) old new dispatch r

pub returns-clause-counting_filter : goal.returns-clause-counting_filter
returns-clause-counting_filter c = λ old new dispatch r. kept_place stack_counting_filter None (λ s t h. ap (λ (b : Base). base_counter b) h.others) old new dispatch r

pub returns-clause-current : goal.returns-clause-current
returns-clause-current c = λ old new dispatch r. fresh_later stack_interest _ (λ s t h. ap (λ (l : Layer FilterWithRoom). interest_over l) h.filter) old new dispatch r
