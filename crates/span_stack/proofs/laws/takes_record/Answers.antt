-- A record is all that is gone.
use Rattle.std.proofs.Common.{refl, ap, None}
use Rattle.span_stack.proofs.Common.{no_recording, stack_recording, stack_counting_filter, stack_interest, without_oldest_record}
use Rattle.span_stack.proofs.worlds.FreshInterestsLemmas.{fresh_later}
use Rattle.span_stack.proofs.hooks.TakenRecordsLemmas.{one_less, taken_recorded, taken_counts_by, whole_left}
use Rattle.span_stack.proofs.worlds.ViewsLemmas.{leave_alike, kept_place, read_two}
use Rattle.span_stack.proofs.laws.takes_record.Goals as goal

pub returns-clause-recording : goal.returns-clause-recording
returns-clause-recording c = λ old new dispatch r. read_two one_less stack_recording no_recording taken_recorded old new dispatch r

pub returns-clause-counting_filter : goal.returns-clause-counting_filter
returns-clause-counting_filter c = λ old new dispatch r. kept_place stack_counting_filter None taken_counts_by old new dispatch r

pub returns-clause-current : goal.returns-clause-current
returns-clause-current c = λ old new dispatch r. fresh_later stack_interest _ (λ s t e. ap stack_interest e) old new dispatch r

pub returns-clause-others : goal.returns-clause-others
returns-clause-others c = λ old new dispatch r. leave_alike _ _ _ _ without_oldest_record (λ s. refl) (λ s. refl) (λ s. refl)
    (λ s w. record {
      inner = record {
        inner = record {
          inner = w.inner.inner.inner;
          outer = whole_left s.inner.inner.layer w.inner.inner.outer;
          in_step = w.inner.inner.in_step;
          one_attaches = w.inner.inner.one_attaches;
        };
        outer = w.inner.outer;
        in_step = w.inner.in_step;
        one_attaches = refl;
      };
      outer = w.outer;
      in_step = w.in_step;
      one_attaches = w.one_attaches;
    }) old new dispatch r
