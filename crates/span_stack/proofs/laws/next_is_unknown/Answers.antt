-- The layer knows spans that were made.
use Rattle.std.proofs.Common.{◌≡◌, None, length, sym}
use Rattle.span_stack.proofs.Common.{Spans, no_spans, Recording, no_recording, data_at, SubscriberStack, stack_recording}
use Rattle.span_stack.proofs.hooks.CountersLemmas.{base_next}
use Rattle.span_stack.proofs.worlds.ViewsLemmas.{see, along_two}
use Rattle.span_stack.proofs.laws.next_is_unknown.Goals as goal

pub returns : goal.returns
returns c = λ world dispatch s there whole.
    along_two (λ (spans : Spans) (recording : Recording). data_at (length spans.made) recording.spans ≡ None)
    (sym (see (λ (p : SubscriberStack). p.inner.inner.inner.spans) no_spans world dispatch s there)) (sym (see stack_recording no_recording world dispatch s there)) (base_next s.inner.inner whole.inner.inner.in_step)
