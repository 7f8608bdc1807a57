-- What the taking of a record leaves of a layer.
use Rattle.std.proofs.Common.{◌≡◌, ap, drop}
use Rattle.span_stack.proofs.Common.{IsWholeCore, Recording, without_record, SubscriberStack, stack_recording, stack_counting_filter, without_oldest_record}
use Rattle.span_stack.proofs.hooks.CountersLemmas.{Layers}

abbrev pub one_less : Recording → Recording → Type 0
one_less before later = later ≡ record before { finished = drop 1 before.finished }

pub taken_recorded : (s t : SubscriberStack) → t ≡ without_oldest_record s → one_less (stack_recording s) (stack_recording t)
taken_recorded s t e = ap stack_recording e

pub taken_counts_by : (s t : SubscriberStack) → t ≡ without_oldest_record s → stack_counting_filter t ≡ stack_counting_filter s
taken_counts_by s t e = ap stack_counting_filter e

pub whole_left : (l : Layers) → IsWholeCore (λ r. r.spare) (λ r. r.started) l.inner.core → IsWholeCore (λ r. r.spare) (λ r. r.started) (without_record l).inner.core
whole_left l w = record { spares = w.spares; rooms = w.rooms; budget = w.budget; few = w.few }
