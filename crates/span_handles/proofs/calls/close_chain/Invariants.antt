-- What was released so far leads to what is released from here on.
use Rattle.std.proofs.Common.{◌+◌}
use Rattle.span_handles.proofs.Common.{option_map_or}
use Rattle.span_handles.proofs.ChainLemmas.{Releases}
use Rattle.span_handles.proofs.calls.close_chain.Given as goal

abbrev pub invariant-loop-next : goal.invariant-loop-next
invariant-loop-next g l = Releases g.S.Subscriber.spans g.S.Subscriber.does g.S.Subscriber.is_whole l.fn.at l.fn.id l.fn.subscriber l.subscriber l.next

abbrev pub decreases-loop-next : goal.decreases-loop-next
decreases-loop-next g l = option_map_or (λ p. p + 1) l.next 0
