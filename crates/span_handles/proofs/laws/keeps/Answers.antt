-- By the trait's laws.
use Rattle.span_handles.proofs.KnownHandlesLemmas.{handles_call, handles_same, gains_call, others_chain, loses_chain}
use Rattle.span_handles.proofs.laws.keeps.Goals as goal

pub returns-clause-call : goal.returns-clause-call
returns-clause-call g c = handles_call g.S.Subscriber.spans g.S.Subscriber.does g.met.S.Subscriber.sound g.met.S.Subscriber.allowed g.met.S.Subscriber.shows

pub returns-clause-copy : goal.returns-clause-copy
returns-clause-copy g c = gains_call g.S.Subscriber.spans g.S.Subscriber.does g.met.S.Subscriber.sound g.met.S.Subscriber.allowed g.met.S.Subscriber.shows

pub returns-clause-same : goal.returns-clause-same
returns-clause-same g c = λ old new dispatch. handles_same g.S.Subscriber.spans g.S.Subscriber.same_but_room g.met.S.Subscriber.same_spans old new dispatch

pub returns-clause-chain : goal.returns-clause-chain
returns-clause-chain g c = λ old new dispatch at id. others_chain g.S.Subscriber.spans g.S.Subscriber.does g.met.S.Subscriber.allowed g.met.S.Subscriber.shows old new dispatch at id

pub returns-clause-fewer : goal.returns-clause-fewer
returns-clause-fewer g c = λ old new dispatch at id. loses_chain g.S.Subscriber.spans g.S.Subscriber.does g.met.S.Subscriber.allowed g.met.S.Subscriber.shows old new dispatch at id
