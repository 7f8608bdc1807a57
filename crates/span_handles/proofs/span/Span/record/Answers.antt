-- Where there is no memory for the value, nothing was called.
use Rattle.span_handles.proofs.Untouched.{untouched, on_err}
use Rattle.span_handles.proofs.span.Span.record.Goals as goal

pub returns-in_err-push-in-Some-held-clause-memory_leaves : goal.returns-in_err-push-in-Some-held-clause-memory_leaves
returns-in_err-push-in-Some-held-clause-memory_leaves g c = on_err _ _ (untouched g.S.Subscriber.spans g.S.Subscriber.same_but_room g.met.S.Subscriber.same_refl c.args.world.now c.args.self.now.held c.requires.known)
