use Rattle.std.proofs.Common.{subst, Some, IfSome}
use Rattle.trace_run.proofs.Common.{MAX_LANES, lines_of, AreRefused, refuses, TellsBatchesOf}
use Rattle.trace_run.proofs.batch.batch_cut.Goals as goal

pub returns-in-Some : goal.returns-in-Some
returns-in-Some c = λ size.
    refuses (Some MAX_LANES) (TellsBatchesOf size) (lines_of c.args.part.now) _
    (subst (λ o. IfSome o (λ t. AreRefused (Some MAX_LANES) (lines_of c.args.part.now) t.items)) c.in-Some.is c.in_ok-text.ensures.some)

pub returns-in-None : goal.returns-in-None
returns-in-None c = λ size. (c.in_ok-text.ensures.none c.in-None.is, c.new.ensures.items)
