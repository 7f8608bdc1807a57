use Rattle.std.proofs.Common.{subst, IfSome}
use Rattle.trace_run.proofs.Common.{lines_of, Refuses, accepts_threads, TellsThreads}
use Rattle.trace_run.proofs.threads.threads_cut.Goals as goal

pub returns-in-Some : goal.returns-in-Some
returns-in-Some c = subst (λ o. IfSome o (λ t. Refuses accepts_threads TellsThreads (lines_of c.args.part.now) t.items)) c.in-Some.is c.in_ok-text.ensures.some

pub returns-in-None : goal.returns-in-None
returns-in-None c = (c.in_ok-text.ensures.none c.in-None.is, c.new.ensures.items)
