use Rattle.std.proofs.Common.{Ok, ◌∙◌}
use Rattle.trace_run.proofs.Common.{accepts_threads, TellsThreads, tells_cut}
use Rattle.trace_run.proofs.ThreadsLemmas.{comes_cut}
use Rattle.trace_run.proofs.threads.threads_input.Goals as goal

pub returns-in_ok-answer-in-Fault-clause-tells : goal.returns-in_ok-answer-in-Fault-clause-tells
returns-in_ok-answer-in-Fault-clause-tells g c =
    tells_cut {E = Unit {0}} accepts_threads TellsThreads c.args.input.now.end
    _ _ c.args.input.now.bytes.items _ _ (Ok c.in_ok-answer-in-Fault.answer)
    c.whole_part.ensures c.deref.ensures.value c.min-most.ensures (c.len.ensures ∙ c.args.input.now.bytes.ok.0) c.in-Fault.is c.in_ok-answer-in-Fault.ensures

pub returns-in_ok-answer-in-Fault-clause-ended : goal.returns-in_ok-answer-in-Fault-clause-ended
returns-in_ok-answer-in-Fault-clause-ended g c =
    comes_cut c.args.input.now.end c.args.input.now.bytes.items c.in_ok-answer-in-Fault.answer.text.items c.new-ended.result.items c.in-Fault.is c.new-ended.ensures.items
