use Rattle.std.proofs.Common.{◌∙◌}
use Rattle.trace_run.proofs.Common.{TellsBatchesOfLines, accepts_batch, tells_cut}
use Rattle.trace_run.proofs.batch.batch_input.Goals as goal

pub returns-in-Fault : goal.returns-in-Fault
returns-in-Fault g c =
    tells_cut accepts_batch (TellsBatchesOfLines c.args.size) c.args.input.now.end
    _ _ c.args.input.now.bytes.items _ _ c.batch_cut.result
    c.whole_part.ensures c.deref.ensures.value c.min-most.ensures (c.len.ensures ∙ c.args.input.now.bytes.ok.0) c.in-Fault.is (c.batch_cut.ensures c.args.size)
