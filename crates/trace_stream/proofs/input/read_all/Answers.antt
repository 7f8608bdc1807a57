use Rattle.trace_stream.proofs.input.read_all.Goals as goal

pub returns-in-Err-clause-stops : goal.returns-in-Err-clause-stops
returns-in-Err-clause-stops g c = λ fault. (c.loop-block.source, c.loop-block.invariant.sure, c.in-Err.ensures.kept)
