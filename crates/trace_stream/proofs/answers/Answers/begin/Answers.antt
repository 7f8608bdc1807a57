use Rattle.trace_stream.proofs.answers.Answers.begin.Goals as goal

pub returns : goal.returns
returns c put before count opens next other = rw c.set_stage.ensures (c.in_ok-next.ensures put before count opens next other)
