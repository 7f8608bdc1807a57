-- One request more is served.
use Rattle.std.proofs.Common.{rules}
use Rattle.trace_pipeline.proofs.Common.{reached_next}
use Rattle.trace_pipeline.proofs.pipeline.Pipeline.serve.Goals as goal

pub loop-request-preserved : goal.loop-request-preserved
loop-request-preserved c = λ stands none empty. reached_next _ _ _ _ c.in-Some.request c.loop-request.self c.step.new.self _ _ c.in-Ok.reply (search rules) (search rules) c.in-Ok.ensures.ok (c.loop-request.invariant stands none empty)
