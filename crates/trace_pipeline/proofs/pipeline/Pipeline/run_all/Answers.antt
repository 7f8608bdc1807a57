-- What was run, as an outcome.
use Rattle.std.proofs.Common.{rules}
use Rattle.trace_pipeline.proofs.Common.{outcome_is}
use Rattle.trace_pipeline.proofs.pipeline.Pipeline.run_all.Goals as goal

pub returns-clause-ok : goal.returns-clause-ok
returns-clause-ok c = λ stands none. outcome_is _ _ _ c.serve.new.self _ _ _ _ _ c.into_vec.ensures c.from.ensures c.in_ok-take_records.ensures c.open_spans-left_open.ensures (c.in_ok-refused.ensures.ok stands none (search rules))
