-- What is run on a pipeline that was just opened: its outcome, and a reply to each request that was served.
use Rattle.trace_pipeline.proofs.Common.{setup_by, opened_outcome, opened_replies}
use Rattle.trace_pipeline.proofs.pipeline.Pipeline.run.Goals as goal

pub returns-clause-ok : goal.returns-clause-ok
returns-clause-ok c = opened_outcome c.in_ok-pipeline.pipeline (setup_by c.args.settings) c.args.requests c.run_all-outcome.result c.map_err.result _ c.in_ok-pipeline.ensures.setup c.in_ok-pipeline.ensures.stands c.in_ok-pipeline.ensures.records c.run_all-outcome.ensures.ok c.map_err.ensures.cases c.map_err.ensures.variant

pub returns-clause-replies : goal.returns-clause-replies
returns-clause-replies c = opened_replies c.in_ok-pipeline.pipeline _ _ c.run_all-outcome.result c.map_err.result _ c.in_ok-pipeline.ensures.setup c.in_ok-pipeline.ensures.stands c.in_ok-pipeline.ensures.records c.run_all-outcome.ensures.ok c.map_err.ensures.cases c.map_err.ensures.variant
