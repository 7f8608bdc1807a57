use Rattle.thread_run.proofs.MakingLemmas.{are_firsts}
use Rattle.thread_run.proofs.FitsLemmas.{fit_where}
use Rattle.thread_run.proofs.run.run_gated.Goals as goal

pub work-requires-clause-spans : goal.work-requires-clause-spans
work-requires-clause-spans g c κs within = are_firsts c.args.script c.in_ok-handles.handles.items c.requires.script c.in_ok-handles.ensures

pub returns : goal.returns
returns g c = fit_where c.args.script c.in_ok-handles.handles c.work.result c.in_ok-handles.ensures c.work.ensures.len c.work.ensures.ended
