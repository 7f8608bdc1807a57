-- A request is served, and its records are written.
use Rattle.task_runs.proofs.WritingLemmas.{runs}
use Rattle.task_runs.proofs.runner.RunnerRequestSink.push.Goals as goal

pub returns : goal.returns
returns c =
    runs c.args.request c.args.self.now.pipeline c.step.new.self c.take_records.new.pipeline c.args.self.now.lines c.take_records.new.self c.in-Ok.field-0 c.take_records.result c.in-Ok.ensures.ok
    c.take_records.ensures.lines c.take_records.ensures.count c.take_records.ensures.taken c.take_records.ensures.state
