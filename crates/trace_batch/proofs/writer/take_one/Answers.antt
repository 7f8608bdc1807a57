-- What is taken out joins what was taken.
use Rattle.crossbeam_queue.specs.Passes.{view}
use Rattle.trace_batch.specs.Rule.{lane_count_of}
use Rattle.trace_batch.proofs.Steps.{takes, learns}
use Rattle.trace_batch.proofs.writer.take_one.Goals as goal

pub pop_as-requires-clause-rule : goal.pop_as-requires-clause-rule
pop_as-requires-clause-rule g c =
    let s = c.requires.serving in
    let n = lane_count_of (view c.args.writer.now.pass) in
    (takes _ _ n s.known s.got s.knows, learns _ _ n s.known s.got s.knows)
