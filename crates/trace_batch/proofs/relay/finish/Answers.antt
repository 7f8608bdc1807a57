-- All is taken out, so what was taken and what was served late is a merge.
use Rattle.trace_batch.proofs.SettledLemmas.{all_merged}
use Rattle.trace_batch.proofs.relay.finish.Goals as goal

pub returns : goal.returns
returns g c =
    all_merged g.F.Finished.text c.args.lists.now c.args.writer c.take_all.new.writer c.taken_and_late.result c.requires.serving
    c.take_all.ensures.lanes c.take_all.ensures.serving c.take_all.ensures.empty c.taken_and_late.ensures
