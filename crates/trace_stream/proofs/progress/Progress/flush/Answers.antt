use Rattle.std.proofs.Common.{refl}
use Rattle.trace_stream.proofs.ProgressLemmas.{midway_put, broken_front}
use Rattle.trace_stream.proofs.progress.Progress.flush.Goals as goal

pub returns-in-Ok-clause-midway : goal.returns-in-Ok-clause-midway
returns-in-Ok-clause-midway g c signal before front m =
    midway_put signal before _ _ front c.args.self.now _ m c.in-Ok.ensures.ok refl refl c.flush.ensures.told c.in-Ok.ensures.empty refl

pub returns-in-Err-clause-midway : goal.returns-in-Err-clause-midway
returns-in-Err-clause-midway g c signal before front m = broken_front signal before _ _ front c.args.self.now m c.in-Err.ensures.err
