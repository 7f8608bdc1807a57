use Rattle.trace_stream.proofs.ProgressLemmas.{last_left, last_broken}
use Rattle.trace_stream.proofs.progress.Progress.finish.Goals as goal

pub returns-in_default-clause-ends : goal.returns-in_default-clause-ends
returns-in_default-clause-ends g c before front m = last_left c.args.signal before _ front c.args.self.now m

pub returns-in_default-flush-clause-ends : goal.returns-in_default-flush-clause-ends
returns-in_default-flush-clause-ends g c before front m =
    last_broken c.args.signal c.in-Ok.accepted before _ _ m.put front _ m.puts (c.in-Ok.ensures m.put front m.keeps) c.in_default-flush.ensures.err
