use Rattle.std.proofs.Common.{refl}
use Rattle.trace_run.proofs.Common.{Streams, streams_of}
use Rattle.trace_run.proofs.SumsLemmas.{carries_made}
use Rattle.trace_run.proofs.RenamesLemmas.{renames_ids}
use Rattle.trace_run.proofs.script.run_script.Goals as goal

pub returns-in-Make-clause-carries : goal.returns-in-Make-clause-carries
returns-in-Make-clause-carries g c =
    let before : Streams = streams_of g.R.Source.remaining g.R.Source.ends g.R.Source.faults g.W.Sink.holds g.W.Sink.faults c.args.source.now c.args.sink.now in
    let now : Streams = streams_of g.R.Source.remaining g.R.Source.ends g.R.Source.faults g.W.Sink.holds g.W.Sink.faults c.args.source.now c.make.new.sink in
    rw c.in-Make.is
    (carries_made c.in-Make.rounds c.make.result before now c.make.ensures.leaves c.make.ensures.complete c.make.ensures.cause refl refl)

pub returns-in-Run-clause-renames : goal.returns-in-Run-clause-renames
returns-in-Run-clause-renames g c =
    let before : Streams = streams_of g.R.Source.remaining g.R.Source.ends g.R.Source.faults g.W.Sink.holds g.W.Sink.faults c.args.source.now c.args.sink.now in
    let now : Streams = streams_of g.R.Source.remaining g.R.Source.ends g.R.Source.faults g.W.Sink.holds g.W.Sink.faults c.run.new.source c.run.new.sink in
    rw c.in-Run.is (renames_ids c.in-Run.signal c.run.result before now c.run.ensures.carries)
