use Rattle.trace_stream.proofs.Common.{answering_of_run, Streams, streams_of}
use Rattle.trace_stream.proofs.ReadingLemmas.{reads_lines}
use Rattle.trace_stream.proofs.run.run.Goals as goal

pub run_blocks-status-requires-clause-keeps : goal.run_blocks-status-requires-clause-keeps
run_blocks-status-requires-clause-keeps g c = c.new-progress.ensures.keeps c.args.signal

pub returns-clause-carries : goal.returns-clause-carries
returns-clause-carries g c =
    let before : Streams = streams_of g.R.Source.remaining g.R.Source.ends g.R.Source.faults g.W.Sink.holds g.W.Sink.faults c.args.source.now c.args.sink.now in
    let now : Streams = streams_of g.R.Source.remaining g.R.Source.ends g.R.Source.faults g.W.Sink.holds g.W.Sink.faults c.run_blocks-status.new.source c.run_blocks-status.new.sink in
    let kept = c.run_blocks-status.ensures in
    record {
      does = reads_lines (answering_of_run c.args.signal) c.run_blocks-status.result before now kept.leaves kept.front kept.causes kept.refused kept.met;
      ended = record { causes = kept.causes; over = kept.over; end_once = kept.end_once; usage = kept.usage };
    }
