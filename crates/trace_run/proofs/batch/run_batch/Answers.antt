use Rattle.trace_run.proofs.Common.{TellsBatchesOfLines, accepts_batch, Streams, streams_of, IsRead, carries_whole, carries_broken, stops_of}
use Rattle.trace_run.proofs.batch.run_batch.Goals as goal

pub returns-in-Ok-write_all-clause-carries : goal.returns-in-Ok-write_all-clause-carries
returns-in-Ok-write_all-clause-carries g c =
    let read = c.in-Ok.ensures in
    let before : Streams = streams_of g.R.Source.remaining g.R.Source.ends g.R.Source.faults g.W.Sink.holds g.W.Sink.faults c.args.source.now c.args.sink.now in
    let now : Streams = streams_of g.R.Source.remaining g.R.Source.ends g.R.Source.faults g.W.Sink.holds g.W.Sink.faults c.read_all.new.source c.write_all.new.sink in
    let is : IsRead c.in-Ok.input.end before now c.in-Ok.input.bytes.items = record {
      took = read.bytes;
      none = read.whole;
      short = read.short;
      long = read.long;
      fault = read.fault;
      sure = read.sure;
      met = read.met;
      over = read.over;
      end_once = read.end_once;
    } in
    let did = carries_whole accepts_batch (TellsBatchesOfLines c.args.size) c.in-Ok.input.end before now
    c.in-Ok.input.bytes.items c.in-Ok-batch_input.answer is c.in-Ok-batch_input.ensures (rw c.as_slice.ensures.value at c.in-Ok-write_all.ensures.ok) in
    rw c.status_of.ensures (record { does = did.does; ended = did.ended })

pub returns-in-Ok-write_all-clause-stops : goal.returns-in-Ok-write_all-clause-stops
returns-in-Ok-write_all-clause-stops g c =
    rw c.status_of.ensures (stops_of c.in-Ok-batch_input.answer.refused c.in-Ok.input.end c.in-Ok.ensures.stops)

pub returns-clause-carries : goal.returns-clause-carries
returns-clause-carries g c =
    let read = c.in-Ok.ensures in
    let before : Streams = streams_of g.R.Source.remaining g.R.Source.ends g.R.Source.faults g.W.Sink.holds g.W.Sink.faults c.args.source.now c.args.sink.now in
    let now : Streams = streams_of g.R.Source.remaining g.R.Source.ends g.R.Source.faults g.W.Sink.holds g.W.Sink.faults c.read_all.new.source c.write_all.new.sink in
    let did = carries_broken accepts_batch (TellsBatchesOfLines c.args.size) c.in-Ok.input.end before now
    c.in-Ok.input.bytes.items c.in-Ok-batch_input.answer read.bytes read.whole c.in-Ok-batch_input.ensures
    (rw c.as_slice.ensures.value at c.in-Err.ensures.err) c.in-Err.ensures.cause read.end_once in
    record { does = did.does; ended = did.ended }
