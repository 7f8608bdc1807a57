use Rattle.trace_stream.proofs.Common.{Streams, streams_of}
use Rattle.trace_stream.proofs.AllLinesLemmas.{IsRead, carries_whole, carries_broken, stops_of}
use Rattle.trace_stream.proofs.all_lines.answer_all.Goals as goal

pub returns-in-Ok-write_all-clause-carries : goal.returns-in-Ok-write_all-clause-carries
returns-in-Ok-write_all-clause-carries g c =
    let read = c.in-Ok.ensures in
    let before : Streams = streams_of g.R.Source.remaining g.R.Source.ends g.R.Source.faults g.W.Sink.holds g.W.Sink.faults c.args.source.now c.args.sink.now in
    let now : Streams = streams_of g.R.Source.remaining g.R.Source.ends g.R.Source.faults g.W.Sink.holds g.W.Sink.faults c.read_all.new.source c.write_all.new.sink in
    let is : IsRead c.in-Ok.input.end before now c.in-Ok.input.bytes.items = record {
      took = read.bytes;
      none = read.whole;
      short = read.short;
      long = read.long;
      fault = read.fault;
      sure = read.sure;
      met = read.met;
      over = read.over;
      end_once = read.end_once;
    } in
    rw c.status_of.ensures
    (carries_whole (g.C.AllLinesCommand.accepts c.args.command.now) (g.C.AllLinesCommand.writes c.args.command.now) c.in-Ok.input.end before now
    c.in-Ok.input.bytes.items c.in-Ok-answer_input.answer is c.in-Ok-answer_input.ensures (rw c.as_slice.ensures.value at c.in-Ok-write_all.ensures.ok))

pub returns-in-Ok-write_all-clause-stops : goal.returns-in-Ok-write_all-clause-stops
returns-in-Ok-write_all-clause-stops g c =
    rw c.status_of.ensures (stops_of c.in-Ok-answer_input.answer.refused c.in-Ok.input.end c.in-Ok.ensures.stops)

pub returns-clause-carries : goal.returns-clause-carries
returns-clause-carries g c =
    let read = c.in-Ok.ensures in
    let before : Streams = streams_of g.R.Source.remaining g.R.Source.ends g.R.Source.faults g.W.Sink.holds g.W.Sink.faults c.args.source.now c.args.sink.now in
    let now : Streams = streams_of g.R.Source.remaining g.R.Source.ends g.R.Source.faults g.W.Sink.holds g.W.Sink.faults c.read_all.new.source c.write_all.new.sink in
    carries_broken (g.C.AllLinesCommand.accepts c.args.command.now) (g.C.AllLinesCommand.writes c.args.command.now) c.in-Ok.input.end before now
    c.in-Ok.input.bytes.items c.in-Ok-answer_input.answer read.bytes read.whole c.in-Ok-answer_input.ensures
    (rw c.as_slice.ensures.value at c.in-Err.ensures.err) c.in-Err.ensures.cause read.end_once
