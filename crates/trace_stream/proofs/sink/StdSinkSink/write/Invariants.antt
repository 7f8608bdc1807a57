use Rattle.std.proofs.Common.{◌≡◌, []}
use Rattle.trace_stream.proofs.Common.{Puts}
use Rattle.trace_stream.proofs.sink.StdSinkSink.write.Given as goal

abbrev pub invariant-loop : goal.invariant-loop
invariant-loop g l = record {
  faults : l.self.faults ≡ l.fn.self.faults;
  told : Puts (g.W.Write.contents l.fn.self.writer) (g.W.Write.contents l.self.writer) [];
}
