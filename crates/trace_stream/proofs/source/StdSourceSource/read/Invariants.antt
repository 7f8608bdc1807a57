use Rattle.std.proofs.Common.{◌≡◌, []}
use Rattle.trace_stream.proofs.Common.{Takes}
use Rattle.trace_stream.proofs.source.StdSourceSource.read.Given as goal

abbrev pub invariant-loop : goal.invariant-loop
invariant-loop g l = record {
  faults : l.self.faults ≡ l.fn.self.faults;
  ends : l.self.ends ≡ l.fn.self.ends;
  told : Takes (g.R.Read.remaining l.fn.self.reader) (g.R.Read.remaining l.self.reader) [];
}
