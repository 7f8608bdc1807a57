-- A tracer that counts keeps the law of tracers, as the recorder inside does.
use Rattle.otel_base.specs.Tracer.{TracerCall, CountsSpares, CountsStarts}
use Rattle.otel_base.specs.Counts.{recorder_counts}
use Rattle.explain_stack.specs.declared.stack.tally.Tally.{Tally}
use Rattle.explain_stack.specs.Tallies.{Tallies}

pub tally_counts : (s : Tally) (call : TracerCall) (t : Tally) → Tallies s call t → CountsSpares s.recorder.spare call t.recorder.spare × CountsStarts s.recorder.started call t.recorder.started
tally_counts s call t did = recorder_counts s.recorder call t.recorder did.recorder_does
