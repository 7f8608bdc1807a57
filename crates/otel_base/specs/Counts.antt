-- How the counts of the tracers go with each call: that a recorder and a tracer that keeps nothing keep the law of tracers.
use Rattle.std.proofs.Common.{ℕ, arith, ap, refl}
use Rattle.otel_base.specs.Tracer.{TracerCall, Start, Reserve, Finish, CountsSpares, CountsStarts}
use Rattle.otel_base.specs.Recorder.{RecorderValue, DoesRecorder}
use Rattle.otel_base.specs.Noop.{DoesNoop}

pub recorder_counts : (s : RecorderValue) (call : TracerCall) (t : RecorderValue) → DoesRecorder s call t → CountsSpares s.spare call t.spare × CountsStarts s.started call t.started
recorder_counts s (Start parent given) t did =
    let started = ap (λ (r : RecorderValue). r.started) did.1 in
    let spare = ap (λ (r : RecorderValue). r.spare) did.1 in
    (omega (arith, spare), omega (arith, started))
recorder_counts s Reserve t did = (ap (λ (r : RecorderValue). r.spare) did, ap (λ (r : RecorderValue). r.started) did)
recorder_counts s (Finish span) t did =
    let spare = ap (λ (r : RecorderValue). r.spare) did.1 in
    (omega (arith, did.0, spare), ap (λ (r : RecorderValue). r.started) did.1)

pub noop_counts : (s : ℕ) (call : TracerCall) (t : ℕ) → DoesNoop s call t → CountsSpares s call t × CountsStarts 0 call 0
noop_counts s (Start parent given) t did = (omega (arith, did.1), omega arith)
noop_counts s Reserve t did = (did, refl)
noop_counts s (Finish span) t did = (did, refl)
