-- What the calls of a tracer make of one that counts them.
use Rattle.std.specs.Prelude.{◌≡◌, ℕ, ◌+◌, ◌-◌, ◌^◌, min}
use Rattle.otel_base.specs.Tracer.{TracerCall, Start, Reserve, Finish}
use Rattle.otel_base.specs.Recorder.{DoesRecorder}
use Rattle.explain_stack.specs.declared.stack.tally.Tally.{Tally}

-- one more, up to the greatest number of 64 bits
abbrev pub one_more : ℕ → ℕ
one_more count = min (count + 1) (2 ^ 64 - 1)

abbrev pub reserved_after : TracerCall → ℕ → ℕ
reserved_after (Start parent given) count = count
reserved_after Reserve count = one_more count
reserved_after (Finish span) count = count

abbrev pub finished_after : TracerCall → ℕ → ℕ
finished_after (Start parent given) count = count
finished_after Reserve count = count
finished_after (Finish span) count = one_more count

-- what it makes of a recorder, and the counts; whether they are told stays
pub record Tallies (old : Tally) (call : TracerCall) (new : Tally) : Type 0 where
  pub recorder_does : DoesRecorder old.recorder call new.recorder
  pub same_telling : new.tells_counts ≡ old.tells_counts
  pub reserved : new.reserved ≡ reserved_after call old.reserved
  pub finished : new.finished ≡ finished_after call old.finished
