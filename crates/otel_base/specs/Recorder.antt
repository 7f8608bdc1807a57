-- What a recorder has, and what each call makes of it.
use Rattle.std.specs.Prelude.{◌≡◌, ℕ, ◌+◌, ◌-◌, ◌<◌, List, [], ◌∷◌, ◌++◌}
use Rattle.otel_base.specs.declared.record.Record.{Record}
use Rattle.otel_base.specs.RecorderIds.{recorder_ids}
use Rattle.otel_base.specs.Tracer.{TracerCall, Start, Reserve, Finish}

-- how many spans were started, how many finishes have their room, and the finished spans that weren't taken, the oldest first
pub record RecorderValue : Type 0 where
  pub started : ℕ
  pub spare : ℕ
  pub finished : List Record

-- what a call makes of a recorder: a start gives the ids of the next number, a reserve adds a spare, a finish needs one, uses it and adds its span at the end
abbrev pub DoesRecorder : RecorderValue → TracerCall → RecorderValue → Type 0
DoesRecorder old (Start parent given) new = (given ≡ recorder_ids (old.started + 1) parent) × (new ≡ record old { started = old.started + 1 })
DoesRecorder old Reserve new = new ≡ record old { spare = old.spare + 1 }
DoesRecorder old (Finish span) new = (0 < old.spare) × (new ≡ record old { spare = old.spare - 1; finished = old.finished ++ span ∷ [] })
