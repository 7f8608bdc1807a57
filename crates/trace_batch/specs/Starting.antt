-- What a sender that was started comes to.
use Rattle.std.specs.Prelude.{◌≡◌}
use Rattle.trace_batch.specs.declared.sender.SenderEnd.{SenderEnd}
use Rattle.trace_batch.specs.declared.start.Started.{Started}
use Rattle.trace_batch.specs.declared.start.Started.TheVariants as started

-- it ends as its thread's promise has it, or it has ended so
abbrev pub EndsAsPromised : {P : Type 0} → (P → SenderEnd → Type 0) → Started P → SenderEnd → Type 0
EndsAsPromised kept_by (started.Runs handle) end = kept_by handle.promise end
EndsAsPromised kept_by (started.Ended ended) end = end ≡ ended
