-- What holds of a command that was carried out, by its status and what is seen of the streams before and now.
use Rattle.std.specs.Prelude.{◌≡◌, ◌≢◌, ◌+◌, ◌≤◌}
use Rattle.trace_stream.specs.Meaning.{Meaning}
use Rattle.trace_stream.specs.Streams.{Streams, CountsFault}
use Rattle.trace_stream.specs.declared.status.Status.{Status}
use Rattle.trace_stream.specs.declared.status.Status.TheVariants as ends

-- A fault is told only where the count of reads or of writes that failed rose.
abbrev pub HasCause : Status → Streams → Streams → Type 0
HasCause ends.ReadFault before now = CountsFault before.read_faults now.read_faults
HasCause ends.WriteFault before now = CountsFault before.write_faults now.write_faults
HasCause ends.Ok before now = Unit {0}
HasCause ends.Usage before now = Unit {0}
HasCause ends.Refused before now = Unit {0}
HasCause ends.Memory before now = Unit {0}
HasCause ends.TooLong before now = Unit {0}

-- Too long an input is told where neither an end nor a fault was met: each read gave a byte at the least.
abbrev pub IsTooLongForCause : Status → Streams → Streams → Type 0
IsTooLongForCause status before now = status ≡ ends.TooLong → (now.ends ≡ before.ends) × (now.read_faults ≡ before.read_faults)

-- what holds whichever command it was
pub record EndsAnyCommand (status : Status) (before now : Streams) : Type 0 where
  pub causes : HasCause status before now
  pub over : IsTooLongForCause status before now
  pub end_once : now.ends ≤ before.ends + 1
  pub usage : status ≢ ends.Usage

-- A command did what it says, and ended for a cause.
pub record CarriesOut (meaning : Meaning) (status : Status) (before now : Streams) : Type 0 where
  pub does : meaning.Does status before now
  pub ended : EndsAnyCommand status before now

-- A fault that is told was the first one: of the source where a read failed, of the sink where a write failed.
pub record StopsAtFault (status : Status) (Reading Writing : Type 0) : Type 0 where
  pub source : status ≡ ends.ReadFault → Reading
  pub sink : status ≡ ends.WriteFault → Writing
