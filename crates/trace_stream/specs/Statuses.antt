-- The numbers that a process ends with.
use Rattle.std.specs.Prelude.{ℕ}
use Rattle.trace_stream.specs.declared.status.Status.{Status}
use Rattle.trace_stream.specs.declared.status.Status.TheVariants as ends

-- the number of a status
abbrev pub exit_number : Status → ℕ
exit_number ends.Ok = 0
exit_number ends.Usage = 1
exit_number ends.Refused = 2
exit_number ends.ReadFault = 3
exit_number ends.WriteFault = 4
exit_number ends.Memory = 5
exit_number ends.TooLong = 6
