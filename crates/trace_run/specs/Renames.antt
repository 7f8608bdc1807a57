-- What `run` writes where spans start early.
use Rattle.std.specs.Prelude.{◌≡◌, ℕ, List, IfSome}
use Rattle.trace_eager.specs.Renamed.{IsRenamed}
use Rattle.trace_lines.specs.Lines.{lines_of}
use Rattle.trace_lines.specs.declared.signal.Signal.TheVariants as signal
use Rattle.trace_stream.specs.Streams.{Streams, Puts}
use Rattle.trace_run.specs.declared.invocation.Invocation.{Invocation}
use Rattle.trace_run.specs.declared.invocation.Invocation.TheVariants as invocation
use Rattle.trace_run.specs.declared.script.Command.TheVariants as command
use Rattle.trace_stream.specs.declared.status.Status.{Status}
use Rattle.trace_stream.specs.declared.status.Status.TheVariants as ends

-- On Ok of `run` the sink gained a text that is, where spans start early and that changes ids alone, the one of the same
-- script without that, with each id replaced by the number of its span's making.
abbrev pub RenamesIds : Invocation → Status → Streams → Streams → Type 0
RenamesIds (invocation.WithoutThreads (command.Run signal.Traces)) status before now = status ≡ ends.Ok
    → IfSome before.left (λ bytes. (text : List ℕ) × IsRenamed (lines_of bytes) text × Puts before.held now.held text)
RenamesIds other status before now = Unit {0}
