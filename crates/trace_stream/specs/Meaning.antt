-- How a command says what it does.
use Rattle.std.specs.Prelude.{Bool}
use Rattle.trace_stream.specs.Streams.{Streams}
use Rattle.trace_stream.specs.declared.status.Status.{Status}

-- What has to hold of a command's numbers, whether it reads its source, and what it does to the streams, by its status.
pub record Meaning : Type 1 where
  pub IsPossible : Type 0
  pub reads : Bool
  pub Does : Status → Streams → Streams → Type 0
