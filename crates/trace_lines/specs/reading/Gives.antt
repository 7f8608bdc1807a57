-- What a reader answers for what there is to be read. Want of memory says nothing.
use Rattle.std.specs.Prelude.{◌≡◌, Option, Some, None, Result, Ok, Err}
use Rattle.trace_lines.specs.declared.read.LineError.{LineError}
use Rattle.trace_lines.specs.declared.read.LineError.TheVariants.{BadLine, Memory}

-- what is read is refused as BadLine, exactly where it is not of its form
abbrev pub FailsAsBadLine : {Y : Type 0} → LineError → Option Y → Type 0
FailsAsBadLine BadLine read = read ≡ None
FailsAsBadLine Memory read = Unit {0}

-- what a reader gives, seen by a view
abbrev pub Gives : {X Y : Type 0} → (X → Y) → Result X LineError → Option Y → Type 0
Gives view (Ok x) read = read ≡ Some (view x)
Gives view (Err e) read = FailsAsBadLine e read
