-- Where spans start early, what `run` writes is the text of the same script without that, with other ids.
use Rattle.std.proofs.Common.{ℕ, List, Option, Some, None, sym, subst, IfSome}
use Rattle.trace_eager.specs.Renamed.{IsRenamed}
use Rattle.trace_eager.proofs.RenamedLemmas.{is_renamed}
use Rattle.trace_run.proofs.Common.{lines_of, CarriesOut, Streams, Puts, Status}
use Rattle.trace_lines.specs.declared.signal.Signal.{Signal}
use Rattle.trace_lines.specs.declared.signal.Signal.TheVariants as signal
use Rattle.trace_stream.specs.Runs.{answering_of_run, meaning_of_runs}
use Rattle.trace_stream.specs.reading.Reading.{LeavesStreams}
use Rattle.trace_run.specs.Renames.{RenamesIds}
use Rattle.trace_run.specs.declared.invocation.Invocation.TheVariants as invocation
use Rattle.trace_run.specs.declared.script.Command.TheVariants as command
use Rattle.trace_stream.specs.declared.status.Status.TheVariants as ends

by_left : (before now : Streams) (left : Option (List ℕ)) → IfSome left (λ bytes. LeavesStreams (answering_of_run signal.Traces) ends.Ok bytes now.left before.held now.held)
    → IfSome left (λ bytes. (text : List ℕ) × IsRenamed (lines_of bytes) text × Puts before.held now.held text)
by_left before now None leaves = tt
by_left before now (Some bytes) leaves =
    let put = leaves.2 in
    (put.0, subst (IsRenamed (lines_of bytes)) (sym put.1) (is_renamed (lines_of bytes) leaves.0.accepted), put.2)

pub renames_ids : (told : Signal) (status : Status) (before now : Streams) → CarriesOut (meaning_of_runs told) status before now → RenamesIds (invocation.WithoutThreads (command.Run told)) status before now
renames_ids signal.Metrics status before now carries = tt
renames_ids signal.Traces status before now carries = λ ok.
    let done = subst (λ (s : Status). CarriesOut (meaning_of_runs signal.Traces) s before now) ok carries in
    by_left before now before.left done.does.leaves
