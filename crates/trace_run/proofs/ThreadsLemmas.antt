-- What came of a script for threads, by how its reading ended and by the status.
use Rattle.std.proofs.Common.{◌≡◌, ℕ, List, [], ◌⊎◌, inl, inr, refl, Bool, true, false, not}
use Rattle.std.specs.Io.KnownBytes.{IsAtEnd}
use Rattle.trace_run.proofs.Common.{lines_of, accepts_threads, TellsThreads, Streams, Takes, Puts}
use Rattle.thread_run.proofs.InputLemmas.{none_refused}
use Rattle.thread_run.specs.declared.input.ThreadsOutcome.{ThreadsOutcome}
use Rattle.thread_handles.specs.declared.gather.Ended.{Ended}
use Rattle.trace_run.specs.Commands.Threads.{AnswersEnded, ComesOf}
use Rattle.trace_stream.specs.reading.AllLines.{WritesAnswer, status_at_end}
use Rattle.trace_stream.specs.declared.input.End.{End}
use Rattle.trace_stream.specs.declared.input.End.TheVariants as end

-- no span is made of lines at which an input breaks off
pub comes_cut : (ending : End) (read text : List ℕ) (ended : List Ended) → (ending ≡ end.Fault) ⊎ (ending ≡ end.TooLong) → ended ≡ [] → ComesOf ending read ended text
comes_cut ending read text ended (inl is) none = rw is none
comes_cut ending read text ended (inr is) none = rw is none

pub ended_of : (refused : Bool) (ending : End) (before now : Streams) (read text : List ℕ) (ended : List Ended) → Takes before.left now.left read
    → (ending ≡ end.Whole → IsAtEnd now.left) → (ending ≡ end.Whole → accepts_threads (lines_of read) ≡ not refused)
    → ComesOf ending read ended text → Puts before.held now.held text → AnswersEnded (status_at_end refused ending) ended before now
ended_of true end.Whole before now read text ended took none flag comes put = none_refused (lines_of read) ended text comes (flag refl)
ended_of true end.Fault before now read text ended took none flag comes put = comes
ended_of true end.TooLong before now read text ended took none flag comes put = comes
ended_of false end.Whole before now read text ended took none flag comes put = record {
  read = read;
  took = took;
  whole = none refl;
  text = text;
  told = comes;
  put = put;
}
ended_of false end.Fault before now read text ended took none flag comes put = comes
ended_of false end.TooLong before now read text ended took none flag comes put = comes

pub accepted_of : (ending : End) (read : List ℕ) (o : ThreadsOutcome) → WritesAnswer accepts_threads TellsThreads ending read o.answer → ending ≡ end.Whole → accepts_threads (lines_of read) ≡ not o.answer.refused
accepted_of end.Whole read o tells is = tells.1
accepted_of end.Fault read o tells is = cc
accepted_of end.TooLong read o tells is = cc
