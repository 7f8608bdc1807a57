-- What `threads` does: it runs a script for threads, and writes for each shared span a history that fits it and its record.
use Rattle.std.specs.Prelude.{◌≡◌, ℕ, List, []}
use Rattle.std.specs.Io.KnownBytes.{IsAtEnd}
use Rattle.thread_run.specs.Inputs.{accepts_threads, TellsEnded, TellsThreads}
use Rattle.thread_handles.specs.declared.gather.Ended.{Ended}
use Rattle.trace_lines.specs.Lines.{lines_of}
use Rattle.trace_stream.specs.reading.AllLines.{meaning_of_all_lines}
use Rattle.trace_stream.specs.Meaning.{Meaning}
use Rattle.trace_stream.specs.Streams.{Streams, Takes, Puts}
use Rattle.trace_stream.specs.declared.input.End.{End}
use Rattle.trace_stream.specs.declared.input.End.TheVariants as end
use Rattle.trace_stream.specs.declared.status.Status.{Status}
use Rattle.trace_stream.specs.declared.status.Status.TheVariants as ends

abbrev pub meaning_of_threads : Meaning
meaning_of_threads = meaning_of_all_lines accepts_threads TellsThreads

-- The source was read to its end, this came of the shared spans of its lines, and the sink gained what tells of it.
pub record AreWritten (ended : List Ended) (before now : Streams) : Type 0 where
  pub read : List ℕ
  pub took : Takes before.left now.left read
  pub whole : IsAtEnd now.left
  pub text : List ℕ
  pub told : TellsEnded (lines_of read) ended text
  pub put : Puts before.held now.held text

-- What is answered beside a status: at `Ok` what came of the shared spans, and else nothing.
abbrev pub AnswersEnded : Status → List Ended → Streams → Streams → Type 0
AnswersEnded ends.Ok ended before now = AreWritten ended before now
AnswersEnded ends.Usage ended before now = ended ≡ []
AnswersEnded ends.Refused ended before now = ended ≡ []
AnswersEnded ends.ReadFault ended before now = ended ≡ []
AnswersEnded ends.WriteFault ended before now = ended ≡ []
AnswersEnded ends.Memory ended before now = ended ≡ []
AnswersEnded ends.TooLong ended before now = ended ≡ []

-- ---- inner

-- what came of the bytes that were read, by how their reading ended: where they break off no span is made
abbrev pub ComesOf : End → List ℕ → List Ended → List ℕ → Type 0
ComesOf end.Whole read ended text = TellsEnded (lines_of read) ended text
ComesOf end.Fault read ended text = ended ≡ []
ComesOf end.TooLong read ended text = ended ≡ []
