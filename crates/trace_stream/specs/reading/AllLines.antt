-- What a command does that reads all lines before it writes.
use Rattle.std.specs.Prelude.{◌≡◌, ℕ, List, [], take, Bool, true, false, not}
use Rattle.trace_lines.specs.Lines.{lines_of}
use Rattle.trace_lines.specs.declared.limits.TheConstants.{MAX_INPUT}
use Rattle.input_lines.specs.declared.answer.Answer.{Answer}
use Rattle.input_lines.specs.Refusals.{Refuses, NoneRefused}
use Rattle.trace_stream.specs.reading.Breaks.{whole_lines}
use Rattle.trace_stream.specs.Meaning.{Meaning}
use Rattle.trace_stream.specs.reading.Reading.{Answering, meaning_of_reading}
use Rattle.trace_stream.specs.declared.input.End.{End}
use Rattle.trace_stream.specs.declared.input.End.TheVariants as end
use Rattle.trace_stream.specs.declared.status.Status.{Status}
use Rattle.trace_stream.specs.declared.status.Status.TheVariants as ends

-- Nothing is written for lines behind which an input breaks off.
abbrev pub answering_of_all_lines : (List (List ℕ) → Bool) → (List (List ℕ) → List ℕ → Type 0) → Answering
answering_of_all_lines accepts Whole = record {
  accepts = accepts;
  Whole = Whole;
  Broken = λ lines text. NoneRefused accepts lines × (text ≡ []);
}

-- What such a command does, by the lines that it accepts and the texts that it may write for all lines of an input, which is
-- the refusal line alone where one is refused.
abbrev pub meaning_of_all_lines : (List (List ℕ) → Bool) → (List (List ℕ) → List ℕ → Type 0) → Meaning
meaning_of_all_lines accepts Whole = meaning_of_reading (answering_of_all_lines accepts Whole)

-- ---- inner

-- what is written for lines at which an input breaks off, by whether one of them is refused
abbrev pub AnswersCut : (List (List ℕ) → Bool) → (List (List ℕ) → List ℕ → Type 0) → Bool → List (List ℕ) → List ℕ → Type 0
AnswersCut accepts Whole true lines text = Refuses accepts Whole lines text
AnswersCut accepts Whole false lines text = NoneRefused accepts lines × (text ≡ [])

-- what is written for the bytes that were read, by how their reading ended
abbrev pub WritesAnswer : (List (List ℕ) → Bool) → (List (List ℕ) → List ℕ → Type 0) → End → List ℕ → Answer → Type 0
WritesAnswer accepts Whole end.Whole read answer =
    Whole (lines_of read) answer.text.items × (accepts (lines_of read) ≡ not answer.refused)
WritesAnswer accepts Whole end.Fault read answer = AnswersCut accepts Whole answer.refused (whole_lines (take MAX_INPUT read)) answer.text.items
WritesAnswer accepts Whole end.TooLong read answer = AnswersCut accepts Whole answer.refused (whole_lines (take MAX_INPUT read)) answer.text.items

-- the status of a command whose text is written: a refused line is told before a fault and before too long an input
abbrev pub status_at_end : Bool → End → Status
status_at_end true ending = ends.Refused
status_at_end false end.Whole = ends.Ok
status_at_end false end.Fault = ends.ReadFault
status_at_end false end.TooLong = ends.TooLong
