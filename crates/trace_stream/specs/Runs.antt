-- What `run` and `metrics` do: they run a script, and answer its lines as they come.
use Rattle.std.specs.Prelude.{◌≡◌}
use Rattle.trace_lines.specs.Report.{report_from, accepts}
use Rattle.trace_lines.specs.declared.signal.Signal.{Signal}
use Rattle.trace_stream.specs.reading.Breaks.{AnswersAll}
use Rattle.trace_stream.specs.Meaning.{Meaning}
use Rattle.trace_stream.specs.reading.Reading.{Answering, meaning_of_reading}

-- The report on the lines is written; where they break off, all of it but an end line.
abbrev pub answering_of_run : Signal → Answering
answering_of_run signal = record {
  accepts = accepts;
  Whole = λ lines text. text ≡ (report_from signal 0 lines).written;
  Broken = AnswersAll signal;
}

abbrev pub meaning_of_runs : Signal → Meaning
meaning_of_runs signal = meaning_of_reading (answering_of_run signal)
