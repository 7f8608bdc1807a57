-- The names that most proofs of the crate cite, passed on from one place. Declares nothing.
pub use Rattle.std.proofs.lemmas.Bool.{cases_Bool, cases_lt}
pub use Rattle.std.proofs.lemmas.List.{drop-take, drop_more, nil_from_length, take_more, take_rest}
pub use Rattle.std.specs.Io.KnownBytes.{IsAtEnd}
pub use Rattle.trace_lines.specs.Lines.{is_blank, lines_of, with_byte_first}
pub use Rattle.trace_lines.specs.Report.{Report, accepts, answer_count, answer_text, effect_of_line, last_text, measure_lines, output, record_lines, refused_report, report, report_from, report_on, with_text_before}
pub use Rattle.trace_lines.specs.declared.limits.TheConstants.{MAX_INPUT}
pub use Rattle.trace_lines.specs.declared.signal.Signal.{Signal}
pub use Rattle.input_lines.proofs.FirstLineLemmas.{NoFeed, ended_line, feedless_before, feedless_from, only_line}
pub use Rattle.input_lines.specs.Refusals.{HasRefusalLine, NoneRefused, Refuses}
pub use Rattle.trace_records.specs.Following.{without_outputs}
pub use Rattle.trace_records.specs.Lines.{AnswersLine, OpensLine}
pub use Rattle.trace_stream.specs.Carries.{CarriesOut, HasCause, StopsAtFault}
pub use Rattle.trace_stream.specs.Progress.{HasFront, IsMidway, HasAnsweredLines, Reports, status_if_accepted}
pub use Rattle.trace_stream.specs.Runs.{answering_of_run}
pub use Rattle.trace_stream.specs.Streams.{CountsFault, IsFrontOf, MeetsEnd, Puts, PutsFront, Streams, Takes, streams_of}
pub use Rattle.trace_stream.specs.declared.progress.Progress.{Progress}
pub use Rattle.trace_stream.specs.declared.status.Status.{Status}
pub use Rattle.trace_stream.specs.reading.Answers.{AnswersAt, AnswersTo, AnswersBrokenOff, IsAnswered, IsOpening, IsRunning, IsStopped, is_refused}
pub use Rattle.trace_stream.specs.reading.Breaks.{AnswersAll, has_feed, whole_lines, whole_part}
pub use Rattle.trace_stream.specs.reading.Reading.{Answering, Completes, HasRefused, IsRefusedForCause, LeavesStreams, PutsNothingOrFront, PutsWhole, ReadsLines}
