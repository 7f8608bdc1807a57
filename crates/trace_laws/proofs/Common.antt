-- Names of other modules that proofs of the crate import, passed on from one place. Declares nothing.
pub use Rattle.std.proofs.lemmas.Bool.{and_parts, cases_lt}
pub use Rattle.std.proofs.lemmas.List.Sums.{fold_push}
pub use Rattle.std.specs.List.{list_all, range_with_len}
pub use Rattle.otel_base.specs.declared.record.Record.{Record}
pub use Rattle.span_script.specs.Admission.{OpeningRead, opening_read}
pub use Rattle.span_script.specs.Effects.{effect_of}
pub use Rattle.span_script.specs.Outcomes.{with_effects_behind, history_from, history_of, outcome_of, records_from, records_of_history, refusal_at, refusal_behind}
pub use Rattle.span_script.specs.Setups.{Setup, setup_by}
pub use Rattle.span_script.specs.Tables.{Effect, History, Tables, after_effect, no_tables, records_of, tables}
pub use Rattle.span_script.specs.calls.Here.{Resolved}
pub use Rattle.span_script.specs.calls.Spans.{is_open, open_spans}
pub use Rattle.span_script.specs.declared.reply.Refusal.{Refusal}
pub use Rattle.span_script.specs.declared.reply.Reply.{Reply}
pub use Rattle.span_script.specs.declared.request.Request.{Request}
pub use Rattle.span_laws.specs.LegalHistories.{IsHistory, more, none, occurrences}
pub use Rattle.span_laws.specs.Records.{EachRecord}
pub use Rattle.span_eager.specs.Early.{answers, answers_from}
pub use Rattle.trace_lines.specs.Lines.{is_blank, lines_of}
pub use Rattle.trace_lines.specs.Report.{IsValid, Report, accepts, answer_count, answer_text, effect_of_request, output, record_lines, report_from, report_on, report_on_effect, report_on_opening, report_on_settings, step_or_refusal, with_text_before}
unfoldable pub use Rattle.trace_lines.specs.Report.{effect_of_line}
pub use Rattle.trace_lines.specs.declared.told.Told.{Told}
pub use Rattle.trace_lines.specs.reading.Spelled.{value_on_line}
unfoldable pub use Rattle.trace_lines.specs.reading.Spelled.{request_spelled, settings_spelled}
pub use Rattle.trace_lines.specs.text.Texts.{end_data, reply_data}
unfoldable pub use Rattle.trace_lines.specs.text.Texts.{end_text, record_text, refusal_text, reply_text}
pub use Rattle.trace_eager.specs.Renamed.{Script, script_by, script_from}
pub use Rattle.trace_eager.specs.Written.{with_request_if_spelled, line_numbers, requests_of}
pub use Rattle.trace_laws.specs.Headline.{AnswersEach, AreAnswers, HoldsCalls, TellsScript, TellsSpans, closed_spans}
pub use Rattle.trace_laws.specs.Sums.{Counts, records_in}
pub use Rattle.trace_laws.specs.Written.{IsOutput, answer_lines, first_line_number, last_line, opened_text, outcome_text, first_bad_line, bad_line_or}
