-- The names that most proofs of the crate cite, passed on from one place. Declares nothing.
pub use Rattle.std.proofs.lemmas.List.{length-map, map-append}
pub use Rattle.otel_base.specs.declared.record.Record.{Record}
pub use Rattle.span_script.proofs.runs.RunLemmas.{records_push}
pub use Rattle.span_script.specs.Admission.{IsOpenError, OpeningRead, opening_read}
pub use Rattle.span_script.specs.Effects.{effect_of, effect_of_call, is_bad_moment}
pub use Rattle.span_script.specs.Fits.{IsServedByHistory, PipelineState, StandsFor, is_for_memory}
pub use Rattle.span_script.specs.Outcomes.{records_of_history}
pub use Rattle.span_script.specs.Setups.{Setup, setup_by}
pub use Rattle.span_script.specs.Tables.{Effect, History, Tables, no_tables, records_of, tables}
pub use Rattle.span_script.specs.calls.Spans.{open_spans}
pub use Rattle.span_script.specs.declared.reply.Refusal.{Refusal}
pub use Rattle.span_script.specs.declared.request.Request.{Request}
pub use Rattle.span_script.specs.declared.settings.Settings.{Settings}
pub use Rattle.trace_lines.specs.Lines.{is_blank, lines_of}
pub use Rattle.trace_lines.specs.Report.{Report, accepts, answer_count, answer_text, effect_of_request, report_from, report_on, report_on_effect, report_on_opening, report_on_settings, step_or_refusal}
unfoldable pub use Rattle.trace_lines.specs.Report.{effect_of_line}
pub use Rattle.trace_lines.specs.declared.told.Told.{Told}
pub use Rattle.trace_lines.specs.reading.Spelled.{request_spelled, settings_spelled}
pub use Rattle.input_lines.specs.Refusals.{HasRefusalLine, Refuses}
pub use Rattle.trace_records.specs.Following.{EndsAs, HasFollowed, IsOpening, TellsRefusedLine, IsRunning, IsStopped, StandsAt, without_outputs}
pub use Rattle.trace_records.specs.Inputs.{AreRefused, EndsWith, TellsRun, accepts_within, last_line_of}
pub use Rattle.trace_records.specs.Lines.{AnswersLine, AnswersRequest, Opens, OpensLine}
pub use Rattle.trace_records.specs.Scripts.{ScriptHistory, ScriptResult, allows_lanes, lane_spelled, lanes_on, run_unless_refused, script_from, script_of, script_on, setup_if_read, setup_of_settings}
unfoldable pub use Rattle.trace_records.specs.Scripts.{setup_of_line}
pub use Rattle.trace_records.specs.declared.finished.FinishedSpans.{FinishedSpans}
pub use Rattle.trace_records.specs.declared.line.OpenedPipeline.{OpenedPipeline}
pub use Rattle.trace_records.specs.declared.line.RequestAnswer.{RequestAnswer}
