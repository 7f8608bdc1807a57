-- The names that most proofs of the crate cite, passed on from one place. Declares nothing.
pub use Rattle.otel_base.specs.declared.record.Record.{Record}
pub use Rattle.trace_batch.specs.declared.relay.TheConstants.{MAX_LANES}
pub use Rattle.span_script.specs.Fits.{IsServedByHistory, StandsFor, PipelineState}
pub use Rattle.span_script.specs.Outcomes.{records_of_history}
pub use Rattle.span_script.specs.Setups.{Setup, setup_by}
pub use Rattle.span_script.specs.Tables.{History, Tables, no_tables, records_of, tables}
pub use Rattle.span_script.specs.declared.request.Request.{Request}
pub use Rattle.trace_lines.specs.Generated.{generated_requests, generated_script, generated_setup, requests_of_round, requests_of_rounds}
pub use Rattle.trace_lines.specs.Lines.{lines_of}
pub use Rattle.trace_lines.specs.Replay.{busy_in, busy_of, event_count, history_after, history_unless_refused}
pub use Rattle.trace_lines.specs.Report.{IsValid, accepts}
pub use Rattle.input_lines.specs.Refusals.{NoneRefused, Refuses}
pub use Rattle.trace_records.proofs.InputsLemmas.{refuses}
pub use Rattle.trace_records.proofs.ScriptsLaws.{accepts_same, legal}
pub use Rattle.trace_records.specs.Following.{EndsAs, without_outputs}
pub use Rattle.trace_records.specs.Inputs.{AreRefused, TellsRun, accepts_within}
pub use Rattle.thread_run.specs.Inputs.{TellsThreads, accepts_threads}
pub use Rattle.trace_stream.proofs.AllLinesLemmas.{IsRead, carries_broken, carries_whole, stops_of, tells_cut}
pub use Rattle.trace_stream.specs.Carries.{CarriesOut, HasCause}
pub use Rattle.trace_stream.specs.Streams.{CountsFault, Puts, PutsFront, Streams, Takes, streams_of}
pub use Rattle.trace_stream.specs.declared.status.Status.{Status}
pub use Rattle.trace_run.specs.Commands.Batch.{TellsBatchesOfLines, TellsBatchesOf, accepts_batch}
pub use Rattle.trace_run.specs.Commands.Tree.{TellsTreeOf, TellsTrees}
pub use Rattle.trace_run.specs.Making.{StandsWithTotals, ServesRequests, SumsUp, totals_of_requests, with_records}
