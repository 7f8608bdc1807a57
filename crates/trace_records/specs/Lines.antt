-- What one line does to a pipeline.
use Rattle.std.specs.Prelude.{◌≡◌, ℕ, List, [], ◌∷◌, ◌++◌, length, Option, Result, Ok, Err}
use Rattle.span_script.specs.Tables.{History, Effect, tables, records_of}
use Rattle.span_script.specs.Fits.{PipelineState, StandsFor}
use Rattle.trace_lines.specs.declared.told.Told.{Told}
use Rattle.trace_lines.specs.reading.Spelled.{request_spelled}
use Rattle.trace_lines.specs.Report.{effect_of_line}
use Rattle.input_lines.specs.Refusals.{HasRefusalLine}
use Rattle.trace_records.specs.declared.line.OpenedPipeline.{OpenedPipeline}
use Rattle.trace_records.specs.declared.line.RequestAnswer.{RequestAnswer}
use Rattle.trace_records.specs.Scripts.{setup_of_line, lane_spelled}

-- A pipeline that the settings on a line fix, before any request.
pub record Opens (most : Option ℕ) (text : List ℕ) (opened : OpenedPipeline) : Type 0 where
  pub setup : setup_of_line most text ≡ Ok opened.pipeline.setup
  pub stands : StandsFor opened.pipeline (tables opened.pipeline.setup [])
  pub records : opened.pipeline.recording.finished ≡ []
  pub measures : opened.pipeline.measures ≡ []
  pub lanes : opened.lane_count ≡ length opened.pipeline.setup.ids

abbrev pub OpensLine : Option ℕ → List ℕ → Result OpenedPipeline Told → Type 0
OpensLine most text (Ok opened) = Opens most text opened
OpensLine most text (Err why) = (setup_of_line most text ≡ Err why) × HasRefusalLine why

-- The request on a line is answered: the pipeline stands for one effect more.
pub record AnswersRequest (text : List ℕ) (h : History) (old new : PipelineState) (answered : RequestAnswer) : Type 0 where
  pub effect : Effect
  pub is : effect_of_line old.setup (tables old.setup h) text ≡ Ok effect
  pub lane : answered.lane_place ≡ lane_spelled (request_spelled text)
  pub reply_is : answered.reply ≡ effect.reply
  pub setup : new.setup ≡ old.setup
  pub records : new.recording.finished ≡ old.recording.finished ++ records_of (tables old.setup h) effect
  pub measures : new.measures ≡ old.measures ++ effect.measures
  pub stands : StandsFor new (tables old.setup (h ++ effect ∷ []))

abbrev pub AnswersLine : List ℕ → History → PipelineState → PipelineState → Result RequestAnswer Told → Type 0
AnswersLine text h old new (Ok answered) = AnswersRequest text h old new answered
AnswersLine text h old new (Err why) = (effect_of_line old.setup (tables old.setup h) text ≡ Err why) × HasRefusalLine why
