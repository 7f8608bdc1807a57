-- What a whole script gives: the outcome of its requests up to the first that is refused.
use Rattle.std.specs.Prelude.{◌≡◌, ℕ, List, [], ◌∷◌, ◌++◌, length, map, Option, Some, None, Ok, Err, slice_get, option_and_then, MatchOption}
use Rattle.otel_base.specs.declared.record.Record.{Record}
use Rattle.span_script.specs.declared.reply.Reply.{Reply}
use Rattle.span_script.specs.declared.reply.Refusal.{Refusal}
use Rattle.span_script.specs.declared.request.Request.{Request}
use Rattle.span_script.specs.declared.outcome.Outcome.{Outcome}
use Rattle.span_script.specs.Setups.{Setup}
use Rattle.span_script.specs.Tables.{Effect, History, Tables, no_tables, tables, after_effect, records_of}
use Rattle.span_script.specs.calls.Here.{Resolved}
use Rattle.span_script.specs.Effects.{effect_of}
use Rattle.span_script.specs.calls.Spans.{open_spans}
use Rattle.span_script.specs.Fits.{PipelineState, StandsFor}

-- an effect, and those of the requests behind it; none from a refused request on
abbrev pub with_effects_behind : Resolved → (Effect → History) → History
with_effects_behind (Ok effect) behind = effect ∷ behind effect
with_effects_behind (Err refusal) behind = []

-- the history that requests make from some tables on, up to the first that is refused
abbrev pub history_from : Setup → Tables → List Request → History
history_from setup t [] = []
history_from setup t (request ∷ requests) =
    with_effects_behind (effect_of setup t request) (λ effect. history_from setup (after_effect t effect) requests)

abbrev pub history_of : Setup → List Request → History
history_of setup requests = history_from setup (no_tables setup) requests

-- the records of a history that goes on from some tables: those of each effect, in order
abbrev pub records_from : Tables → History → List Record
records_from t [] = []
records_from t (effect ∷ h) = records_of t effect ++ records_from (after_effect t effect) h

abbrev pub records_of_history : Setup → History → List Record
records_of_history setup h = records_from (no_tables setup) h

-- a request's place, and why it is refused, if it is
abbrev pub refusal_at : ℕ → Resolved → Option (ℕ × Refusal)
refusal_at place (Ok effect) = None
refusal_at place (Err refusal) = Some (place, refusal)

-- the request behind a history that requests made: it is the first that is refused
abbrev pub refusal_behind : Setup → List Request → History → Option (ℕ × Refusal)
refusal_behind setup requests h =
    option_and_then (λ request. refusal_at (length h) (effect_of setup (tables setup h) request)) (slice_get requests (length h))

-- the outcome by that history: its replies and records, the refused request, and how many spans are open at its end
abbrev pub outcome_by : Setup → List Request → History → Outcome
outcome_by setup requests h = record {
  replies = map (λ effect. effect.reply) h;
  records = records_of_history setup h;
  refused = refusal_behind setup requests h;
  left_open = open_spans (tables setup h);
}

abbrev pub outcome_of : Setup → List Request → Outcome
outcome_of setup requests = outcome_by setup requests (history_of setup requests)

-- there is a reply to each request, or to each before the refused one
abbrev pub HasReplies : List Request → Outcome → Type 0
HasReplies requests outcome =
    MatchOption outcome.refused (length outcome.replies ≡ length requests) (λ refused. length outcome.replies ≡ refused.0)

-- A pipeline that ran requests, with the replies that it gave and the first refused request: it stands for their history.
-- An inner definition.
pub record HasRun (setup : Setup) (requests : List Request) (new : PipelineState) (replies : List Reply) (refused : Option (ℕ × Refusal)) : Type 0 where
  pub setup_is : new.setup ≡ setup
  pub stands : StandsFor new (tables setup (history_of setup requests))
  pub replies_are : replies ≡ map (λ effect. effect.reply) (history_of setup requests)
  pub records_are : new.recording.finished ≡ records_of_history setup (history_of setup requests)
  pub refused_is : refused ≡ refusal_behind setup requests (history_of setup requests)
