-- The records of a history, and what a span's record tells.
use Rattle.std.specs.Prelude.{◌≡◌, ℕ, ◌<◌, ◌==◌, ◌&&◌, not, is_some, List, [], ◌∷◌, ◌++◌, fold, filter, map, if◌then◌else◌}
use Rattle.std.specs.Option.{option_to_list}
use Rattle.otel_base.specs.declared.context.SpanContext.{SpanContext}
use Rattle.otel_base.specs.declared.record.Record.{Record}
use Rattle.otel_base.specs.Ids.{ids_of}
use Rattle.otel_base.specs.RecorderIds.{recorder_ids}
use Rattle.otel_state.specs.declared.op.Op.TheVariants as ops
use Rattle.otel_state.specs.declared.update.Update.{Update}
use Rattle.otel_state.specs.Content.{Making, content}
use Rattle.otel_state.specs.Deeds.{TimedOp}
use Rattle.otel_state.specs.Opening.{parent_context_of}
use Rattle.otel_state.specs.States.{SpanData, data_at_making, after_op}
use Rattle.otel_state.specs.Times.{MomentsRise, open_after_ops}
use Rattle.trace_base.specs.Spans.{is_in}
pub use Rattle.span_script.specs.Outcomes.{records_from, records_of_history}
use Rattle.span_script.specs.Setups.{Setup}
use Rattle.span_script.specs.Tables.{Effect, History}
use Rattle.span_laws.specs.Starts.{with_started, starts_of}

-- each record is that of the span at its place
abbrev pub EachRecord : (ℕ → Record → Type 0) → List ℕ → List Record → Type 0
EachRecord IsOf [] [] = Unit {0}
EachRecord IsOf (s ∷ spans) (r ∷ rs) = IsOf s r × EachRecord IsOf spans rs
EachRecord IsOf [] (r ∷ rs) = ⊥
EachRecord IsOf (s ∷ spans) [] = ⊥

-- ---- the ops of a span, whose own ids are given

-- the start of a span, where it is among those that start, and hasn't started
abbrev pub start_in : SpanContext → ℕ → ℕ → List ℕ → List ℕ → List TimedOp
start_in own at s order ids = if is_in s ids && not (is_in s order) then record { at = at; op = ops.Start own } ∷ [] else []

-- what an effect does to a span: it starts it, before it makes one or as it makes it, it does its ops in order, or it starts it at its close
abbrev pub ops_in : SpanContext → ℕ → List ℕ → Effect → List TimedOp
ops_in own s order e =
    let before = fold with_started order e.starts in
    let begun = fold with_started before (option_to_list e.new_span_start) in
    start_in own e.at s order e.starts
    ++ start_in own e.at s before (option_to_list e.new_span_start)
    ++ map (λ d. record { at = e.at; op = d.op }) (filter (λ d. d.span == s) e.ops)
    ++ start_in own e.at s begun e.closes

-- the ops of a span in the effects of a history, some spans having started before
abbrev pub ops_from : SpanContext → ℕ → List ℕ → History → List TimedOp
ops_from own s order [] = []
ops_from own s order (e ∷ h) = ops_in own s order e ++ ops_from own s (fold with_started order (starts_of e)) h

abbrev pub ops_of : SpanContext → History → ℕ → List TimedOp
ops_of own h s = ops_from own s [] h

-- the moment of the effect that closes a span
abbrev pub closed_at : History → ℕ → ℕ
closed_at h s = fold (λ at e. if is_in s e.closes then e.at else at) 0 h

-- what a span was made with: an update at the moment of its making, under the settings of the layer
pub record IsMadeWith (setup : Setup) (at : ℕ) (first : SpanData) (making : Making) : Type 0 where
  pub update : Update
  pub is : first ≡ after_op (data_at_making making) at (ops.Update update)
  pub made_at : making.made_at ≡ at
  pub tracked : making.inactivity ≡ setup.layer.inactivity
  pub counting_is : making.counting ≡ is_some setup.counting

-- the making's update, and then the ops of a span
abbrev pub all_ops : Making → Update → List TimedOp → List TimedOp
all_ops making update done = record { at = making.made_at; op = ops.Update update } ∷ done

-- A span's record is the content of its making, the making's update and its ops at a moment, none of its entries being open.
-- Its own ids are those of a recorder for its place among the starts, under its parent.
pub record IsRecord (making : Making) (update : Update) (done : SpanContext → List TimedOp) (place at : ℕ) (r : Record) : Type 0 where
  pub in_order : MomentsRise making.made_at (all_ops making update (done r.context))
  pub shut : open_after_ops 0 (all_ops making update (done r.context)) ≡ 0
  pub is : r ≡ content making (all_ops making update (done r.context)) at
  pub started : 0 < place
  pub own : r.context ≡ recorder_ids place (ids_of (parent_context_of making.parent (all_ops making update (done r.context))))
