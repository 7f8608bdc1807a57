-- What holds of all lists of ops.
use Rattle.std.specs.Prelude.{◌≡◌, ℕ, ◌+◌, List, [], ◌∷◌, ◌++◌, Bool, IsTrue, Option, None, is_some, codes}
use Rattle.std.specs.List.{list_any}
use Rattle.std.specs.Ordering.{is_le}
use Rattle.otel_base.specs.declared.context.SpanContext.{SpanContext}
use Rattle.otel_base.specs.declared.record.Record.{Record}
use Rattle.otel_base.specs.declared.value.KeyValue.{KeyValue}
use Rattle.otel_base.specs.Statuses.{status_cmp}
use Rattle.otel_state.specs.declared.op.Op.{Op}
use Rattle.otel_state.specs.declared.op.Op.TheVariants as ops
use Rattle.otel_state.specs.Deeds.{Deed, TimedOp, deed}
use Rattle.otel_state.specs.Statuses.{status_of}
use Rattle.otel_state.specs.Content.{number_attribute}

-- ---- busy and idle

-- an entry was opened
abbrev pub was_entered : List TimedOp → Bool
was_entered ops = list_any (λ op. (deed op.op).enters) ops

-- a record's last two attributes tell a busy and an idle time. They add up to the time from its start to its end where
-- the span was left, as it was wherever it was entered, and are both 0 where it was never left
pub record TellsTimes (entered : Bool) (left : Option ℕ) (r : Record) : Type 0 where
  pub others : List KeyValue
  pub busy : ℕ
  pub idle : ℕ
  pub last : r.attributes ≡ others ++ number_attribute (codes "busy_ns") busy ∷ number_attribute (codes "idle_ns") idle ∷ []
  pub was_left : IsTrue entered → IsTrue (is_some left)
  pub add_up : IsTrue (is_some left) → r.start + busy + idle ≡ r.end
  pub are_zero : left ≡ None → (busy ≡ 0) × (idle ≡ 0)

-- ---- what is settled by the start

-- what an op does beside writing a name, a kind or a parent
abbrev pub without_settled : Deed → Deed
without_settled d = record d { name = None; kind = None; parent = None }

-- two ops do the same but for the name, the kind and the parent
abbrev pub SameButSettled : Op → Op → Type 0
SameButSettled a b = without_settled (deed a) ≡ without_settled (deed b)

-- an op writes no name, no kind and no parent
abbrev pub SettlesNothing : TimedOp → Type 0
SettlesNothing op = deed op.op ≡ without_settled (deed op.op)

abbrev pub start_at : ℕ → SpanContext → TimedOp
start_at at own = record { at = at; op = ops.Start own }

-- the ops with a start early, or late
abbrev pub with_early : List TimedOp → TimedOp → List TimedOp → List TimedOp → List TimedOp
with_early before start between after = before ++ (start ∷ between ++ after)

abbrev pub with_late : List TimedOp → List TimedOp → TimedOp → List TimedOp → List TimedOp
with_late before between start after = (before ++ between) ++ start ∷ after

-- two records differ in their ids alone
abbrev pub SameButIds : Record → Record → Type 0
SameButIds a b = a ≡ record b { context = a.context }

-- ---- the status

-- the status after more ops is no less
abbrev pub StatusNeverFalls : List TimedOp → List TimedOp → Type 0
StatusNeverFalls ops more = IsTrue (is_le (status_cmp (status_of ops) (status_of (ops ++ more))))
