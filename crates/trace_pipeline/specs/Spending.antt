-- The guards that requests spend, each on its own lane.
use Rattle.std.specs.Prelude.{ℕ, Bool, Option, Some, None, Result, Ok, Err, if◌then◌else◌, ◌==◌}
use Rattle.span_script.specs.declared.contexts.AttachGuard.{AttachGuard}
use Rattle.span_script.specs.declared.slots.Guard.{Guard}
use Rattle.span_script.specs.declared.reply.Refusal.{Refusal}
use Rattle.span_script.specs.declared.reply.Refusal.TheVariants as refusal
use Rattle.span_script.specs.declared.reply.What.TheVariants as what

-- a guard of the lane at a place isn't spent on another
abbrev pub lane_check : ℕ → ℕ → Result (Unit {0}) Refusal
lane_check place own = if own == place then Ok tt else Err (refusal.WrongLane own)

-- an entry's guard isn't spent while another one names the handle that it owns
abbrev pub entry_check : Bool → ℕ → Guard → Result (Unit {0}) Refusal
entry_check shared place guard = if shared then Err refusal.InUse else lane_check place guard.place

-- what a test lets go
abbrev pub value_if_passed : {X : Type 0} → X → Result (Unit {0}) Refusal → Result X Refusal
value_if_passed guard (Ok done) = Ok guard
value_if_passed guard (Err why) = Err why

-- what spending a guard of a number answers, if it is there
abbrev pub spending_result : {X : Type 0} → (X → Result (Unit {0}) Refusal) → Option X → Result X Refusal
spending_result test None = Err (refusal.UnknownName what.Guard)
spending_result test (Some guard) = value_if_passed guard (test guard)
