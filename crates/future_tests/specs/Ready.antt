-- What calls need of a world and a lane.
use Rattle.std.specs.Prelude.{◌≡◌, ℕ}
use Rattle.trace_base.specs.declared.lane.Lane.{Lane}
use Rattle.trace_base.specs.Gate.{WorldValue, IsInWorld}
use Rattle.trace_base.specs.Spans.{Spans}
use Rattle.span_registry.specs.Registering.{no_spans}
use Rattle.span_futures.specs.Lent.{HasAll, AreAllAttached}

-- a stack that was just made
pub record IsUnused {S : Type 0} (spans : S → Spans) (kept : S → ℕ → ℕ → ℕ) (is_whole : S → Type 0) (s : S) : Type 0 where
  pub whole : is_whole s
  pub none : spans s ≡ no_spans
  pub nothing_kept : (lane number : ℕ) → kept s lane number ≡ 0

-- all stacks are whole, what they keep attached to a lane is attached there, and the lane's default is of the world
pub record IsReadyForCalls {S : Type 0} (kept : S → ℕ → ℕ → ℕ) (is_whole : S → Type 0) (world : WorldValue S) (lane : Lane) : Type 0 where
  pub whole : HasAll is_whole world
  pub still : AreAllAttached kept world lane
  pub in_world : IsInWorld world lane.default
