-- A subscriber that is lent out of a world.
use Rattle.std.specs.Prelude.{ℕ, slice_set}
use Rattle.std.specs.Borrow.{Lends, MutBor, Fml, RattleType}
use Rattle.trace_base.specs.contracts.world.World.{the_row}
use Rattle.trace_base.specs.Gate.{WorldValue}

module _ (S : RattleType) where
  -- the world ends with what is left behind the reference in its place
  abbrev pub LendsSubscriber : MutBor (WorldValue S.Denot) → ℕ → MutBor S.Denot → Fml
  LendsSubscriber world dispatch r = Lends (the_row S) S world r (λ s. record world.now { subscribers = slice_set world.now.subscribers dispatch s })
