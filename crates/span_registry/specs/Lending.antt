-- A part that is lent out of a layer over a subscriber.
use Rattle.std.specs.Borrow.{Lends, MutBor, Fml, RattleType}
use Rattle.span_registry.specs.declared.layered.Layered.{Layered}
use Rattle.span_registry.specs.contracts.layered.Layered.{the_row}

module _ (L S : RattleType) where
  -- the stack ends with what is left behind the reference as its layer
  abbrev pub LendsLayer : MutBor (Layered L.Denot S.Denot) → MutBor L.Denot → Fml
  LendsLayer stack r = Lends (the_row L S) L stack r (λ l. record stack.now { layer = l })

  -- the same of the subscriber below
  abbrev pub LendsInner : MutBor (Layered L.Denot S.Denot) → MutBor S.Denot → Fml
  LendsInner stack r = Lends (the_row L S) S stack r (λ s. record stack.now { inner = s })
