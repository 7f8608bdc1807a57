-- The layer that is there was lent.
use Rattle.std.proofs.Common.{refl, subst, sym, Option}
use Rattle.std.specs.Fn.{FnOnceReturnsAt}
use Rattle.env_filter.proofs.Common.{HoldsInPlace}
use Rattle.env_filter.proofs.reload.Layer.with_current.Goals as goal

pub returns-in-Some-clause-ok : goal.returns-in-Some-clause-ok
returns-in-Some-clause-ok g c =
    subst (λ (o : Option g.row.L.Denot). HoldsInPlace (λ l. FnOnceReturnsAt g.F.FnOnce c.args.f l c.f.result) o) (sym c.in-Some.is) (_, c.f.ensures, refl)
