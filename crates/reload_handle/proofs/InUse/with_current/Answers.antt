use Rattle.std.specs.Fn.{FnOnceReturnsAt}
use Rattle.reload_handle.proofs.Lent.{lent}
use Rattle.reload_handle.proofs.InUse.with_current.Goals as goal

pub returns-clause-lent : goal.returns-clause-lent
returns-clause-lent g c = lent (λ l t. FnOnceReturnsAt g.F.FnOnce c.args.f l t) c.args.self.now.layer.inner c.with_current.result c.with_current.ensures.ok
