-- The number of an id is one more than its place.
use Rattle.std.specs.Prelude.{◌≡◌, ℕ, ◌+◌, ◌-◌, ◌<◌}
use Rattle.std.proofs.Common.{arith, ap}
use Rattle.trace_base.specs.declared.span.Id.TheInside.{Inside}

pub number_back : (n : ℕ) → 0 < n → ◌≡◌ {A = Inside} (record { number = n - 1 + 1 }) (record { number = n })
number_back n h = let e : n - 1 + 1 ≡ n = omega (arith, h) in ap (λ (m : ℕ). let r : Inside = record { number = m } in r) e
