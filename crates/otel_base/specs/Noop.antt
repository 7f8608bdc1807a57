-- What each call makes of a tracer that keeps nothing but its spares.
use Rattle.std.specs.Prelude.{◌≡◌, ℕ, ◌+◌}
use Rattle.otel_base.specs.Tracer.{TracerCall, Start, Reserve, Finish}

-- a start gives the parent's own ids, a reserve adds a spare, a finish uses one
abbrev pub DoesNoop : ℕ → TracerCall → ℕ → Type 0
DoesNoop old (Start parent given) new = (given ≡ parent) × (new ≡ old)
DoesNoop old Reserve new = new ≡ old + 1
DoesNoop old (Finish span) new = old ≡ new + 1
