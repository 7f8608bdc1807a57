-- A world seen below the outer layer of each of its stacks.
use Rattle.std.specs.Prelude.{◌≡◌, Bool, false, map}
use Rattle.trace_base.specs.Gate.{WorldValue}
use Rattle.span_registry.specs.declared.layered.Layered.{Layered}

abbrev pub inner_of : {L S : Type 0} → Layered L S → S
inner_of s = s.inner

-- the world whose subscribers are what lies below the outer layers
abbrev pub inner_worlds : {L S : Type 0} → WorldValue (Layered L S) → WorldValue S
inner_worlds world = record { sites = world.sites; subscribers = map inner_of world.subscribers; cached = world.cached; global = world.global }

-- a layer of which something is never so
abbrev pub NeverHolds : {L : Type 0} → (L → Bool) → Type 0
NeverHolds {L} is = (l : L) → is l ≡ false
