-- The rule of the gate in a world of filters.
use Rattle.std.specs.Prelude.{◌≡◌, ℕ, Bool, true, false, Option, None, Some, slice_get}
use Rattle.trace_base.specs.declared.callsite.Callsite.{Callsite}
use Rattle.trace_base.specs.declared.level.LevelFilter.{LevelFilter}
use Rattle.trace_base.specs.declared.subscriber.Interest.{Interest}
use Rattle.trace_base.specs.declared.subscriber.Interest.TheVariants as interests
use Rattle.trace_base.specs.Gate.{WorldValue, gate}
use Rattle.env_filter.specs.Filtering.{FilterWithRoom, plain_filter, IsWholeFilter, is_admitted}

-- interest, hint and `enabled` come to a rule, where something holds
abbrev pub GateFollows : {S : Type 0} → (S → Callsite → Interest) → (S → Option LevelFilter) → (S → ℕ → Callsite → Bool) → (S → Type 0) → (S → ℕ → Callsite → Bool) → Type 0
GateFollows {S} interest hint enables holds rule =
    (s : S) (lane : ℕ) (c : Callsite) → holds s → gate (interest s c) (hint s) (enables s lane c) c.level ≡ rule s lane c

-- a subscriber that takes whatever a layer over it takes
pub record TakesAll {S : Type 0} (interest : S → Callsite → Interest) (hint : S → Option LevelFilter) (enables : S → ℕ → Callsite → Bool) : Type 0 where
  pub always : (s : S) (c : Callsite) → interest s c ≡ interests.Always
  pub no_hint : (s : S) → hint s ≡ None
  pub enabled : (s : S) (lane : ℕ) (c : Callsite) → enables s lane c ≡ true

-- the rule of a filter, and of one that can be exchanged: a retired one admits nothing
abbrev pub filter_rule : FilterWithRoom → ℕ → Callsite → Bool
filter_rule f lane c = is_admitted (plain_filter f) lane c

abbrev pub in_place_rule : Option FilterWithRoom → ℕ → Callsite → Bool
in_place_rule None lane c = false
in_place_rule (Some f) lane c = filter_rule f lane c

abbrev pub IsWholeInPlace : Option FilterWithRoom → Type 0
IsWholeInPlace None = Unit {0}
IsWholeInPlace (Some f) = IsWholeFilter (plain_filter f)

-- each subscriber of a world
abbrev pub EachSubscriber : {S : Type 0} → (S → Type 0) → WorldValue S → Type 0
EachSubscriber {S} P world = (d : ℕ) (s : S) → slice_get world.subscribers d ≡ Some s → P s

-- the answer for a callsite on a lane: no without a subscriber, else by a rule of its subscriber
abbrev pub AdmitsBy : {S : Type 0} → (S → ℕ → Callsite → Bool) → WorldValue S → ℕ → ℕ → Option ℕ → Bool → Type 0
AdmitsBy rule world lane site None answer = answer ≡ false
AdmitsBy {S} rule world lane site (Some dispatch) answer =
    (s : S) (c : Callsite) → slice_get world.subscribers dispatch ≡ Some s → slice_get world.sites site ≡ Some c → answer ≡ rule s lane c
