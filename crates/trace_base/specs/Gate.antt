-- Worlds, and their gate: which callsites are admitted on a lane.
use Rattle.std.specs.Prelude.{◌≡◌, ◌<◌, ℕ, Bool, true, false, ◌&&◌, List, [], length, map, Option, Some, None, IfSome, slice_get, slice_index_or}
use Rattle.trace_base.specs.declared.callsite.Callsite.{Callsite}
use Rattle.trace_base.specs.declared.level.Level.{Level}
use Rattle.trace_base.specs.declared.level.LevelFilter.{LevelFilter}
use Rattle.trace_base.specs.declared.subscriber.Interest.{Interest}
use Rattle.trace_base.specs.declared.subscriber.Interest.TheVariants as interests
use Rattle.trace_base.specs.words.Level.{is_within}

-- a world: its callsites, its subscribers, the interest in each callsite of each subscriber as it was when it was
-- registered, and the subscriber that serves lanes without their own
pub record WorldValue (S : Type 0) : Type 0 where
  pub sites : List Callsite
  pub subscribers : List S
  pub cached : List (List Interest)
  pub global : Option ℕ

-- the interest that is cached of a subscriber in a callsite
abbrev pub cached_at : List (List Interest) → ℕ → ℕ → Interest
cached_at cached dispatch site = slice_index_or (slice_index_or cached site []) dispatch interests.Never

-- the interests that subscribers register in a callsite, and in callsites
abbrev pub interests_in : {S : Type 0} → (S → Callsite → Interest) → List S → Callsite → List Interest
interests_in interest subscribers site = map (λ s. interest s site) subscribers

abbrev pub interests_of_sites : {S : Type 0} → (S → Callsite → Interest) → List S → List Callsite → List (List Interest)
interests_of_sites interest subscribers sites = map (interests_in interest subscribers) sites

-- a level within a hint, which is none where all levels are
abbrev pub hint_allows : Option LevelFilter → Level → Bool
hint_allows None level = true
hint_allows (Some hint) level = is_within level hint

-- what an interest, a hint and the answer of `enabled` admit
abbrev pub gate : Interest → Option LevelFilter → Bool → Level → Bool
gate interests.Never hint enabled level = false
gate interests.Sometimes hint enabled level = hint_allows hint level && enabled
gate interests.Always hint enabled level = hint_allows hint level

-- the lane's own subscriber, else the global one
abbrev pub dispatch_on : Option ℕ → Option ℕ → Option ℕ
dispatch_on None global = global
dispatch_on (Some own) global = Some own

-- the answer for a callsite: no without a subscriber, else by the cached interest
abbrev pub Admits : {S : Type 0} → (S → Option LevelFilter) → (S → ℕ → Callsite → Bool) → WorldValue S → ℕ → ℕ → Option ℕ → Bool → Type 0
Admits hint enables world lane site None answer = answer ≡ false
Admits {S} hint enables world lane site (Some dispatch) answer =
    (s : S) (c : Callsite) → slice_get world.subscribers dispatch ≡ Some s → slice_get world.sites site ≡ Some c → answer ≡ gate (cached_at world.cached dispatch site) (hint s) (enables s lane c) c.level

-- the same by the interest that is registered now
abbrev pub AdmitsFresh : {S : Type 0} → (S → Callsite → Interest) → (S → Option LevelFilter) → (S → ℕ → Callsite → Bool) → WorldValue S → ℕ → ℕ → Option ℕ → Bool → Type 0
AdmitsFresh interest hint enables world lane site None answer = answer ≡ false
AdmitsFresh {S} interest hint enables world lane site (Some dispatch) answer =
    (s : S) (c : Callsite) → slice_get world.subscribers dispatch ≡ Some s → slice_get world.sites site ≡ Some c → answer ≡ gate (interest s c) (hint s) (enables s lane c) c.level

-- the cache was built by the filters that are in place
abbrev pub IsFresh : {S : Type 0} → (S → Callsite → Interest) → WorldValue S → Type 0
IsFresh interest world = world.cached ≡ interests_of_sites interest world.subscribers world.sites

-- as many subscribers, each the same but for spare room
pub record AreSame {S : Type 0} (same : S → S → Type 0) (old new : List S) : Type 0 where
  pub count : length new ≡ length old
  pub each : (d : ℕ) (s t : S) → slice_get old d ≡ Some s → slice_get new d ≡ Some t → same s t

-- each callsite has a row with each subscriber
pub record HasRows (sites subscribers : ℕ) (cached : List (List Interest)) : Type 0 where
  pub rows : length cached ≡ sites
  pub row : (k : ℕ) → k < sites → length (slice_index_or cached k []) ≡ subscribers

-- and the global subscriber is there
pub record IsSoundWorld (sites subscribers : ℕ) (cached : List (List Interest)) (global : Option ℕ) : Type 0 where
  pub has : HasRows sites subscribers cached
  pub there : (d : ℕ) → global ≡ Some d → d < subscribers

-- a subscriber, if there is one, is of the world
abbrev pub IsInWorld : {S : Type 0} → WorldValue S → Option ℕ → Type 0
IsInWorld world dispatch = IfSome dispatch (λ d. d < length world.subscribers)
