-- A world with one registry, which serves all lanes without their own subscriber. No contract
-- of a call on a handle names it, since those are over any subscriber.
use Rattle.std.specs.Prelude.{◌≡◌, ℕ, [], ◌∷◌, length, Some, None}
use Rattle.trace_base.specs.declared.lane.Lane.{Lane}
use Rattle.trace_base.specs.declared.span.Parent.{Parent}
use Rattle.trace_base.specs.Gate.{WorldValue}
use Rattle.trace_base.specs.Spans.{Spans, entries_on, parent_on}
use Rattle.trace_base.specs.Calls.{with_new_span}
use Rattle.trace_base.specs.Conditions.{AreFew, ParentHasFewHolds, IsLiveParent}
use Rattle.span_registry.specs.Registering.{RegistryValue}
use Rattle.span_handles.specs.Worlds.{spans_in}
use Rattle.span_handles.specs.Handles.{Handle, handle_of}

-- the spans of the registry
abbrev pub spans_of : WorldValue RegistryValue → Spans
spans_of world = spans_in (λ r. r.spans) world 0

pub record IsSingle (world : WorldValue RegistryValue) : Type 0 where
  pub one : length world.subscribers ≡ 1
  pub global : world.global ≡ Some 0

-- the registry is another one, with these spans
pub record ChangesSpansTo (old new : WorldValue RegistryValue) (spans : Spans) : Type 0 where
  pub one : length new.subscribers ≡ 1
  pub global : new.global ≡ Some 0
  pub sites : new.sites ≡ old.sites
  pub spans_are : spans_of new ≡ spans

-- a span may be made under a parent on a lane
pub record MayMakeSpan (world : WorldValue RegistryValue) (lane : Lane) (parent : Parent) : Type 0 where
  pub no_default : lane.default ≡ None
  pub live : IsLiveParent (spans_of world).made parent
  pub few : AreFew (spans_of world)
  pub few_holds : ParentHasFewHolds (spans_of world) lane.id parent

-- the spans with one more under a parent on a lane
abbrev pub spans_with_new : WorldValue RegistryValue → ℕ → Parent → ℕ → Spans
spans_with_new world lane parent site = with_new_span (spans_of world) (parent_on (entries_on lane (spans_of world).lanes) parent) site

-- A first span was made, a root, and nothing else happened; a lane of number 1 has no subscriber of its own.
pub record HasFirstSpan (world : WorldValue RegistryValue) (lane : Lane) (site registry : ℕ) (first : Handle) : Type 0 where
  pub one : length world.subscribers ≡ 1
  pub global : world.global ≡ Some 0
  pub sites : length world.sites ≡ 1
  pub spans_are : spans_of world ≡ record { made = record { holds = 1; parent = None; site = 0 } ∷ []; lanes = [] }
  pub lane_is : lane.id ≡ 1
  pub no_default : lane.default ≡ None
  pub site_is : site ≡ 0
  pub registry_is : registry ≡ 0
  pub first_is : first ≡ handle_of 0 0 0
