-- What the making of a handle for each worker leaves.
use Rattle.std.specs.Prelude.{◌≡◌, ℕ, ◌+◌, ◌<◌, List, [], ◌∷◌, length, slice_index_or}
use mathlib.Core.List.{IsPrefix}
use Rattle.trace_threads.specs.declared.handle.Released.{Released}
use Rattle.trace_threads.specs.History.{IsLegal, entries_by}
use Rattle.trace_threads.specs.Turns.{entries, first_view}
use Rattle.trace_threads.specs.Handles.{SharedHandle, ReleasedHandle, open_count_of, ClosedAs}
use Rattle.thread_script.specs.Asks.{FollowsAsks, clones_asked, clone_entries}

-- the first handle of a span that was made at this moment
abbrev pub IsFirst : SharedHandle → ℕ → Type 0
IsFirst h at = (h.number ≡ 0) × (h.view ≡ first_view h.view.origin) × (h.view.origin.made_at ≡ at)

abbrev pub numbers_of : List SharedHandle → List ℕ
numbers_of [] = []
numbers_of (h ∷ hs) = h.number ∷ numbers_of hs

-- no entry is open
abbrev pub HaveNoneOpen : List SharedHandle → Type 0
HaveNoneOpen hs = (i : ℕ) (d : SharedHandle) → i < length hs → open_count_of (slice_index_or hs i d) ≡ 0

-- these handles were made by the first one, which did nothing else
pub record AreCloned (h g : SharedHandle) (hs : List SharedHandle) : Type 0 where
  pub span : g.span ≡ h.span
  pub number : g.number ≡ 0
  pub origin : g.view.origin ≡ h.view.origin
  pub out : open_count_of g ≡ 0
  pub follows : FollowsAsks 0 h.view.origin.made_at (clones_asked h.view.origin.made_at (numbers_of hs)) (entries g.view.seen)
  pub own_entries : entries_by 0 (entries g.view.seen) ≡ g.view.mine
  pub each : (i : ℕ) (d : SharedHandle) → i < length hs → ((slice_index_or hs i d).span ≡ h.span) × ((slice_index_or hs i d).view.origin ≡ h.view.origin) × ((slice_index_or hs i d).view.mine ≡ [])

-- a handle has seen what a pass has
pub record HasLearnt (p : ReleasedHandle) (h g : SharedHandle) : Type 0 where
  pub span : g.span ≡ h.span
  pub number : g.number ≡ h.number
  pub origin : g.view.origin ≡ h.view.origin
  pub mine : g.view.mine ≡ h.view.mine
  pub seen : IsPrefix p.view.seen g.view.seen
  pub own_entries : entries_by h.number (entries g.view.seen) ≡ g.view.mine

abbrev pub HaveLearnt : ReleasedHandle → List SharedHandle → List SharedHandle → Type 0
HaveLearnt p hs gs = (i : ℕ) (d : SharedHandle) → i < length hs → HasLearnt p (slice_index_or hs i d) (slice_index_or gs i d)

-- a worker's handle, which has made no entry
pub record IsFresh (h : SharedHandle) (k : ℕ) (g : SharedHandle) : Type 0 where
  pub span : g.span ≡ h.span
  pub number : g.number ≡ k
  pub origin : g.view.origin ≡ h.view.origin
  pub mine : g.view.mine ≡ []
  pub none : entries_by k (entries g.view.seen) ≡ []

-- Each worker has its handle, and the history so far is known.
pub record IsShared (h : SharedHandle) (hs : List SharedHandle) (r : Released) : Type 0 where
  pub span : r.pass.span ≡ h.span
  pub origin : r.pass.view.origin ≡ h.view.origin
  pub log : entries r.pass.view.seen ≡ clone_entries h.view.origin.made_at (length hs)
  pub legal : IsLegal h.view.origin.made_at (entries r.pass.view.seen)
  pub closed : ClosedAs h.view.origin (entries r.pass.view.seen) r.closed
  pub each : (i : ℕ) (d : SharedHandle) → i < length hs → IsFresh h (i + 1) (slice_index_or hs i d)
