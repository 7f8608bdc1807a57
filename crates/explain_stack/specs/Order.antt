-- What the calls of a scene keep.
use Rattle.std.specs.Prelude.{◌≡◌, ◌<◌, ◌≤◌, ℕ, length, IfSome}
use Rattle.trace_base.specs.declared.lane.Lane.{Lane}
use Rattle.trace_base.specs.Gate.{WorldValue, IsInWorld}
use Rattle.trace_base.specs.Spans.{Spans}
use Rattle.span_handles.specs.Handles.{Handle, IsKnown}
use Rattle.span_handles.specs.Knowing.{KeepsKnown}
use Rattle.span_futures.specs.Lent.{HasAll, AreAllAttached}
use Rattle.explain_stack.specs.declared.scene.Scene.{Scene}

-- a world with a subscriber of that number, so many callsites and at most so many spans, and two lanes with different ids:
-- what was attached by entries is attached to both
pub record Stands {S : Type 0} (spans : S → Spans) (kept : S → ℕ → ℕ → ℕ) (is_whole : S → Type 0) (dispatch span_count site_count : ℕ) (world : WorldValue S) (lane other : Lane) : Type 0 where
  pub there : dispatch < length world.subscribers
  pub whole : HasAll is_whole world
  pub few : HasAll (λ s. length (spans s).made ≤ span_count) world
  pub declared : site_count ≤ length world.sites
  pub attached : AreAllAttached kept world lane
  pub in_world : IsInWorld world lane.default
  pub attached_other : AreAllAttached kept world other
  pub other_in_world : IsInWorld world other.default
  pub apart : other.id ≡ lane.id → ⊥

abbrev pub SceneInOrder : {S : Type 0} → (S → Spans) → (S → ℕ → ℕ → ℕ) → (S → Type 0) → Scene S → Type 0
SceneInOrder spans kept is_whole scene = Stands spans kept is_whole scene.dispatch scene.span_count scene.site_count scene.world scene.lane scene.other

-- A call leaves the scene in order, with as many callsites, and in its world all handles are known that were.
pub record KeepsScene {S : Type 0} (spans : S → Spans) (kept : S → ℕ → ℕ → ℕ) (is_whole : S → Type 0) (old new : Scene S) : Type 0 where
  pub order : SceneInOrder spans kept is_whole new
  pub known : KeepsKnown spans old.world new.world
  pub site_count : new.site_count ≡ old.site_count

-- a handle that is known, with a callsite of the world
pub record IsKnownWithSite {S : Type 0} (spans : S → Spans) (site_count : ℕ) (world : WorldValue S) (handle : Handle) : Type 0 where
  pub known : IsKnown spans world handle.held
  pub site : IfSome handle.site (λ k. k < site_count)
