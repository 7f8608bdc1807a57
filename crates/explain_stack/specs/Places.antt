-- Three handles, by their names.
use Rattle.std.specs.Prelude.{◌≡◌, ℕ, Bool, false, List, Option, Some, None, if◌then◌else◌, codes, bytes_eq}
use Rattle.trace_base.specs.Gate.{WorldValue}
use Rattle.trace_base.specs.Spans.{Spans}
use Rattle.trace_base.specs.Calls.{SubscriberCall}
use Rattle.span_handles.specs.Handles.{Handle, no_handle, same_held}
use Rattle.explain_stack.specs.declared.handles.Handles.{Handles}
use Rattle.explain_stack.specs.declared.scene.Scene.{Scene}
use Rattle.explain_stack.specs.Order.{SceneInOrder, IsKnownWithSite}
use Rattle.explain_stack.specs.Puts.{ClosesHeld}

-- the first of three that is asked for, and the three with another one there
abbrev pub handle_chosen : Bool → Bool → Bool → Handles → Option Handle
handle_chosen a b c handles = if a then Some handles.a else (if b then Some handles.b else (if c then Some handles.c else None))

abbrev pub with_chosen : Bool → Bool → Bool → Handle → Handles → Handles
with_chosen a b c slot handles = if a then record handles { a = slot } else (if b then record handles { b = slot } else (if c then record handles { c = slot } else handles))

-- the same by a name
abbrev pub handle_named : List ℕ → Handles → Option Handle
handle_named name handles = handle_chosen (bytes_eq name (codes "a")) (bytes_eq name (codes "b")) (bytes_eq name (codes "c")) handles

abbrev pub with_named : List ℕ → Handle → Handles → Handles
with_named name slot handles = with_chosen (bytes_eq name (codes "a")) (bytes_eq name (codes "b")) (bytes_eq name (codes "c")) slot handles

-- none of the three is of the span of a handle
pub record IsNoneOf (handles : Handles) (handle : Handle) : Type 0 where
  pub a : same_held handles.a.held handle.held ≡ false
  pub b : same_held handles.b.held handle.held ≡ false
  pub c : same_held handles.c.held handle.held ≡ false

-- all three are known, with callsites of the world
pub record AreKnownWithSites {S : Type 0} (spans : S → Spans) (site_count : ℕ) (world : WorldValue S) (handles : Handles) : Type 0 where
  pub a : IsKnownWithSite spans site_count world handles.a
  pub b : IsKnownWithSite spans site_count world handles.b
  pub c : IsKnownWithSite spans site_count world handles.c

-- a scene in order, and three handles that its world knows
pub record InPlay {S : Type 0} (spans : S → Spans) (kept : S → ℕ → ℕ → ℕ) (is_whole : S → Type 0) (scene : Scene S) (handles : Handles) : Type 0 where
  pub order : SceneInOrder spans kept is_whole scene
  pub held : AreKnownWithSites spans scene.site_count scene.world handles

-- the handle of a name is closed, and a disabled one is left there
pub record ClosesNamed {S : Type 0} (spans : S → Spans) (does : S → SubscriberCall → S → Type 0) (at : ℕ) (name : List ℕ) (handles : Handles) (old : WorldValue S) (left : Handles) (new : WorldValue S) : Type 0 where
  pub handle : Handle
  pub was : Some handle ≡ handle_named name handles
  pub closed : ClosesHeld spans does at old new handle.held
  pub left_is : left ≡ with_named name no_handle handles
