-- What calls ask for, of a world that stands.
use Rattle.std.proofs.Common.{◌≡◌, ℕ, ◌<◌, ◌^◌, List, ◌∷◌, length, Option, Some, None, sym, ap, subst, arith, slice_get, ◌==◌, IfSome}
use Rattle.traced.proofs.Common.{option_map_or, Lane, Parent, Ghosts, HasFewHolds, ParentHasFewHolds, AreFew, IsLiveParent, MayExit, AreAttached, WorldValue, IsInWorld, dispatch_on, Spans, entries_on, times_in, parent_on, any_if_counted, first_if_in, Has, KeepsPlainData, spans_in, HeldSpan, Handle, IsKnown, HasOn, IsOf, MayMakeIf, HasIf, as_parent, EntryGuard, IsThere, AreAtMost, StandsReady, ServesLane, IsHeld, CanMake, CanTell, CanAsk, CanClose, CanEnter, CanExit, IsLiveOn, IsOpen, IsInside}
use Rattle.trace_base.specs.declared.span.Parent.TheVariants as parent
use Rattle.traced.proofs.Elsewhere.{stands_after}
use Rattle.traced.proofs.Moves.{read_there, live_on}

-- what holds of the spans that are read holds of the subscriber
has_spans : {S : Type 0} (sub : Ghosts S) (world : WorldValue S) (dispatch : ℕ) (P : Spans → Type 0) → P (spans_in sub.spans world dispatch) → Has (λ s. P (sub.spans s)) world dispatch
has_spans sub world dispatch P holds = λ s there. subst P (read_there sub world dispatch s there) holds

-- what holds of the subscriber holds of that of a handle of it
on_held : {S : Type 0} (P : S → ℕ → Type 0) (world : WorldValue S) (dispatch : ℕ) (held : HeldSpan) → IsOf held dispatch → ((id : ℕ) → Has (λ s. P s id) world dispatch) → HasOn P world held
on_held P world dispatch None own has = tt
on_held {S} P world dispatch (Some h) own has = subst (λ (d : ℕ). Has (λ s. P s h.1) world d) (sym own) (has h.1)

pub own_there : {S : Type 0} (world : WorldValue S) (dispatch : ℕ) (o global : Option ℕ) → dispatch < length world.subscribers → dispatch_on o global ≡ Some dispatch → IsInWorld world o
own_there world dispatch None global there served = tt
own_there {S} world dispatch (Some d) global there served = (let e : d ≡ dispatch = cc served in subst (λ (k : ℕ). k < length world.subscribers) (sym e) there)

few_above : (n : ℕ) (x : Spans) (o : Option ℕ) → n < 2 ^ 63 → AreAtMost n x → IfSome o (HasFewHolds x.made)
few_above n x None early few = tt
few_above n x (Some p) early few = (let h = few.holds p in omega (arith, h, early))

-- the subscriber of a lane may be asked for a span
make_at : {S : Type 0} (sub : Ghosts S) (n dispatch sites : ℕ) (world : WorldValue S) (lane : Lane) (others : List Lane) (parent : Parent) (site : ℕ) → n < 2 ^ 63 → site < sites → IsLiveParent (spans_in sub.spans world dispatch).made parent → StandsReady sub n dispatch sites world (lane ∷ others) → CanMake sub world lane parent site
make_at {S} sub n dispatch sites world lane others parent site early within live stands =
    let served = stands.served.0.serves in
    let x = spans_in sub.spans world dispatch in
    let few = stands.few in
    record {
      in_world = own_there world dispatch lane.default world.global stands.there served;
      site_there = (let d = stands.declared in omega (arith, within, d));
      may = subst (λ (o : Option ℕ). MayMakeIf sub.spans sub.is_whole world lane.id parent o) (sym served) (record {
        there = stands.there;
        whole = stands.whole;
        live = has_spans sub world dispatch (λ v. IsLiveParent v.made parent) live;
        few = has_spans sub world dispatch AreFew (let f = few.spans in omega (arith, f, early));
        few_holds = has_spans sub world dispatch (λ v. ParentHasFewHolds v lane.id parent) (few_above n x (parent_on (entries_on lane.id x.lanes) parent) early few);
      });
    }

live_under : (held : HeldSpan) (x : Spans) → IsLiveOn held x → IsLiveParent x.made (as_parent held)
live_under None x live = tt
live_under (Some h) x live = live

-- and of an event
pub can_tell : {S : Type 0} (sub : Ghosts S) (n dispatch sites : ℕ) (world : WorldValue S) (lane : Lane) (others : List Lane) (site : ℕ) → StandsReady sub n dispatch sites world (lane ∷ others) → site < sites → CanTell sub world lane site
can_tell sub n dispatch sites world lane others site stands within =
    let served = stands.served.0.serves in
    record {
      in_world = own_there world dispatch lane.default world.global stands.there served;
      there = subst (λ (o : Option ℕ). IsInWorld world o) (sym served) stands.there;
      site_there = (let d = stands.declared in omega (arith, within, d));
      whole = subst (λ (o : Option ℕ). HasIf sub.is_whole world o) (sym served) stands.whole;
    }

-- calls on handles
pub can_close : {S : Type 0} (sub : Ghosts S) (n dispatch sites : ℕ) (world : WorldValue S) (lanes : List Lane) (handle : Handle) → StandsReady sub n dispatch sites world lanes → IsHeld sub dispatch world handle → CanClose sub world handle
can_close sub n dispatch sites world lanes handle stands held = record {
  known = held.known;
  whole = on_held (λ s id. sub.is_whole s) world dispatch handle.held held.of_dispatch (λ id. stands.whole);
}

pub can_enter : {S : Type 0} (sub : Ghosts S) (n dispatch sites : ℕ) (world : WorldValue S) (lanes : List Lane) (handle : Handle) → StandsReady sub n dispatch sites world lanes → n < 2 ^ 63 → IsHeld sub dispatch world handle → CanEnter sub world handle
can_enter sub n dispatch sites world lanes handle stands early held = record {
  known = held.known;
  whole = on_held (λ s id. sub.is_whole s) world dispatch handle.held held.of_dispatch (λ id. stands.whole);
  few_holds = on_held (λ s id. HasFewHolds (sub.spans s).made id) world dispatch handle.held held.of_dispatch
      (λ id. has_spans sub world dispatch (λ v. HasFewHolds v.made id) (let few = stands.few in let h = few.holds id in omega (arith, h, early)));
}

there_on : {S : Type 0} (sub : Ghosts S) (world : WorldValue S) (held : HeldSpan) → IsKnown sub.spans world held → IsThere world held
there_on sub world None known = tt
there_on sub world (Some h) known = known.0

may_exit : {S : Type 0} (sub : Ghosts S) (dispatch : ℕ) (world : WorldValue S) (lane : ℕ) (held : HeldSpan) → IsKnown sub.spans world held → IsOf held dispatch → IsOpen held lane (spans_in sub.spans world dispatch) → HasOn (λ s id. MayExit (sub.spans s) id lane) world held
may_exit sub dispatch world lane None known own entered = tt
may_exit {S} sub dispatch world lane (Some h) known own entered = λ s there. (
    let here : slice_get world.subscribers dispatch ≡ Some s = subst (λ (d : ℕ). slice_get world.subscribers d ≡ Some s) own there in
    let some : 0 < times_in h.1 (entries_on lane (sub.spans s).lanes) = subst (λ (x : Spans). 0 < times_in h.1 (entries_on lane x.lanes)) (read_there sub world dispatch s here) entered in
    let first = first_if_in (sub.spans s).lanes lane h.1 (any_if_counted (λ x. x == h.1) (entries_on lane (sub.spans s).lanes) some) in
    let holds = known.1 s there in
    (some, λ one. omega (arith, first, holds)))

pub can_exit : {S : Type 0} (sub : Ghosts S) (n dispatch sites : ℕ) (world : WorldValue S) (lane : Lane) (others : List Lane) (guard : EntryGuard) → StandsReady sub n dispatch sites world (lane ∷ others) → IsInside sub dispatch world guard → lane.id ≡ guard.lane → CanExit sub world lane guard
can_exit {S} sub n dispatch sites world lane others guard stands inside here =
    let held = inside.held in
    record {
      on = here;
      there = there_on sub world guard.span.held held.known;
      whole = on_held (λ s id. sub.is_whole s) world dispatch guard.span.held held.of_dispatch (λ id. stands.whole);
      may = subst (λ (l : ℕ). HasOn (λ s id. MayExit (sub.spans s) id l) world guard.span.held) (sym here) (may_exit sub dispatch world guard.lane guard.span.held held.known held.of_dispatch inside.open_still);
      still = on_held (λ s id. AreAttached (sub.kept s) lane) world dispatch guard.span.held held.of_dispatch
          (λ id. λ s there. subst (λ (k : ℕ → ℕ → ℕ). AreAttached k lane) (ap (λ (o : Option S). option_map_or sub.kept o (λ lane number. 0)) there) stands.served.0.attached);
    }

-- a filter was exchanged, or something else that is read of no span and no lane
pub alike_stands : {S : Type 0} (sub : Ghosts S) (n e dispatch sites : ℕ) (old new : WorldValue S) (lanes : List Lane) → KeepsPlainData sub.spans sub.attaches sub.kept sub.is_whole old new e → e ≡ dispatch → new.sites ≡ old.sites → new.global ≡ old.global → StandsReady sub n dispatch sites old lanes → StandsReady sub n dispatch sites new lanes
alike_stands sub n e dispatch sites old new lanes alike is same global stands =
    let a = subst (KeepsPlainData sub.spans sub.attaches sub.kept sub.is_whole old new) is alike in
    stands_after sub n n dispatch sites old new lanes a.count same global a.whole (λ few. subst (AreAtMost n) (sym a.spans_same) few) a.kept_same stands

-- what a call that makes a span asks
module _ {S : Type 0} (sub : Ghosts S) (n dispatch sites : ℕ) (world : WorldValue S) where
  pub can_make : (lane : Lane) (others : List Lane) (site : ℕ) → StandsReady sub n dispatch sites world (lane ∷ others) → n < 2 ^ 63 → site < sites → CanMake sub world lane parent.Current site
  can_make lane others site stands early within = make_at sub n dispatch sites world lane others parent.Current site early within tt stands

  pub can_make_under : (lane : Lane) (others : List Lane) (site : ℕ) (handle : Handle) → StandsReady sub n dispatch sites world (lane ∷ others) → n < 2 ^ 63 → site < sites → IsHeld sub dispatch world handle → CanMake sub world lane (as_parent handle.held) site
  can_make_under lane others site handle stands early within held =
      make_at sub n dispatch sites world lane others (as_parent handle.held) site early within (live_under handle.held (spans_in sub.spans world dispatch) (live_on sub dispatch world handle.held held.of_dispatch held.known)) stands

pub can_ask_held : {S : Type 0} (sub : Ghosts S) (dispatch : ℕ) (world : WorldValue S) (handle : Handle) → IsHeld sub dispatch world handle → CanAsk world handle
can_ask_held sub dispatch world handle held = record { there = there_on sub world handle.held held.known }

-- a handle is of the subscriber of a lane
pub of_lane : {S : Type 0} (sub : Ghosts S) (dispatch : ℕ) (world : WorldValue S) (lane : Lane) (handle : Handle) → IsHeld sub dispatch world handle → ServesLane dispatch world lane → IfSome (dispatch_on lane.default world.global) (IsOf handle.held)
of_lane sub dispatch world lane handle held serves = subst (λ (o : Option ℕ). IfSome o (IsOf handle.held)) (sym serves.serves) held.of_dispatch
