-- What a world begins with, of which a stack that knows no span was added.
use Rattle.std.proofs.Common.{◌≡◌, ℕ, ◌+◌, ◌<◌, ◌≤◌, List, [], ◌∷◌, ◌++◌, length, Option, Some, Result, Ok, Err, refl, sym, ap, subst, ◌∙◌, arith, slice_get, IfOk, OnOk}
use Rattle.traced.proofs.Common.{option_map_or, Callsite, Lane, Ghosts, WorldValue, AreSame, dispatch_on, spans_in, kept_in, StandsAlone, IsLawful, AreAtMost, AreServed, AreAssigned, StandsReady}
use Rattle.std.proofs.lemmas.List.{length-append}
use Rattle.span_registry.specs.Registering.{no_spans}
use Rattle.traced.proofs.Moves.{get_there}

-- the last one of a list
get_last : {X : Type 0} (xs : List X) (x : X) → slice_get (xs ++ x ∷ []) (length xs) ≡ Some x
get_last [] x = refl
get_last (y ∷ xs) x = get_last xs x

all_served : (global : Option ℕ) (kept : ℕ → ℕ → ℕ) (dispatch : ℕ) (lanes : List Lane) → ((lane number : ℕ) → kept lane number ≡ 0) → AreAssigned global dispatch lanes → AreServed global kept dispatch lanes
all_served global kept dispatch [] none on = tt
all_served global kept dispatch (lane ∷ lanes) none on = (
  record { serves = on.0; attached = λ number. (let z = none lane.id number in omega (arith, z)) },
  on.1,
  all_served global kept dispatch lanes none on.2,
)

pub begins : {S : Type 0} (sub : Ghosts S) (law : IsLawful sub) (first : S) → sub.is_whole first → sub.spans first ≡ no_spans → ((lane number : ℕ) → sub.kept first lane number ≡ 0) → (before : List S) (world : WorldValue S) → AreSame sub.same_but_room (before ++ first ∷ []) world.subscribers
    → (sites : ℕ) → sites ≤ length world.sites → (dispatch : ℕ) → dispatch ≡ length before → (lanes : List Lane) → AreAssigned world.global dispatch lanes → StandsReady sub 0 dispatch sites world lanes
begins {S} sub law first whole none nothing before world are sites declared dispatch is lanes on =
    let count = are.count in
    let within : dispatch < length world.subscribers = omega (arith, count, is, length-append before (first ∷ [])) in
    let g = get_there world.subscribers dispatch within in
    let added : slice_get (before ++ first ∷ []) dispatch ≡ Some first = ap (slice_get (before ++ first ∷ [])) is ∙ get_last before first in
    let as_added : sub.same_but_room first g.0 = are.each dispatch first g.0 added g.1 in
    let shown : spans_in sub.spans world dispatch ≡ no_spans = ap (λ (o : Option S). option_map_or sub.spans o no_spans) g.1 ∙ law.same_spans first g.0 as_added ∙ none in
    let keeps : kept_in sub.kept world dispatch ≡ sub.kept first = ap (λ (o : Option S). option_map_or sub.kept o (λ lane number. 0)) g.1 ∙ law.same_kept first g.0 as_added in
    record {
      there = within;
      whole = λ s here. (let e : g.0 ≡ s = cc (sym g.1 ∙ here) in subst sub.is_whole e (law.same_whole first g.0 as_added whole));
      few = subst (AreAtMost 0) (sym shown) (record { spans = omega arith; holds = λ id. omega arith });
      declared = declared;
      served = all_served world.global (kept_in sub.kept world dispatch) dispatch lanes (λ lane number. ap (λ (k : ℕ → ℕ → ℕ). k lane number) keeps ∙ nothing lane number) on;
    }

pub begins_if : {S E : Type 0} (sub : Ghosts S) (law : IsLawful sub) (first : S) → sub.is_whole first → sub.spans first ≡ no_spans → ((lane number : ℕ) → sub.kept first lane number ≡ 0) → (before world : WorldValue S) (result : Result ℕ E) → OnOk result (AreSame sub.same_but_room (before.subscribers ++ first ∷ []) world.subscribers)
    → IfOk result (λ dispatch. dispatch ≡ length before.subscribers) → world.sites ≡ before.sites → IfOk result (λ dispatch. (sites : ℕ) (lanes : List Lane) → sites ≤ length before.sites → AreAssigned world.global dispatch lanes → StandsReady sub 0 dispatch sites world lanes)
begins_if sub law first whole none nothing before world (Ok dispatch) are is same = λ sites lanes within on. begins sub law first whole none nothing before.subscribers world are sites (let e = ap (λ (cs : List Callsite). length cs) same in omega (arith, e, within)) dispatch is lanes on
begins_if sub law first whole none nothing before world (Err refused) are is same = tt

-- it is one subscriber more
pub one_more : {S E : Type 0} (sub : Ghosts S) (first : S) (before world : WorldValue S) (result : Result ℕ E) → OnOk result (AreSame sub.same_but_room (before.subscribers ++ first ∷ []) world.subscribers) → OnOk result (length world.subscribers ≡ length before.subscribers + 1)
one_more sub first before world (Ok dispatch) are = (let c = are.count in omega (arith, c, length-append before.subscribers (first ∷ [])))
one_more sub first before world (Err refused) are = tt

-- the only stack of a world serves two lanes with ids of their own
pub alone_two : {S : Type 0} {sub : Ghosts S} {world : WorldValue S} {dispatch : ℕ} {front back : Lane} (old : WorldValue S) (sites : ℕ) → dispatch ≡ 0 → length world.subscribers ≡ 1 → sites ≤ length old.sites → front.default ≡ Some dispatch → back.default ≡ Some dispatch → (back.id ≡ front.id → ⊥)
    → ((sites : ℕ) (lanes : List Lane) → sites ≤ length old.sites → AreAssigned world.global dispatch lanes → StandsReady sub 0 dispatch sites world lanes) → StandsAlone sub 0 sites world (front ∷ back ∷ [])
alone_two {S} {sub} {world} {dispatch} {front} {back} old sites first alone within one other apart begins =
    let serves : (lane : Lane) → lane.default ≡ Some dispatch → dispatch_on lane.default world.global ≡ Some dispatch = λ lane own. ap (λ (o : Option ℕ). dispatch_on o world.global) own in
    record {
      stands = subst (λ (d : ℕ). StandsReady sub 0 d sites world (front ∷ back ∷ [])) first (begins sites (front ∷ back ∷ []) within (serves front one, (apart, tt), (serves back other, tt, tt)));
      alone = alone;
    }

-- the same behind the call that starts it
pub starts_two : {S : Type 0} {sub : Ghosts S} {world : WorldValue S} {dispatch sites : ℕ} {front back : Lane} (old : WorldValue S) → dispatch ≡ length old.subscribers → length old.subscribers ≡ 0 → length world.subscribers ≡ length old.subscribers + 1 → sites ≤ length old.sites → front.default ≡ Some dispatch → back.default ≡ Some dispatch → (back.id ≡ front.id → ⊥)
    → ((sites : ℕ) (lanes : List Lane) → sites ≤ length old.sites → AreAssigned world.global dispatch lanes → StandsReady sub 0 dispatch sites world lanes) → StandsAlone sub 0 sites world (front ∷ back ∷ [])
starts_two {dispatch = dispatch} {sites = sites} old is none count within one other apart begins =
    let first : dispatch ≡ 0 = omega (arith, is, none) in
    alone_two old sites first (omega (arith, count, none)) within one other apart begins
