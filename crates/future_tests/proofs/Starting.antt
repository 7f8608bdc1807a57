-- Worlds of stacks that were just made.
use Rattle.std.proofs.Common.{◌≡◌, ℕ, zero, suc, ◌<◌, List, [], ◌∷◌, ◌++◌, length, Option, Some, refl, sym, ap, subst, ◌∙◌, arith, inl, inr, ◌⊎◌, slice_get, sum_by}
use Rattle.std.proofs.lemmas.List.Sums.{sum_by-cons}
use Rattle.std.proofs.lemmas.Option.{slice_get_within, slice_get_cases}
use Rattle.trace_base.specs.declared.lane.Lane.{Lane}
use Rattle.trace_base.specs.declared.span.Parent.{Parent}
use Rattle.trace_base.specs.declared.span.Parent.TheVariants as parent
use Rattle.trace_base.specs.Gate.{WorldValue, AreSame, IsInWorld, dispatch_on}
use Rattle.trace_base.specs.Spans.{Spans}
use Rattle.trace_base.specs.Conditions.{AreFew, ParentHasFewHolds, IsLiveParent}
use Rattle.span_registry.specs.Registering.{no_spans}
use Rattle.span_handles.specs.Handles.{MayMake, MayMakeIf}
use Rattle.span_futures.specs.Lent.{HasAll, AreAllAttached}
use Rattle.span_futures.specs.Served.{served_lane}
use Rattle.future_tests.specs.Ready.{IsUnused, IsReadyForCalls}

-- one of a list with one more is of the list, or is that one
last_or_before : {S : Type 0} (xs : List S) (s : S) (d : ℕ) (x : S) → slice_get (xs ++ s ∷ []) d ≡ Some x → (slice_get xs d ≡ Some x) ⊎ (s ≡ x)
last_or_before [] s zero x there = inr (cc there)
last_or_before [] s (suc d) x there = absurd (cc there)
last_or_before (y ∷ xs) s zero x there = inl there
last_or_before (y ∷ xs) s (suc d) x there = last_or_before xs s d x there

sum_none : {S : Type 0} (f : S → ℕ) (xs : List S) → ((d : ℕ) (s : S) → slice_get xs d ≡ Some s → f s ≡ 0) → sum_by f xs ≡ 0
sum_none f [] none = refl
sum_none f (x ∷ xs) none =
    let one = none 0 x refl in
    let rest = sum_none f xs (λ d s there. none (suc d) s there) in
    omega (arith, sum_by-cons f x xs, one, rest)

module _ {S : Type 0} (spans : S → Spans) (kept : S → ℕ → ℕ → ℕ) (is_whole : S → Type 0) where
  -- one more was added
  pub unused_more : (same : S → S → Type 0) → ((s t : S) → same s t → spans t ≡ spans s) → ((s t : S) → same s t → kept t ≡ kept s) → ((s t : S) → same s t → is_whole s → is_whole t)
      → (old new : WorldValue S) (stack : S) → AreSame same (old.subscribers ++ stack ∷ []) new.subscribers → HasAll (IsUnused spans kept is_whole) old → IsUnused spans kept is_whole stack → HasAll (IsUnused spans kept is_whole) new
  unused_more same same_spans same_kept same_whole old new stack are all unused d t there = elim (slice_get_cases (old.subscribers ++ stack ∷ []) d).1 [
    | inl here ↦ stays here.0 t (are.each d here.0 t here.2 there) (elim (last_or_before old.subscribers stack d here.0 here.2) [
      | inl before ↦ all d here.0 before
      | inr last ↦ subst (λ (s : S). IsUnused spans kept is_whole s) last unused
    ])
    | inr past ↦ absurd (
        let p = past.0 in
        let w = slice_get_within new.subscribers d t there in
        let c = are.count in
        omega (arith, p, w, c))
  ] where
    stays : (s t : S) → same s t → IsUnused spans kept is_whole s → IsUnused spans kept is_whole t
    stays s t is was = record {
      whole = same_whole s t is was.whole;
      none = same_spans s t is ∙ was.none;
      nothing_kept = λ lane number. ap (λ (k : ℕ → ℕ → ℕ). k lane number) (same_kept s t is) ∙ was.nothing_kept lane number;
    }

  -- nothing is kept attached
  pub none_kept : (world : WorldValue S) (lane : Lane) → HasAll (IsUnused spans kept is_whole) world → AreAllAttached kept world lane
  none_kept world lane all number =
      let e = sum_none (λ s. kept s lane.id number) world.subscribers (λ d s there. (all d s there).nothing_kept lane.id number) in
      omega (arith, e)

  -- a lane whose default is of the world
  pub starts : (world : WorldValue S) (lane : Lane) → HasAll (IsUnused spans kept is_whole) world → IsInWorld world lane.default → IsReadyForCalls kept is_whole world lane
  starts world lane all own = record {
    whole = λ d s there. (all d s there).whole;
    still = none_kept world lane all;
    in_world = own;
  }

  -- a span may be made there
  pub may_make : (world : WorldValue S) (lane : ℕ) (parent : Parent) (d : ℕ) → HasAll (IsUnused spans kept is_whole) world → d < length world.subscribers → IsLiveParent [] parent → ParentHasFewHolds no_spans lane parent
      → MayMake spans is_whole world lane parent d
  may_make world lane parent d all there live few = record {
    there = there;
    whole = λ s is. (all d s is).whole;
    live = λ s is. subst (λ (x : Spans). IsLiveParent x.made parent) (sym (all d s is).none) live;
    few = λ s is. subst (λ (x : Spans). AreFew x) (sym (all d s is).none) (omega arith);
    few_holds = λ s is. subst (λ (x : Spans). ParentHasFewHolds x lane parent) (sym (all d s is).none) few;
  }

  -- the same in a poll under one of them
  pub room_under : (world : WorldValue S) (lane : Lane) (served : Option ℕ) (d : ℕ) → served ≡ Some d → HasAll (IsUnused spans kept is_whole) world → d < length world.subscribers
      → MayMakeIf spans is_whole world (served_lane served lane).id parent.Current (dispatch_on (served_lane served lane).default world.global)
  room_under world lane served d is all there =
      subst (λ (o : Option ℕ). MayMakeIf spans is_whole world (served_lane o lane).id parent.Current (dispatch_on (served_lane o lane).default world.global)) (sym is) (may_make world lane.id parent.Current d all there tt tt)
