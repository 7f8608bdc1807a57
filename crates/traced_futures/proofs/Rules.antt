-- What polls ask for, and leave behind.
use Rattle.std.proofs.Common.{◌≡◌, ℕ, ◌+◌, ◌≤◌, zero, suc, List, [], ◌∷◌, length, Option, Some, None, Ok, refl, sym, ap, ◌∙◌, subst, arith, slice_get, sum_by}
use Rattle.std.specs.Option.{option_map_or}
use Rattle.std.proofs.lemmas.List.Sums.{sum_by-cons}
use Rattle.std.proofs.lemmas.Option.{slice_get_within}
use Rattle.trace_base.specs.declared.field.ValueSet.{ValueSet}
use Rattle.trace_base.specs.declared.lane.Lane.{Lane}
use Rattle.trace_base.specs.declared.span.Parent.{Parent}
use Rattle.trace_base.specs.declared.subscriber.Subscriber.{Ghosts}
use Rattle.trace_base.specs.Gate.{WorldValue}
use Rattle.span_handles.specs.Handles.{Handle}
use Rattle.span_futures.specs.declared.instrument.Instrumented.{Instrumented}
use Rattle.traced.specs.Standing.{IsHeld}
use Rattle.traced.specs.Keeping.{StandsAlone, StandsWith, RestoresWorld}
use Rattle.traced.specs.Making.{MakesIfGateAdmits}
use Rattle.traced.specs.Moving.{Closes}
use Rattle.traced.proofs.AsksLemmas.{asking}
use Rattle.traced.proofs.KeptLemmas.{same_ids, held_made, ready_made, ready_late, keeps_late, keeps_again, keeps_closed}
use Rattle.traced.proofs.Moves.{later}
use Rattle.traced.proofs.Rules.{own_there}
use Rattle.traced.proofs.changes.Between.{makes_and_closes}
use Rattle.traced.proofs.changes.Steps.{held_after}
use Rattle.traced_futures.specs.Polling.{CanLend, Polls, KeepsFuture, RunsUnder}

-- the only one of a list, and its sum
only_first : {S : Type 0} (P : S → Type 0) (xs : List S) → length xs ≡ 1 → ((s : S) → slice_get xs 0 ≡ Some s → P s) → (d : ℕ) (s : S) → slice_get xs d ≡ Some s → P s
only_first {S} P xs one first zero s there = first s there
only_first {S} P xs one first (suc d) s there = absurd (let w = slice_get_within xs (suc d) s there in omega (arith, w, one))

only_sum : {S : Type 0} (f : S → ℕ) (xs : List S) → length xs ≡ 1 → sum_by f xs ≡ option_map_or f (slice_get xs 0) 0
only_sum f [] one = absurd (omega (arith, one))
only_sum f (x ∷ []) one = (let e = sum_by-cons f x [] in omega (arith, e))
only_sum f (x ∷ y ∷ xs) one = absurd (omega (arith, one))

read_kept : {S : Type 0} (kept : S → ℕ → ℕ → ℕ) (lane number : ℕ) (o : Option S) → option_map_or kept o (λ l k. 0) lane number ≡ option_map_or (λ (s : S). kept s lane number) o 0
read_kept kept lane number None = refl
read_kept kept lane number (Some s) = refl

module _ {S : Type 0} {sub : Ghosts S} {n sites : ℕ} {world : WorldValue S} {lane : Lane} {others : List Lane} (ready : StandsAlone sub n sites world (lane ∷ others)) where
  -- the only subscriber of a world serves a lane, so both may be lent
  pub may_lend : CanLend sub world lane
  may_lend = record {
    whole = only_first sub.is_whole world.subscribers ready.alone ready.stands.whole;
    in_world = own_there world 0 lane.default world.global ready.stands.there ready.stands.served.0.serves;
    still = λ number. (
        let sum = only_sum (λ (s : S). sub.kept s lane.id number) world.subscribers ready.alone in
        let kept = ready.stands.served.0.attached number in
        let read = read_kept sub.kept lane.id number (slice_get world.subscribers 0) in
        omega (arith, sum, kept, read));
  }

  -- a poll is one entry more, and leaves all as it was
  pub keeps_polled : {m : ℕ} {new : WorldValue S} {left : Lane} {handle : Handle} → Polls sub world new lane left handle → IsHeld sub 0 world handle → n + 1 ≤ m → RestoresWorld sub m sites world (lane ∷ others) new (left ∷ others)
  keeps_polled {m} {new} {left} polls held within = record {
    ready = record { stands = later sub (n + 1) m 0 sites new (left ∷ others) within (polls.stands n 0 sites others held ready.stands); alone = polls.count ∙ ready.alone };
    ids = (polls.lane_id, same_ids others);
    restores = polls.as_before 0 held;
  }

-- the span that a poll leaves is held on
pub held_polled : {S : Type 0} {sub : Ghosts S} {old new : WorldValue S} {before left : Lane} {handle other : Handle} → Polls sub old new before left handle → IsHeld sub 0 old handle → other ≡ handle → IsHeld sub 0 new other
held_polled {S} {sub} {old} {new} {handle = handle} polls held same = subst (IsHeld sub 0 new) (sym same) (held_after sub 0 old new handle (polls.as_before 0 held) held)

pub one_span : {T : Type 0} {future other : Instrumented T} → future ≡ other → future.span ≡ other.span
one_span {T} same = ap (λ (f : Instrumented T). f.span) same

module _ {T S : Type 0} {sub : Ghosts S} {n sites : ℕ} where
  -- one poll
  pub future_polled : {m : ℕ} {old new : WorldValue S} {lane left : Lane} {others : List Lane} {future later : Instrumented T} → StandsWith sub n sites old (lane ∷ others) future.span → Polls sub old new lane left future.span → later.span ≡ future.span → n + 1 ≤ m
      → KeepsFuture sub m sites future old (lane ∷ others) later new (left ∷ others)
  future_polled {later = later} ready polls same within = record { keeps = keeps_polled ready.ready polls ready.held within; span = same; held = held_polled {other = later.span} polls ready.held same }

  -- some more
  pub future_late : {m : ℕ} {old new : WorldValue S} {lanes left : List Lane} {future later : Instrumented T} → KeepsFuture sub n sites future old lanes later new left → n ≤ m → KeepsFuture sub m sites future old lanes later new left
  future_late keeps within = record { keeps = keeps_late keeps.keeps within; span = keeps.span; held = keeps.held }

  pub future_again : {k m : ℕ} {old mid new : WorldValue S} {lanes between left : List Lane} {future asked later : Instrumented T} → KeepsFuture sub n sites future old lanes asked mid between → KeepsFuture sub k sites asked mid between later new left → k ≤ m → KeepsFuture sub m sites future old lanes later new left
  future_again first last within = record { keeps = keeps_late (keeps_again first.keeps last.keeps) within; span = last.span ∙ first.span; held = last.held }

  pub with_future : {m : ℕ} {old new : WorldValue S} {lanes left : List Lane} {future later : Instrumented T} → KeepsFuture sub n sites future old lanes later new left → n ≤ m → StandsWith sub m sites new left later.span
  with_future keeps within = record { ready = ready_late keeps.keeps.ready within; held = keeps.held }

  -- a future that is put under a span
  module _ {old begun : WorldValue S} {lane : Lane} {others : List Lane} {at site : ℕ} {parent : Parent} {values : ValueSet} {handle : Handle} {inner : T} {future : Instrumented T} (ready : StandsAlone sub n sites old (lane ∷ others)) (makes : MakesIfGateAdmits sub old begun lane at parent site values (Ok handle)) (is : future ≡ record { inner = inner; span = handle }) where
    pub with_instrumented : {m : ℕ} → n + 1 ≤ m → StandsWith sub m sites begun (lane ∷ others) future.span
    with_instrumented within = record { ready = ready_made ready makes within; held = subst (IsHeld sub 0 begun) (sym (one_span is)) (held_made ready makes) }

    -- and is closed
    module _ {m ends : ℕ} {ended new : WorldValue S} {left : List Lane} {later : Instrumented T} (keeps : KeepsFuture sub m sites future begun (lane ∷ others) later ended left) (closing : Closes sub ended new ends later.span) where
      closes : Closes sub ended new ends handle
      closes = subst (Closes sub ended new ends) (keeps.span ∙ one_span is) closing

      pub keeps_under : RestoresWorld sub m sites old (lane ∷ others) new left
      keeps_under = keeps_closed ready makes keeps.keeps closes

      pub runs_under : {between : Instrumented T → WorldValue S → Instrumented T → WorldValue S → Type 0} → between future begun later ended → RunsUnder sub lane parent site values at ends inner between old new
      runs_under {between} meanwhile = record { runs = makes_and_closes makes (later, subst (λ (f : Instrumented T). between f begun later ended) is meanwhile) closes }

pub ruleset polling = (asking, may_lend, keeps_polled, held_polled, future_polled, future_late, future_again, with_future, with_instrumented)
