-- What is done to subscribers while something is polled, and the moments of that.
use Rattle.std.specs.Prelude.{◌≡◌, ◌≤◌, ℕ, List, [], ◌∷◌, Some, slice_get}
use Rattle.std.specs.List.{All}
use Rattle.trace_base.specs.Gate.{WorldValue}
use Rattle.trace_base.specs.Calls.{SubscriberCall, NewSpan, Records, Follows, Event, Enter, Exit, CloneSpan, TryClose}

-- a call of a subscriber, or something that is done to it beside its calls, at a moment
pub data SubscriberChange : Type 0 where
  Calls : (call : SubscriberCall) → SubscriberChange
  Beside : (at : ℕ) → SubscriberChange

-- the moment of a call, if it has one, is at most this
abbrev pub IsCallUpTo : ℕ → SubscriberCall → Type 0
IsCallUpTo last (NewSpan lane at parent site callsite values) = at ≤ last
IsCallUpTo last (Records id at callsite values) = at ≤ last
IsCallUpTo last (Follows id from at) = at ≤ last
IsCallUpTo last (Event lane at parent site callsite values) = at ≤ last
IsCallUpTo last (Enter id at before later) = at ≤ last
IsCallUpTo last (Exit id at before later) = at ≤ last
IsCallUpTo last (CloneSpan id) = Unit {0}
IsCallUpTo last (TryClose id at) = at ≤ last

abbrev pub IsChangeUpTo : ℕ → SubscriberChange → Type 0
IsChangeUpTo last (Calls call) = IsCallUpTo last call
IsChangeUpTo last (Beside at) = at ≤ last

-- what a change makes of a subscriber
abbrev pub DoesChange : {S : Type 0} → (S → SubscriberCall → S → Type 0) → (ℕ → S → S → Type 0) → S → SubscriberChange → S → Type 0
DoesChange does besides s (Calls call) t = does s call t
DoesChange does besides s (Beside at) t = besides at s t

-- These changes were done to a subscriber, one after another, and nothing else changed it; spare room may have grown.
abbrev pub DoesAll : {S : Type 0} → (S → SubscriberCall → S → Type 0) → (ℕ → S → S → Type 0) → (S → S → Type 0) → S → List SubscriberChange → S → Type 0
DoesAll does besides same s [] t = same s t
DoesAll {S} does besides same s (change ∷ changes) t = (m : S) × (n : S) × same s m × DoesChange does besides m change n × DoesAll does besides same n changes t

-- some changes, none of a later moment than this, and nothing else made one subscriber of another
pub record IsChangedUpTo {S : Type 0} (does : S → SubscriberCall → S → Type 0) (besides : ℕ → S → S → Type 0) (same : S → S → Type 0) (last : ℕ) (s t : S) : Type 0 where
  pub changes : List SubscriberChange
  pub moments : All (IsChangeUpTo last) changes
  pub runs : DoesAll does besides same s changes t

-- Each subscriber of a world is there later on, as such changes made it. Of subscribers that came nothing is said.
abbrev pub ChangesUpTo : {S : Type 0} → (S → SubscriberCall → S → Type 0) → (ℕ → S → S → Type 0) → (S → S → Type 0) → ℕ → WorldValue S → WorldValue S → Type 0
ChangesUpTo {S} does besides same last old new = (dispatch : ℕ) (s : S) → slice_get old.subscribers dispatch ≡ Some s
    → (t : S) × (slice_get new.subscribers dispatch ≡ Some t) × IsChangedUpTo does besides same last s t
