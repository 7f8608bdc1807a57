-- A layer that can be exchanged, and that does nothing once it was retired.
use Rattle.std.proofs.Common.{◌≡◌, ℕ, ◌+◌, Bool, true, false, Option, Some, None, refl, sym, ap}
use Rattle.trace_base.specs.declared.callsite.Callsite.{Callsite}
use Rattle.trace_base.specs.declared.subscriber.Interest.{Interest}
use Rattle.trace_base.specs.declared.subscriber.Interest.TheVariants as interests
use Rattle.trace_base.specs.declared.lane.Lane.{Lane}
use Rattle.trace_base.specs.layers.Hooks.{Hook, OnEnter, KnownSpans, Sees, HookKeepsLanes}
use Rattle.trace_base.specs.layers.Unseeing.{no_known_spans, LeavesLanes, unseeing_sees, unseeing_lanes}

abbrev pub layer_or : {L V : Type 0} → V → (L → V) → Option L → V
layer_or none value None = none
layer_or none value (Some l) = value l

abbrev pub HoldsIfThere : {L : Type 0} → (L → Type 0) → Option L → Type 0
HoldsIfThere P None = Unit {0}
HoldsIfThere P (Some l) = P l

-- both are there and related, or neither is there
abbrev pub BothOrNeither : {L M : Type 0} → (L → M → Type 0) → Type 0 → Option L → Option M → Type 0
BothOrNeither R none None None = none
BothOrNeither R none None (Some m) = ⊥
BothOrNeither R none (Some l) None = ⊥
BothOrNeither R none (Some l) (Some m) = R l m

-- what is in place was lent, or changed
abbrev pub HoldsInPlace : {L : Type 0} → (L → Type 0) → Option L → Type 0
HoldsInPlace P None = ⊥
HoldsInPlace P (Some l) = P l

abbrev pub IsChanged : {L : Type 0} → (L → L → Type 0) → Option L → Option L → Type 0
IsChanged R old new = BothOrNeither R ⊥ old new

-- the one that is in place goes out, and the other comes in; a retired layer stays, and so does the other
abbrev pub Swaps : {L : Type 0} → Option L → L → Option L → L → Type 0
Swaps None other now out = (now ≡ None) × (out ≡ other)
Swaps (Some layer) other now out = (now ≡ Some other) × (out ≡ layer)

pub both_refl : {L : Type 0} (R : L → L → Type 0) → ((l : L) → R l l) → (o : Option L) → BothOrNeither R (Unit {0}) o o
both_refl R r None = tt
both_refl R r (Some l) = r l

pub both_trans : {L : Type 0} (R : L → L → Type 0) → ((l m n : L) → R l m → R m n → R l n) → (o p q : Option L) → BothOrNeither R (Unit {0}) o p → BothOrNeither R (Unit {0}) p q → BothOrNeither R (Unit {0}) o q
both_trans R r None None None h k = tt
both_trans R r None None (Some n) h k = k
both_trans R r None (Some m) q h k = absurd h
both_trans R r (Some l) None q h k = absurd h
both_trans R r (Some l) (Some m) None h k = k
both_trans R r (Some l) (Some m) (Some n) h k = r l m n h k

-- a part that related ones have alike
pub both_alike : {L V : Type 0} (R : L → L → Type 0) (N : Type 0) (none : V) (value : L → V) → ((l m : L) → R l m → value m ≡ value l) → (o p : Option L) → BothOrNeither R N o p → layer_or none value p ≡ layer_or none value o
both_alike R N none value same None None h = refl
both_alike R N none value same None (Some m) h = absurd h
both_alike R N none value same (Some l) None h = absurd h
both_alike R N none value same (Some l) (Some m) h = same l m h

pub both_keep : {L : Type 0} (R : L → L → Type 0) (N : Type 0) (P : L → Type 0) → ((l m : L) → R l m → P l → P m) → (o p : Option L) → BothOrNeither R N o p → HoldsIfThere P o → HoldsIfThere P p
both_keep R N P keeps None None h w = tt
both_keep R N P keeps None (Some m) h w = absurd h
both_keep R N P keeps (Some l) None h w = absurd h
both_keep R N P keeps (Some l) (Some m) h w = keeps l m h w

pub both_compose : {L : Type 0} (R S : L → L → Type 0) (N : Type 0) → ((l m n : L) → R l m → S m n → S l n) → (o p q : Option L) → BothOrNeither R (Unit {0}) o p → BothOrNeither S N p q → BothOrNeither S N o q
both_compose R S N r None None q h k = k
both_compose R S N r None (Some m) q h k = absurd h
both_compose R S N r (Some l) None q h k = absurd h
both_compose R S N r (Some l) (Some m) None h k = k
both_compose R S N r (Some l) (Some m) (Some n) h k = r l m n h k

pub both_see : {L : Type 0} (seen : L → KnownSpans) (does : L → Hook → L → Type 0) (N : Type 0) (hook : Hook) → ((l m : L) → does l hook m → Sees (seen l) hook (seen m)) → (o p : Option L) → BothOrNeither (λ l m. does l hook m) N o p
    → Sees (layer_or no_known_spans seen o) hook (layer_or no_known_spans seen p)
both_see seen does N hook sees None None h = unseeing_sees hook
both_see seen does N hook sees None (Some m) h = absurd h
both_see seen does N hook sees (Some l) None h = absurd h
both_see seen does N hook sees (Some l) (Some m) h = sees l m h

-- what a retired layer keeps attached, and answers
abbrev pub none_kept : ℕ → ℕ → ℕ
none_kept lane number = 0

pub both_lanes : {L : Type 0} (attaches : L → Bool) (kept : L → ℕ → ℕ → ℕ) (does : L → Hook → L → Type 0) (hook : Hook) → ((l m : L) → does l hook m → HookKeepsLanes (attaches l) (kept l) hook (kept m))
    → (o p : Option L) → BothOrNeither (λ l m. does l hook m) (LeavesLanes hook) o p → HookKeepsLanes (layer_or false attaches o) (layer_or none_kept kept o) hook (layer_or none_kept kept p)
both_lanes attaches kept does hook lanes None None h = unseeing_lanes hook h
both_lanes attaches kept does hook lanes None (Some m) h = absurd h
both_lanes attaches kept does hook lanes (Some l) None h = absurd h
both_lanes attaches kept does hook lanes (Some l) (Some m) h = lanes l m h

pub none_kept_through : {L : Type 0} (seen : L → KnownSpans) (kept : L → ℕ → ℕ → ℕ) (lane number : ℕ) → ((l : L) → ((id : ℕ) → (seen l).entries lane id ≡ 0) → kept l lane number ≡ 0) → (o : Option L)
    → ((id : ℕ) → (layer_or no_known_spans seen o).entries lane id ≡ 0) → layer_or none_kept kept o lane number ≡ 0
none_kept_through seen kept lane number by_entries None none = refl
none_kept_through seen kept lane number by_entries (Some l) none = by_entries l none

-- an entry that a retired layer is told of leaves the lane as it is
pub both_passive : {L : Type 0} (seen : L → KnownSpans) (does : L → Hook → L → Type 0) (id at : ℕ) (before later : Lane) → ((l m : L) → does l (OnEnter id at before later) m → (seen l).knows id ≡ false → later.contexts.live ≡ before.contexts.live) → (o p : Option L)
    → BothOrNeither (λ l m. does l (OnEnter id at before later) m) (later ≡ before) o p → (layer_or no_known_spans seen o).knows id ≡ false → later.contexts.live ≡ before.contexts.live
both_passive seen does id at before later passive None None h unknown = ap (λ (l : Lane). l.contexts.live) h
both_passive seen does id at before later passive None (Some m) h unknown = absurd h
both_passive seen does id at before later passive (Some l) None h unknown = absurd h
both_passive seen does id at before later passive (Some l) (Some m) h unknown = passive l m h unknown

abbrev pub sometimes : Callsite → Interest
sometimes c = interests.Sometimes

abbrev pub never_enabled : ℕ → Callsite → Bool
never_enabled lane c = false
