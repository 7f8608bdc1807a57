-- A filter over a subscriber that takes everything admits by the rule of the gate.
use Rattle.std.proofs.Common.{◌≡◌, ℕ, Bool, true, false, Option, None, Some, refl, ap, ◌∙◌, ◌&&◌}
use Rattle.env_filter.proofs.Common.{Callsite, Level, LevelFilter, WorldValue, gate, AdmitsFresh, joint_interest, hint_both, FilterWithRoom, plain_filter, IsWholeFilter, interest_in, hint_in, enables_in, gate_is_admitted, layer_or, sometimes, never_enabled, GateFollows, filter_rule, in_place_rule, IsWholeInPlace, EachSubscriber, AdmitsBy}
use Rattle.trace_base.specs.declared.subscriber.Interest.{Interest}
use Rattle.trace_base.specs.declared.subscriber.Interest.TheVariants as interests

picked_always : (i : Interest) → joint_interest i interests.Always ≡ i
picked_always interests.Never = refl
picked_always interests.Sometimes = refl
picked_always interests.Always = refl

hint_alone : (h : Option LevelFilter) → hint_both h None ≡ h
hint_alone None = refl
hint_alone (Some f) = refl

and_true : (b : Bool) → (b && true) ≡ b
and_true true = refl
and_true false = refl

-- what takes everything adds nothing to the gate
gate_alone : (i under : Interest) (h below : Option LevelFilter) (e takes : Bool) (l : Level) → under ≡ interests.Always → below ≡ None → takes ≡ true
    → gate (joint_interest i under) (hint_both h below) (e && takes) l ≡ gate i h e l
gate_alone i under h below e takes l a n t =
    ap (λ (x : Interest). gate (joint_interest i x) (hint_both h below) (e && takes) l) a
    ∙ ap (λ (x : Option LevelFilter). gate (joint_interest i interests.Always) (hint_both h x) (e && takes) l) n
    ∙ ap (λ (x : Bool). gate (joint_interest i interests.Always) (hint_both h None) (e && x) l) t
    ∙ ap (λ (x : Interest). gate x (hint_both h None) (e && true) l) (picked_always i)
    ∙ ap (λ (x : Option LevelFilter). gate i x (e && true) l) (hint_alone h)
    ∙ ap (λ (x : Bool). gate i h x l) (and_true e)

pub over_all : (f : FilterWithRoom) (under : Interest) (below : Option LevelFilter) (takes : Bool) (lane : ℕ) (c : Callsite) → under ≡ interests.Always → below ≡ None → takes ≡ true → IsWholeFilter (plain_filter f)
    → gate (joint_interest (interest_in (plain_filter f) c) under) (hint_both (Some (hint_in (plain_filter f))) below) (enables_in (plain_filter f) lane c && takes) c.level ≡ filter_rule f lane c
over_all f under below takes lane c a n t w =
    gate_alone (interest_in (plain_filter f) c) under (Some (hint_in (plain_filter f))) below (enables_in (plain_filter f) lane c) takes c.level a n t ∙ gate_is_admitted (plain_filter f) lane c w

pub over_all_in_place : (o : Option FilterWithRoom) (under : Interest) (below : Option LevelFilter) (takes : Bool) (lane : ℕ) (c : Callsite) → under ≡ interests.Always → below ≡ None → takes ≡ true → IsWholeInPlace o
    → gate (joint_interest (layer_or sometimes (λ f. interest_in (plain_filter f)) o c) under) (hint_both (layer_or None (λ f. Some (hint_in (plain_filter f))) o) below) (layer_or never_enabled (λ f. enables_in (plain_filter f)) o lane c && takes) c.level ≡ in_place_rule o lane c
over_all_in_place None under below takes lane c a n t w = gate_alone interests.Sometimes under None below false takes c.level a n t
over_all_in_place (Some f) under below takes lane c a n t w = over_all f under below takes lane c a n t w

pub admits_by : {S : Type 0} (interest : S → Callsite → Interest) (hint : S → Option LevelFilter) (enables : S → ℕ → Callsite → Bool) (holds : S → Type 0) (rule : S → ℕ → Callsite → Bool) → GateFollows interest hint enables holds rule
    → (world : WorldValue S) (lane site : ℕ) (own : Option ℕ) (answer : Bool) → AdmitsFresh interest hint enables world lane site own answer → EachSubscriber holds world → AdmitsBy rule world lane site own answer
admits_by interest hint enables holds rule law world lane site None answer admits all = admits
admits_by interest hint enables holds rule law world lane site (Some d) answer admits all = λ s c there at. admits s c there at ∙ law s lane c (all d s there)
