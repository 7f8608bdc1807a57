-- A stack admits by the rule of the filter in place: what lies below takes everything.
use Rattle.std.proofs.Common.{◌≡◌, ℕ, Bool, true, Option, Some, None, refl, ap, ◌∙◌, slice_get, ◌&&◌}
use Rattle.span_stack.proofs.Common.{option_map_or, Callsite, LevelFilter, Admits, IsFresh, fresh_admits, hint_both, Has, read_subscriber, FilterState, FilterWithRoom, plain_filter, IsWholeFilter, hint_in, enables_in, is_admitted, layer_or, HoldsIfThere, never_enabled, SubscriberStack, StackWorld, filter_in_place, stack_interest}
use Rattle.std.specs.Option.{option_map}
use Rattle.trace_base.specs.declared.subscriber.Interest.TheVariants as interests
use Rattle.env_filter.specs.Worlds.{in_place_rule, IsWholeInPlace}
use Rattle.env_filter.proofs.Worlds.{over_all_in_place}

abbrev pub hint_over : SubscriberStack → Option LevelFilter
hint_over s = hint_both (layer_or None (λ f. Some (hint_in (plain_filter f))) s.layer.inner) None

abbrev pub enables_over : SubscriberStack → ℕ → Callsite → Bool
enables_over s lane c = layer_or never_enabled (λ f. enables_in (plain_filter f)) s.layer.inner lane c && true

-- what is read of a subscriber was there to be read
record ReadOf {S A : Type 0} (read : S → Option A) (o : Option S) (a : A) : Type 0 where
  from : S
  there : o ≡ Some from
  is : read from ≡ Some a

read_of : {S A : Type 0} (read : S → Option A) (o : Option S) (a : A) → option_map_or read o None ≡ Some a → ReadOf read o a
read_of read None a e = absurd (cc e)
read_of read (Some s) a e = record { from = s; there = refl; is = e }

rule_of : (o : Option FilterWithRoom) (f : FilterState) (lane : ℕ) (c : Callsite) → option_map plain_filter o ≡ Some f → in_place_rule o lane c ≡ is_admitted f lane c
rule_of None f lane c e = absurd (cc e)
rule_of (Some g) f lane c e = (let same : plain_filter g ≡ f = cc e in ap (λ (x : FilterState). is_admitted x lane c) same)

whole_in : (o : Option FilterWithRoom) → HoldsIfThere (λ f. IsWholeFilter (plain_filter f)) o → IsWholeInPlace o
whole_in None w = tt
whole_in (Some f) w = w

pub admits_by_rule : (world : StackWorld) (dispatch lane site : ℕ) (answer : Bool) → Admits hint_over enables_over world lane site (Some dispatch) answer → IsFresh stack_interest world
    → Has (λ (s : SubscriberStack). HoldsIfThere (λ f. IsWholeFilter (plain_filter f)) s.layer.inner) world dispatch
    → (f : FilterState) (c : Callsite) → read_subscriber filter_in_place None world dispatch ≡ Some f → slice_get world.sites site ≡ Some c → answer ≡ is_admitted f lane c
admits_by_rule world dispatch lane site answer admits fresh whole f c in_force at =
    let read = read_of filter_in_place (slice_get world.subscribers dispatch) f in_force in
    let o = read.from.layer.inner in
    fresh_admits stack_interest hint_over enables_over world lane site (Some dispatch) answer admits fresh read.from c read.there at
    ∙ over_all_in_place o interests.Always None true lane c refl refl refl (whole_in o (whole read.from read.there)) ∙ rule_of o f lane c read.is
