-- The cached interests of a stack whose parts took room.
use Rattle.std.proofs.Common.{◌≡◌, List, Option, None, refl, sym, ap, ◌∙◌}
use Rattle.span_stack.proofs.Common.{Callsite, LevelFilter, Interest, AreSame, interests_of_sites, registered_same, joint_interest, FilterState, FilterWithRoom, plain_filter, interest_in, sometimes, both_alike, SubscriberStack, StackWorld, stack_interest, HasCurrentInterests, Layered, Recording, MeasuresWithRoom, waiting_measures}
use Rattle.trace_base.specs.declared.subscriber.Interest.TheVariants as interests
use Rattle.span_stack.proofs.hooks.CountersLemmas.{Base, base_room, base_recorded, base_counter, base_same, counter_same}
use Rattle.span_stack.proofs.hooks.GaugesLemmas.{unchanged}
use Rattle.span_stack.proofs.worlds.ExchangesLemmas.{room_over}

-- what lies below the filter
abbrev pub Middle : Type 0
Middle = Layered MeasuresWithRoom Base

abbrev pub middle_room : Middle → Middle → Type 0
middle_room s t = base_room s.inner t.inner × unchanged s.layer t.layer

abbrev pub middle_recorded : Middle → Recording
middle_recorded s = base_recorded s.inner

abbrev pub middle_counter : Middle → Option FilterState
middle_counter s = base_counter s.inner

pub middle_same : (s t : Middle) → middle_room s t → middle_recorded t ≡ middle_recorded s
middle_same s t h = base_same s.inner t.inner h.0

pub middle_counts : (s t : Middle) → middle_room s t → middle_counter t ≡ middle_counter s
middle_counts s t h = counter_same s.inner t.inner h.0

pub middle_measures : (s t : Middle) → middle_room s t → waiting_measures t ≡ waiting_measures s
middle_measures s t h = h.1

interest_same : (s t : SubscriberStack) → room_over middle_room s t → stack_interest t ≡ stack_interest s
interest_same s t h =
    let pick : (Callsite → Interest) → Callsite → Interest = λ f c. joint_interest (f c) interests.Always in
    ap pick (both_alike (λ (a b : FilterWithRoom). plain_filter b ≡ plain_filter a) (Unit {0}) sometimes (λ f. interest_in (plain_filter f)) (λ l m e. ap interest_in e) s.layer.inner t.layer.inner h.1)

pub current_left : (old new : StackWorld) → AreSame (room_over middle_room) old.subscribers new.subscribers → new.cached ≡ old.cached → new.sites ≡ old.sites → HasCurrentInterests old → HasCurrentInterests new
current_left old new all cached sites is =
    let none : SubscriberStack → Option LevelFilter = λ s. None in
    cached ∙ is ∙ sym (registered_same (room_over middle_room) stack_interest none (λ s t h. (interest_same s t h, refl)) old.subscribers new.subscribers old.sites all)
    ∙ ap (λ (cs : List Callsite). interests_of_sites stack_interest new.subscribers cs) (sym sites)
