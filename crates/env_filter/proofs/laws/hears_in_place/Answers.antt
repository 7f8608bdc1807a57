-- By the laws of the subscriber below.
use Rattle.std.proofs.Common.{◌≡◌, Option, ap, refl, ◌∙◌, false, fold}
use Rattle.std.specs.Option.{option_map}
use Rattle.env_filter.proofs.Common.{LeavesLanes, FilterState, FilterWithRoom, plain_filter, after_hook, DoesFilter, BothOrNeither, layer_or}
use Rattle.env_filter.proofs.kept.StackedLemmas.{over_all_calls, heard, step_in_place, does_in_place, same_in_place, fold_in_place}
use Rattle.env_filter.proofs.laws.hears_in_place.Goals as goal

pub returns : goal.returns
returns g c s calls t f there new runs =
    let all = over_all_calls (λ p. p.layer) (λ p. p.inner) g.S.Subscriber.spans g.S.Subscriber.does g.S.Subscriber.same_but_room (λ l hook m. BothOrNeither (λ a b. DoesFilter a hook b) (LeavesLanes hook) l.inner m.inner)
    (λ l m. BothOrNeither (λ (a b : FilterWithRoom). plain_filter b ≡ plain_filter a) (Unit {0}) l.inner m.inner) (λ l. layer_or false (λ _. false) l.inner) g.S.Subscriber.attaches g.S.Subscriber.kept step_in_place (λ l. option_map plain_filter l.inner)
    (λ l h m d. does_in_place (LeavesLanes h) h l.inner m.inner d) (λ l m e. same_in_place (Unit {0}) l.inner m.inner e) g.met.S.Subscriber.allowed g.met.S.Subscriber.shows g.met.S.Subscriber.keeps_lanes s calls t runs in
    let later = all.value ∙ ap (λ (o : Option FilterState). fold step_in_place o all.hooks) there ∙ fold_in_place all.hooks f in
    record { filter = fold after_hook f all.hooks; in_place = later; heard = heard _ calls f (fold after_hook f all.hooks) all.hooks new.alone all.of_calls all.order refl }
