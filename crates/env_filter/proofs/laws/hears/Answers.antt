-- By the laws of the subscriber below.
use Rattle.std.proofs.Common.{◌≡◌, false}
use Rattle.env_filter.proofs.Common.{FilterWithRoom, plain_filter, after_hook, DoesFilter}
use Rattle.env_filter.proofs.kept.StackedLemmas.{over_all_calls, heard}
use Rattle.env_filter.proofs.laws.hears.Goals as goal

pub returns : goal.returns
returns g c s calls t new runs =
    let all = over_all_calls (λ p. p.layer) (λ p. p.inner) g.S.Subscriber.spans g.S.Subscriber.does g.S.Subscriber.same_but_room DoesFilter (λ (l m : FilterWithRoom). plain_filter m ≡ plain_filter l) (λ (l : FilterWithRoom). false) g.S.Subscriber.attaches g.S.Subscriber.kept after_hook plain_filter
    (λ l h m d. d.now) (λ l m e. e) g.met.S.Subscriber.allowed g.met.S.Subscriber.shows g.met.S.Subscriber.keeps_lanes s calls t runs in
    heard _ calls (plain_filter s.layer) (plain_filter t.layer) all.hooks new.alone all.of_calls all.order all.value
