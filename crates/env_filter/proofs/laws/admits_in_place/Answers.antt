-- What lies below adds nothing to the gate.
use Rattle.std.proofs.Common.{None, Some, ◌&&◌}
use Rattle.env_filter.proofs.Common.{fresh_admits, dispatch_on, joint_interest, hint_both, plain_filter, interest_in, hint_in, enables_in, layer_or, sometimes, never_enabled, in_place_rule, IsWholeInPlace}
use Rattle.env_filter.proofs.Worlds.{admits_by, over_all_in_place}
use Rattle.env_filter.proofs.laws.admits_in_place.Goals as goal

pub returns : goal.returns
returns g c =
    let takes = c.requires.below in
    let own = dispatch_on c.args.lane.now.default c.args.world.now.global in
    admits_by (λ s d. joint_interest (layer_or sometimes (λ f. interest_in (plain_filter f)) s.layer.inner d) (g.S.Subscriber.interest s.inner d)) (λ s. hint_both (layer_or None (λ f. Some (hint_in (plain_filter f))) s.layer.inner) (g.S.Subscriber.hint s.inner))
    (λ s lane d. layer_or never_enabled (λ f. enables_in (plain_filter f)) s.layer.inner lane d && g.S.Subscriber.enables s.inner lane d) (λ s. IsWholeInPlace s.layer.inner) (λ s. in_place_rule s.layer.inner)
    (λ s lane d w. over_all_in_place s.layer.inner _ _ _ lane d (takes.always s.inner d) (takes.no_hint s.inner) (takes.enabled s.inner lane d) w) c.args.world.now c.args.lane.now.id c.args.site own c.admits.result
    (fresh_admits _ _ (λ s lane d. layer_or never_enabled (λ f. enables_in (plain_filter f)) s.layer.inner lane d && g.S.Subscriber.enables s.inner lane d) c.args.world.now c.args.lane.now.id c.args.site own c.admits.result c.admits.ensures c.requires.fresh) c.requires.whole
