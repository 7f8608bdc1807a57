-- What lies below adds nothing to the gate.
use Rattle.std.proofs.Common.{Some, ◌&&◌}
use Rattle.env_filter.proofs.Common.{fresh_admits, dispatch_on, joint_interest, hint_both, plain_filter, IsWholeFilter, interest_in, hint_in, enables_in, filter_rule}
use Rattle.env_filter.proofs.Worlds.{admits_by, over_all}
use Rattle.env_filter.proofs.laws.admits.Goals as goal

pub returns : goal.returns
returns g c =
    let takes = c.requires.below in
    let own = dispatch_on c.args.lane.now.default c.args.world.now.global in
    admits_by (λ s d. joint_interest (interest_in (plain_filter s.layer) d) (g.S.Subscriber.interest s.inner d)) (λ s. hint_both (Some (hint_in (plain_filter s.layer))) (g.S.Subscriber.hint s.inner)) (λ s lane d. enables_in (plain_filter s.layer) lane d && g.S.Subscriber.enables s.inner lane d)
    (λ s. IsWholeFilter (plain_filter s.layer)) (λ s. filter_rule s.layer) (λ s lane d w. over_all s.layer _ _ _ lane d (takes.always s.inner d) (takes.no_hint s.inner) (takes.enabled s.inner lane d) w) c.args.world.now c.args.lane.now.id c.args.site own c.admits.result
    (fresh_admits _ _ (λ s lane d. enables_in (plain_filter s.layer) lane d && g.S.Subscriber.enables s.inner lane d) c.args.world.now c.args.lane.now.id c.args.site own c.admits.result c.admits.ensures c.requires.fresh) c.requires.whole
