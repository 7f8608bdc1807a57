-- Past the loop no entry is of the span on the lane, and one has to be.
use Rattle.std.proofs.Common.{◌≡◌, ℕ, false, drop, subst, arith}
use Rattle.otel_layer.proofs.Common.{list_any, is_token}
use Rattle.trace_base.proofs.EntryLemmas.{none_counted}
use Rattle.otel_layer.proofs.layer.tokens.last_place.Goals as goal

pub returns : goal.returns
returns c =
    let start : c.loop-at.at ≡ 0 = omega arith in
    let none = none_counted (is_token c.args.lane c.args.id) c.args.tokens.now (subst (λ (n : ℕ). list_any (is_token c.args.lane c.args.id) (drop n c.args.tokens.now) ≡ false) start c.loop-at.invariant.none) in
    absurd (omega (arith, none, c.requires))
