-- The value at the place meets it.
use Rattle.std.proofs.Common.{sym, ◌∙◌, ap, ℕ, Bool, ◌==◌, ◌&&◌}
use Rattle.env_filter.proofs.Common.{Value, list_any_at, meets}
use Rattle.env_filter.proofs.watch.is_given.Goals as goal

pub returns-then-branch : goal.returns-then-branch
returns-then-branch c =
    let p : ℕ × Value → Bool = λ pair. pair.0 == c.args.ask.now.place && meets c.args.ask.now.value pair.1 in
    sym (list_any_at p c.args.values.now c.loop-pair.pair-index c.pair-item.result c.loop-pair-test.true (ap p (sym c.pair-item.is) ∙ sym c.in_ok-is_met_by.ensures ∙ c.if-branch.true))
