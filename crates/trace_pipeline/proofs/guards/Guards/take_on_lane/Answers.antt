-- By the counts, which are those of the open guards.
use Rattle.std.proofs.Common.{sym, ap, ◌∙◌, get_or, None}
use Rattle.span_script.specs.Slots.{is_shared_by}
use Rattle.trace_pipeline.specs.Guards.{GuardsValue}
use Rattle.trace_pipeline.specs.Spending.{entry_check, spending_result}
use Rattle.trace_pipeline.proofs.SpendingLemmas.{counted_alike, is_counted, spent_ok, still_counted}
use Rattle.trace_pipeline.proofs.guards.Guards.take_on_lane.Goals as goal

pub returns-clause-value : goal.returns-clause-value
returns-clause-value c = c.in_ok-guard.ensures.value ∙ counted_alike c.self.inside.slots.items c.self.inside.counts.items c.self.invariant c.args.place _
    ∙ ap (λ (g : GuardsValue). spending_result (λ x. entry_check (is_shared_by g.items x) c.args.place x) (get_or g.items c.args.number None)) c.self.view_is

pub count_less-requires : goal.count_less-requires
count_less-requires c = is_counted c.self.inside.slots.items c.self.inside.counts.items c.self.invariant c.args.number c.in_ok-guard.guard (spent_ok _ _ c.in_ok-guard.guard (sym c.in_ok-guard.ensures.value)).0

pub invariant_of-self-2 : goal.invariant_of-self-2
invariant_of-self-2 c = rw (c.in_ok-guard.ensures.spent, c.count_less.ensures) (still_counted c.self.inside.slots.items c.self.inside.counts.items c.self.invariant c.args.number c.in_ok-guard.guard (spent_ok _ _ c.in_ok-guard.guard (sym c.in_ok-guard.ensures.value)).0)
