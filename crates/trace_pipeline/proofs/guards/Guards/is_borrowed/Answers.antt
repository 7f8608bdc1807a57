-- The count is above 0.
use Rattle.std.proofs.Common.{rules, sym, ap, ◌∙◌, nat_lt}
use Rattle.trace_pipeline.proofs.Common.{names_handle}
use Rattle.span_script.proofs.spans.OpenSpansLemmas.{any_counted}
use Rattle.trace_pipeline.proofs.guards.Guards.is_borrowed.Goals as goal

pub returns : goal.returns
returns c = ap (nat_lt 0) (c.count_at.ensures ∙ c.self.invariant c.args.handle) ∙ sym (any_counted (names_handle c.args.handle) c.self.inside.slots.items) ∙ (search rules)
