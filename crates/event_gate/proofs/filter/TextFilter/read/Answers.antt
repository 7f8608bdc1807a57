-- A text that gives a filter is kept with it; of another it is handed on why.
use Rattle.std.proofs.Common.{◌≡◌, List, ℕ, sym, subst}
use Rattle.event_gate.specs.Rules.{IsTextFilter, no_memory}
use Rattle.event_gate.proofs.Texts.{handed_on}
use Rattle.event_gate.proofs.filter.TextFilter.read.Goals as goal

pub returns-in_err-kept-clause-refused : goal.returns-in_err-kept-clause-refused
returns-in_err-kept-clause-refused c = handed_on c.args.text.now no_memory _ c.from_residual.ensures.1 tt

pub returns-in_err-filter-clause-refused : goal.returns-in_err-filter-clause-refused
returns-in_err-filter-clause-refused c = handed_on c.args.text.now _ _ c.from_residual-in_err-filter.ensures.1 c.in_err-filter.ensures.refused

pub invariant_of-result : goal.invariant_of-result
invariant_of-result c =
    ∣ subst (λ (t : List ℕ). IsTextFilter t c.in_ok-filter.filter) (sym c.in_ok-kept.ensures.ok) c.in_ok-filter.ensures.ok ∣₁

pub returns-clause-ok : goal.returns-clause-ok
returns-clause-ok c = c.in_ok-kept.ensures.ok

pub returns-clause-refused : goal.returns-clause-refused
returns-clause-refused c = c.in_ok-filter.ensures.refused
