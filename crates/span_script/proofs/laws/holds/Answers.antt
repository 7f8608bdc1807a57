-- By the balance of holds.
use Rattle.span_script.proofs.spans.OpenSpansLemmas.{opens, closes_them}
use Rattle.span_script.proofs.spans.ClosingOrderLemmas.{drop_order}
use Rattle.span_script.proofs.laws.holds.Goals as goal

pub returns-clause-open : goal.returns-clause-open
returns-clause-open c = opens

pub returns-clause-closes : goal.returns-clause-closes
returns-clause-closes c = closes_them

pub returns-clause-order : goal.returns-clause-order
returns-clause-order c = drop_order
