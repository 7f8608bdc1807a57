use Rattle.span_laws.proofs.spans.IdsLemmas.{started_once, from_one, of_open, of_records, no_two_alike, none_zero}
use Rattle.span_laws.proofs.spans.MakingOrderLemmas.{order_of_making, by_number}
use Rattle.span_laws.proofs.ids.ids.Goals as goal

pub returns-clause-started_once : goal.returns-clause-started_once
returns-clause-started_once c = started_once

pub returns-clause-from_one : goal.returns-clause-from_one
returns-clause-from_one c = from_one

pub returns-clause-of_open : goal.returns-clause-of_open
returns-clause-of_open c = of_open

pub returns-clause-of_records : goal.returns-clause-of_records
returns-clause-of_records c = of_records

pub returns-clause-no_two_alike : goal.returns-clause-no_two_alike
returns-clause-no_two_alike c = no_two_alike

pub returns-clause-none_zero : goal.returns-clause-none_zero
returns-clause-none_zero c = none_zero

pub returns-clause-in_order_of_making : goal.returns-clause-in_order_of_making
returns-clause-in_order_of_making c = order_of_making

pub returns-clause-early : goal.returns-clause-early
returns-clause-early c = by_number
