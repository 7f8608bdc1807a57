use Rattle.std.proofs.Common.{ap}
use Rattle.thread_run.specs.Texts.{one_if_call}
use Rattle.thread_run.proofs.EntriesLemmas.{counted_other, counted_call}
use Rattle.thread_run.proofs.entry.deed_of.Goals as goal

pub returns-in-Clone-clause-counted : goal.returns-in-Clone-clause-counted
returns-in-Clone-clause-counted c before all = counted_other before c.args.entry.now c.args.counts.now.items (ap one_if_call c.in-Clone.is) all

pub returns-in_ok-number-in-Call-clause-counted : goal.returns-in_ok-number-in-Call-clause-counted
returns-in_ok-number-in-Call-clause-counted c before all =
    counted_call before c.args.entry.now c.args.counts.now.items c.take_call_number.new.counts.items (ap one_if_call c.in-Call.is) c.in_ok-number-in-Call.ensures.counted all

pub returns-in-Join-clause-counted : goal.returns-in-Join-clause-counted
returns-in-Join-clause-counted c before all = counted_other before c.args.entry.now c.args.counts.now.items (ap one_if_call c.in-Join.is) all

pub returns-in-Release-clause-counted : goal.returns-in-Release-clause-counted
returns-in-Release-clause-counted c before all = counted_other before c.args.entry.now c.args.counts.now.items (ap one_if_call c.in-Release.is) all
