-- Each thread starts one fewer.
use Rattle.std.proofs.Common.{◌-◌}
use Rattle.thread_tests.proofs.many.+fn-write_by-join_mut+arg3+write_by.Given as goal

abbrev pub decreases-join_mut+arg3 : goal.decreases-join_mut+arg3
decreases-join_mut+arg3 g l = l.others - 1

abbrev pub decreases-write_by : goal.decreases-write_by
decreases-write_by g l = l.others
