-- Each call has one gate fewer.
use Rattle.std.proofs.Common.{vec_len}
use Rattle.work_tests.proofs.many_gates.+ask_all+fn-ask_all-join_mut+arg3.Given as goal

abbrev pub decreases-ask_all : goal.decreases-ask_all
decreases-ask_all g l = vec_len l.gates.now

abbrev pub decreases-join_mut+arg3 : goal.decreases-join_mut+arg3
decreases-join_mut+arg3 g l = vec_len l.gates.now
