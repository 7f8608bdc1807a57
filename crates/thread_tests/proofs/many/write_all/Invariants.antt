-- The handle is the same, with as many entries open.
use Rattle.std.proofs.Common.{◌≡◌}
use Rattle.trace_threads.specs.Handles.{open_count_of, IsSameHandle}
use Rattle.thread_tests.proofs.many.write_all.Given as goal

abbrev pub invariant-loop-number : goal.invariant-loop-number
invariant-loop-number g l = record { same : IsSameHandle l.initial.handle l.handle; idle : open_count_of l.handle ≡ open_count_of l.initial.handle }
