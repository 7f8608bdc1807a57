-- Each exit closes one.
use Rattle.trace_threads.specs.Handles.{open_count_of}
use Rattle.thread_handles.proofs.worker.close_entries.Given as goal

abbrev pub decreases-loop-handle : goal.decreases-loop-handle
decreases-loop-handle g l = open_count_of l.handle
