-- What the first closure borrows may go to another thread: the runtime's handle, the allocator and the handle.
use denote.Exit.{no}
use denote.Param.Send.{param_send, arg_send, mut_send, shr_send}
use Rattle.std.proofs.alloc.Global.TheSendSync.{the_sync}
use Rattle.trace_threads.proofs.Crossing.{handle_send, closure_send}
use Rattle.thread_tests.proofs.many.+fn-write_by-join_mut+arg3+write_by.Goals as goal

pub join_mut-one-requires-send-F : goal.join_mut-one-requires-send-F
join_mut-one-requires-send-F g t c κs within = param_send _ _ (arg_send _ no _ (closure_send _ _ _ _
    (shr_send _ _ _ c.requires)
    (shr_send _ _ _ the_sync)
    (mut_send _ _ _ handle_send)))
