-- What a worker's thread works on may go to it.
use denote.RattleType.{RattleType}
use denote.Builtin.{u64}
use denote.Param.Send.{IsSend, plain_send, recorded_send, struct_send}
use denote.Struct.Declared.{shape}
use Rattle.std.below.std_alloc.proofs.vec.deque.VecDeque.TheSendSync as deque
use Rattle.trace_threads.specs.contracts.handle.Handle as handle
use Rattle.trace_threads.specs.contracts.handle.Released as released
use Rattle.thread_script.proofs.script.WorkerOp.TheSendSync as an_op
use Rattle.thread_script.specs.contracts.script.WorkerOp as op
use Rattle.thread_handles.specs.contracts.job.Job as job
use Rattle.std.proofs.alloc.Global.TheSendSync as global
use Rattle.std.proofs.vec.Vec.TheSendSync as vec
use Rattle.std.below.std_heap.proofs.GlobalAllocator.TheSendSync as frees
use Rattle.std.specs.contracts.alloc.Global as heap
use Rattle.std.specs.contracts.impls.GlobalAllocator.TheImpl as allocator
use Rattle.std.proofs.option.Option.TheSendSync as option
use Rattle.trace_threads.proofs.Crossing.{handle_send, released_send}

pub job_send : (G : RattleType) → IsSend G → IsSend (job.the_row G)
job_send G s = recorded_send (job.the_field G).row _ _ (job.the_type G).to_one (struct_send (shape (job.the_type G)) (
  deque.the_send op.the_row heap.the_row allocator.ghosts an_op.the_send global.the_send frees.the_frees,
  (
    option.the_field_send u64 (plain_send _ _ _ _ _),
    (
      s,
      (
        vec.the_send handle.the_row heap.the_row allocator.ghosts handle_send global.the_send frees.the_frees,
        (
          vec.the_send released.the_row heap.the_row allocator.ghosts released_send global.the_send frees.the_frees,
          (plain_send _ _ _ _ _, tt),
        ),
      ),
    ),
  ),
))
