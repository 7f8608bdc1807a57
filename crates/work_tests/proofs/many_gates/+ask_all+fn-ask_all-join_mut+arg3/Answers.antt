-- What the first closure borrows may go to another thread: the gate, the note and the question.
use denote.Exit.{no}
use denote.Param.Send.{param_send, arg_send, mut_send, shr_send}
use Rattle.std.proofs.option.Option.TheSendSync as option
use Rattle.shared_gate.specs.contracts.note.GateNote as note
use Rattle.shared_gate.proofs.Crossing.{gate_send, note_send, closure_send}
use Rattle.work_tests.proofs.gate_questions.Question.TheSendSync as question
use Rattle.work_tests.proofs.many_gates.+ask_all+fn-ask_all-join_mut+arg3.Goals as goal

pub join_mut-is_asked-requires-send-F : goal.join_mut-is_asked-requires-send-F
join_mut-is_asked-requires-send-F g t c κs within = param_send _ _ (arg_send _ no _ (closure_send _ _ _ _
    (mut_send _ _ _ gate_send)
    (mut_send _ _ _ (option.the_send note.the_row note_send))
    (shr_send _ _ _ question.the_sync)))
