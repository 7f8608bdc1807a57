use Rattle.std.proofs.Common.{◌≡◌, subst, IfOk, OnOk}
use Rattle.trace_threads.proofs.Common.{Op, after_op, reply}
use Rattle.trace_threads.proofs.histories.StateLemmas.{err_by, exit_stays}
use Rattle.trace_threads.proofs.shared.apply_with_ids.Goals as goal

pub returns-clause-did : goal.returns-clause-did
returns-clause-did c = subst (λ (o : Op). OnOk c.apply.result (c.apply.new.self.span_data ≡ after_op c.args.state.now.span_data c.args.at o)) c.op_with_ids.ensures c.apply.ensures.did

pub returns-clause-reply : goal.returns-clause-reply
returns-clause-reply c = subst (λ (o : Op). IfOk c.apply.result (λ r. r ≡ reply c.args.state.now.span_data o)) c.op_with_ids.ensures c.apply.ensures.reply

pub returns-clause-memory : goal.returns-clause-memory
returns-clause-memory c = err_by c.apply.result _ _ (λ grows is. exit_stays c.args.own c.op_with_ids.result c.args.op c.op_with_ids.ensures is grows) c.apply.ensures.memory
