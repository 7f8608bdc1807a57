use Rattle.std.proofs.Common.{◌≡◌, List, length, sym, subst, arith, IfOk}
use Rattle.thread_script.specs.declared.plan.Plan.{Plan}
use Rattle.thread_script.specs.declared.script.WorkerOp.{WorkerOp}
use Rattle.thread_script.specs.Tests.{AllValidWork, AllAtOpening}
use Rattle.thread_work.specs.Preparing.{AllUnstarted}
use Rattle.thread_work.specs.Spans.{AreFirsts, AllEnded}
use Rattle.thread_work.proofs.PreparedLemmas.{as_many, all_prepared}
use Rattle.thread_work.proofs.running.work.Goals as goal

pub prepare-requires : goal.prepare-requires
prepare-requires g c = record { gates = as_many g.G.EventGate.opening c.args.script.filter c.args.script.workers c.args.gates.items c.requires.gates }

pub work_over-requires-clause-spans : goal.work_over-requires-clause-spans
work_over-requires-clause-spans g c κs within = subst (λ (p : Plan). AreFirsts p c.args.spans.items) (sym c.in-Ok.ensures.plan) c.requires.spans

pub work_over-requires-clause-jobs : goal.work_over-requires-clause-jobs
work_over-requires-clause-jobs g c κs within =
    let w = c.in-Ok.ensures in
    let n = c.len.ensures in
    let ok = c.args.spans.ok.0 in
    let count : c.len.result ≡ length c.args.spans.items = omega (arith, n, ok) in
    all_prepared g.G.EventGate.opening c.in-Ok.field-0.plan c.args.spans.items c.in-Ok.field-0.jobs.items c.args.script.workers c.args.gates.items w.lists w.gates
    (subst (λ (p : Plan). AreFirsts p c.args.spans.items) (sym w.plan) c.requires.spans).0
    (subst (λ (p : Plan). AllValidWork p c.args.script.workers) (sym w.plan) c.requires.tested)
    (subst (λ (p : Plan). AllAtOpening g.G.EventGate.opening p.filter c.args.script.workers c.args.gates.items) (sym w.plan) c.requires.gates)
    (subst (λ n. AllUnstarted n c.in-Ok.field-0.jobs.items) count w.unstarted)

pub returns-in-Ok-clause-ended : goal.returns-in-Ok-clause-ended
returns-in-Ok-clause-ended g c =
    let w = c.in-Ok.ensures in
    subst (λ (p : Plan × List (List WorkerOp)). IfOk c.work_over.result (λ es. AllEnded p.0 c.args.spans.items p.1 es.items)) (λ i. (w.plan i, w.lists i)) c.work_over.ensures.ended
