-- The task is put under the span that was made.
use Rattle.std.proofs.Common.{◌∙◌, ap, sym, subst, ℕ}
use Rattle.trace_tasks.proofs.Common.{Handle, IsKnown, MakesTaskSpan}
use Rattle.trace_tasks.proofs.queues.NewTaskLemmas.{begins}
use Rattle.trace_tasks.proofs.begin.begin.Goals as goal

pub returns-in-Ok-clause-ok : goal.returns-in-Ok-clause-ok
returns-in-Ok-clause-ok g c =
    let span = ap (λ f. f.span) c.instrument.ensures in
    begins g.S.Subscriber.spans g.S.Subscriber.hint g.S.Subscriber.enables g.S.Subscriber.attaches g.S.Subscriber.kept g.S.Subscriber.is_whole g.S.Subscriber.does g.S.OtelPart.touches
    g.met.S.Subscriber.shows g.met.S.Subscriber.keeps_lanes g.met.S.Subscriber.keeps_whole
    c.args.task c.args.lane.now c.args.world.now c.make.new.world c.instrument.result
    (subst (λ (h : Handle). MakesTaskSpan g.S.Subscriber.spans g.S.Subscriber.hint g.S.Subscriber.enables g.S.Subscriber.does g.S.OtelPart.touches c.args.task.site c.args.task.fields c.args.lane.now c.args.world.now c.make.new.world h) (sym span)
    (subst (λ (n : ℕ). MakesTaskSpan g.S.Subscriber.spans g.S.Subscriber.hint g.S.Subscriber.enables g.S.Subscriber.does g.S.OtelPart.touches n c.args.task.fields c.args.lane.now c.args.world.now c.make.new.world c.in-Ok.span) c.in-Some.ensures.some.0 c.in-Ok.ensures.ok))
    c.requires.ready
    (subst (λ (h : Handle). IsKnown g.S.Subscriber.spans c.make.new.world h.held) (sym span) c.in-Ok.ensures.known)
    (ap (λ f. f.inner.steps.items) c.instrument.ensures ∙ c.from-steps.ensures.0 ∙ c.into_vec.ensures)
