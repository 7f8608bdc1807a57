-- An op from outside was applied, whatever was answered.
use Rattle.trace_tasks.proofs.polls.ChangesLemmas.{ask_changes, ask_wants}
use Rattle.trace_tasks.proofs.acts.set_attribute.Goals as goal

pub returns-in-Some-Err-clause-changes : goal.returns-in-Some-Err-clause-changes
returns-in-Some-Err-clause-changes g c =
    ask_changes g.S.Subscriber.spans g.S.Subscriber.hint g.S.Subscriber.enables g.S.Subscriber.attaches g.S.Subscriber.kept g.S.Subscriber.is_whole g.S.Subscriber.does g.S.OtelPart.touches g.S.Subscriber.same_but_room
    c.args.at c.args.world.now c.args.dispatch _ _ _ _ _ c.subscriber_mut.ensures.value c.otel_apply.ensures

pub returns-in_default-otel_apply-clause-changes : goal.returns-in_default-otel_apply-clause-changes
returns-in_default-otel_apply-clause-changes g c =
    ask_changes g.S.Subscriber.spans g.S.Subscriber.hint g.S.Subscriber.enables g.S.Subscriber.attaches g.S.Subscriber.kept g.S.Subscriber.is_whole g.S.Subscriber.does g.S.OtelPart.touches g.S.Subscriber.same_but_room
    c.args.at c.args.world.now c.args.dispatch _ _ _ _ _ c.subscriber_mut.ensures.value c.otel_apply.ensures

pub returns-in_default-otel_apply-2-clause-changes : goal.returns-in_default-otel_apply-2-clause-changes
returns-in_default-otel_apply-2-clause-changes g c =
    ask_changes g.S.Subscriber.spans g.S.Subscriber.hint g.S.Subscriber.enables g.S.Subscriber.attaches g.S.Subscriber.kept g.S.Subscriber.is_whole g.S.Subscriber.does g.S.OtelPart.touches g.S.Subscriber.same_but_room
    c.args.at c.args.world.now c.args.dispatch _ _ _ _ _ c.subscriber_mut.ensures.value c.otel_apply.ensures

pub returns-in-Some-Err-clause-wants : goal.returns-in-Some-Err-clause-wants
returns-in-Some-Err-clause-wants g c =
    ask_wants g.S.Subscriber.spans g.S.Subscriber.hint g.S.Subscriber.enables g.S.Subscriber.attaches g.S.Subscriber.kept g.S.Subscriber.is_whole g.S.Subscriber.does g.S.OtelPart.touches g.S.Subscriber.same_but_room
    c.args.at c.args.world.now c.args.dispatch _ _ _ _ _ c.subscriber_mut.ensures.value (rw c.in-Some-Err.field-0-is at c.in-Some-Err.ensures)
