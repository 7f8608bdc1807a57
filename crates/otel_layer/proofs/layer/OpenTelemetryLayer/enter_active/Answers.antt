-- The span was found, or isn't known.
use Rattle.std.proofs.Common.{ap, subst, ◌∙◌, refl, Some, None}
use Rattle.otel_layer.proofs.HookStepsLemmas.{enters_active, same_started, with_started, if_is, if_isnt}
use Rattle.otel_layer.proofs.StartsLemmas.{unknown}
use Rattle.otel_layer.specs.Starts.{EntersIn, EntersKnown}
use Rattle.otel_layer.specs.Steps.{with_token}
use Rattle.otel_layer.proofs.layer.OpenTelemetryLayer.enter_active.Goals as goal

pub attach-attached-requires : goal.attach-attached-requires
attach-attached-requires g c =
    let e = subst (λ o. EntersIn g.T.Tracer.does c.args.id c.args.at c.self.inside.table.spans c.self.inside.tracer c.enter.new.tracer c.enter.new.self.spans o) c.in-Some.is c.enter.ensures in
    c.requires.room (subst (λ s. EntersKnown g.T.Tracer.does c.args.id c.args.at s.core.spans s.core.tracer c.enter.new.tracer c.enter.new.self.spans c.in-Some.own) c.self.view_is e).known

pub returns-in-Some : goal.returns-in-Some
returns-in-Some g c =
    let does = g.T.Tracer.does in
    let e = subst (λ o. EntersIn does c.args.id c.args.at c.self.inside.table.spans c.self.inside.tracer c.enter.new.tracer c.enter.new.self.spans o) c.in-Some.is c.enter.ensures in
    let enters = subst (λ s. EntersKnown does c.args.id c.args.at s.core.spans s.core.tracer c.enter.new.tracer c.enter.new.self.spans c.in-Some.own) c.self.view_is e in
    if_is _ _ _ enters.known
    (enters_active does c.args.self.now.core c.add_token.new.self.core c.args.id c.args.at c.args.lane.now c.attach-attached.new.lane c.enter.new.tracer c.enter.new.self.spans c.in-Some.own c.attach-attached.result
    c.requires.active enters c.attach-attached.ensures
    (c.add_token.ensures ∙ ap (λ s. with_token (record { lane = c.attach-attached.new.lane.id; id = c.args.id; attached = Some c.attach-attached.result }) (with_started c.enter.new.tracer c.enter.new.self.spans s.core)) c.self.view_is))

pub returns-in_default : goal.returns-in_default
returns-in_default g c =
    let e = subst (λ o. EntersIn g.T.Tracer.does c.args.id c.args.at c.self.inside.table.spans c.self.inside.tracer c.enter.new.tracer c.enter.new.self.spans o) c.in_default.is c.enter.ensures in
    let none = subst (λ s. EntersIn g.T.Tracer.does c.args.id c.args.at s.core.spans s.core.tracer c.enter.new.tracer c.enter.new.self.spans None) c.self.view_is e in
    if_isnt _ _ _ (unknown c.args.id c.args.self.now.core.spans none.0)
    (ap (λ s. with_started c.enter.new.tracer c.enter.new.self.spans s.core) c.self.view_is ∙ same_started c.args.self.now.core c.enter.new.tracer c.enter.new.self.spans none.1 none.2, refl)
