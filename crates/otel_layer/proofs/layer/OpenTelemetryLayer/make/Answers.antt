-- A making, step by step.
use Rattle.std.proofs.Common.{sym, ap, subst, ◌∙◌}
use Rattle.otel_layer.proofs.Common.{StateValue, context_from, list_any, is_id}
use Rattle.otel_state.specs.States.{with_making}
use Rattle.otel_layer.proofs.HookStepsLemmas.{makes, begins_under}
use Rattle.otel_layer.proofs.StartsLemmas.{added_early}
use Rattle.otel_layer.specs.Core.{with_tracer}
use Rattle.otel_layer.specs.Starts.{StartsEarly}
use Rattle.otel_layer.specs.Steps.{with_added_span}
use Rattle.otel_layer.specs.laws.KnownSpansLemmas.{starts_if_some_quiet}
use Rattle.otel_layer.proofs.layer.OpenTelemetryLayer.make.Goals as goal

pub returns : goal.returns
returns g c =
    let does = g.T.Tracer.does in
    let s = c.args.self.now.core in
    let between = c.context_from-context.new.self.core in
    let starts = c.context_from-context.ensures.starts in
    let callsite = c.args.callsite.now in
    let lane = c.args.lane.now in
    let source = c.parent_source-source.result in
    let d = c.add.new.self.core in
    let unknown = ap (λ xs. list_any (is_id c.args.id) xs) (starts_if_some_quiet does source c.args.at s between starts).keys ∙ c.requires.unknown in
    let begun = c.start_early.new.state.span_data in
    let tracer = sym (ap (λ x. x.tracer) c.add.ensures) in
    let rest = c.add.ensures ∙ ap (λ x. with_added_span c.args.id begun x) c.start_early.ensures.core ∙ ap (λ x. with_added_span c.args.id begun (with_tracer x between)) tracer in
    makes does s between d c.args.id lane c.args.at c.args.parent c.args.current callsite c.args._values.now source
    c.self.inside.settings.activation c.context_from-context.result c.set_making.new.self.span_data
    (ap (λ s. s.core.settings.activation) c.self.view_is) c.parent_source-source.ensures starts
    (c.context_from-context.ensures.context ∙ ap (λ x. context_from between.spans x source) c.lane_context.ensures)
    (c.set_making.ensures.span_data ∙ ap (λ (x : StateValue). with_making c.context_from-context.result c.args.at x.span_data) c.into_inner-state.ensures
    ∙ ap (with_making c.context_from-context.result c.args.at) c.requires.ready.span_data
    ∙ begins_under callsite lane c.args._values.now c.context_from-context.result c.args.at s.settings s.counting)
    c.requires.ready.span.spare c.requires.ready.span.few c.context_from-context.ensures.settings
    (added_early does between d c.args.id c.args.at c.set_making.new.self.span_data begun unknown rest between.settings.eager
    (subst (λ x. StartsEarly does between.settings.eager c.args.at c.set_making.new.self.span_data between.tracer x begun) tracer c.start_early.ensures.starts))
