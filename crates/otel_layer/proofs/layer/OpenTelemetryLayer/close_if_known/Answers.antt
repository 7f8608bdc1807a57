-- The state that was taken out is the one of the span, if it is known.
use Rattle.std.proofs.Common.{sym, ap, subst, ◌∙◌, option_map}
use Rattle.otel_layer.proofs.Common.{data_at, remove_entry, is_id}
use Rattle.otel_layer.proofs.HookStepsLemmas.{closes, if_is, if_isnt}
use Rattle.otel_layer.proofs.StartsLemmas.{known, unknown, removed_unknown}
use Rattle.otel_layer.specs.Core.{on_spans}
use Rattle.otel_layer.specs.Starts.{FinishesState}
use Rattle.otel_layer.specs.Steps.{with_finish}
use Rattle.otel_layer.proofs.layer.OpenTelemetryLayer.close_if_known.Goals as goal

pub returns-in-Some : goal.returns-in-Some
returns-in-Some g c =
    let core = c.args.self.now.core in
    let d = c.finish.new.self.core in
    let is = sym (ap (λ s. data_at c.args.id s.core.spans) c.self.view_is) ∙ sym c.remove.ensures.span_data ∙ ap (λ o. option_map (λ s. s.span_data) o) c.in-Some.is in
    if_is _ _ _ (known c.args.id core.spans c.in-Some.state.span_data is)
    (closes g.T.Tracer.does core d c.args.id c.args.at c.remove.new.self.spans c.in-Some.state.span_data is
    (c.remove.ensures.spans ∙ ap (λ s. remove_entry (is_id c.args.id) s.core.spans) c.self.view_is)
    (subst (λ s. FinishesState g.T.Tracer.does c.args.at c.in-Some.state.span_data s.core.tracer d.tracer) c.self.view_is c.finish.ensures.did)
    (c.finish.ensures.core ∙ ap (λ s. with_finish d.tracer (on_spans (λ _. c.remove.new.self.spans) s.core)) c.self.view_is))

pub returns-in_default : goal.returns-in_default
returns-in_default g c =
    let core = c.args.self.now.core in
    let none = sym (ap (λ s. data_at c.args.id s.core.spans) c.self.view_is) ∙ sym c.remove.ensures.span_data ∙ ap (λ o. option_map (λ s. s.span_data) o) c.in_default.is in
    let not = unknown c.args.id core.spans none in
    if_isnt _ _ _ not
    (ap (λ s. on_spans (λ _. c.remove.new.self.spans) s.core) c.self.view_is
    ∙ ap (λ xs. on_spans (λ _. xs) core) (c.remove.ensures.spans ∙ ap (λ s. remove_entry (is_id c.args.id) s.core.spans) c.self.view_is ∙ removed_unknown c.args.id core.spans not))
