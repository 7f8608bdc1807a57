-- The start leaves the room for a link, and gives the context that is linked.
use Rattle.std.proofs.Common.{Some, sym, subst, ap, ◌∙◌, option_map}
use Rattle.otel_layer.proofs.Common.{RoomForLink, data_at, ids_of}
use Rattle.otel_layer.proofs.HookStepsLemmas.{ids_shown}
use Rattle.otel_layer.specs.Core.{on_spans}
use Rattle.otel_layer.specs.Steps.{with_link}
use Rattle.otel_layer.proofs.layer.OpenTelemetryLayer.follow.Goals as goal

pub link-requires : goal.link-requires
link-requires g c = subst (λ xs. RoomForLink c.args.id xs) (sym c.start.ensures.rooms) c.requires.room

pub returns-in-Some : goal.returns-in-Some
returns-in-Some g c =
    let between = c.start.new.self.core in
    let ids = ids_shown (data_at c.args.from between.spans) c.start.result c.start.ensures.context ∙ ap (λ o. option_map ids_of o) c.in-Some.is in
    record {
      between = between;
      starts = c.start.ensures.starts;
      rest = c.link.ensures ∙ ap (λ o. on_spans (with_link c.args.id c.args.at o) between) (ap (λ x. Some x) c.span_context.ensures ∙ sym ids);
    }

pub returns-in_default : goal.returns-in_default
returns-in_default g c =
    let between = c.start.new.self.core in
    let ids = ids_shown (data_at c.args.from between.spans) c.start.result c.start.ensures.context ∙ ap (λ o. option_map ids_of o) c.in_default.is in
    record { between = between; starts = c.start.ensures.starts; rest = sym (ap (λ o. on_spans (with_link c.args.id c.args.at o) between) ids) }
