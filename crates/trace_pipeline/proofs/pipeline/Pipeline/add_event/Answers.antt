-- An event.
use Rattle.std.proofs.Common.{rules, refl, ◌∙◌}
use Rattle.otel_layer.specs.Asking.{add_event_op}
use Rattle.span_script.specs.declared.request.Call.TheVariants as call
use Rattle.trace_pipeline.proofs.Common.{serves_event, keeps_op, left_state, left_kept, on_err, refuses_unknown, needs_there, by_view, serves_refusal, parts_of}
use Rattle.trace_pipeline.proofs.pipeline.Pipeline.add_event.Goals as goal

pub returns-in_default : goal.returns-in_default
returns-in_default c = serves_refusal _ _ _ _ _ (λ t stands. refuses_unknown _ _ c.self.view_is c.self.inside.handles.items refl c.args.handle (search rules) t stands.fits _) (search rules) refl

pub add_event_with_timestamp-requires : goal.add_event_with_timestamp-requires
add_event_with_timestamp-requires c = needs_there _ _ _ _ (parts_of c.self.inside) c.self.invariant c.args.handle c.in-Some.span.now (search rules)

pub invariant_of-self : goal.invariant_of-self
invariant_of-self c = left_kept _ _ _ _ _ (parts_of c.self.inside) c.add_event_with_timestamp.new.world _ c.asks.ensures c.args.at c.args.place c.args.handle c.in-Some.span.now (search rules) (add_event_op c.args.name c.event_time-time.result c.args.attributes) c.add_event_with_timestamp.result c.add_event_with_timestamp.ensures _ (search rules) c.self.invariant

pub returns-in_err-add_event_with_timestamp : goal.returns-in_err-add_event_with_timestamp
returns-in_err-add_event_with_timestamp c = record {
  ok = (search rules);
  refused = (search rules);
  err = on_err _ _ (left_state _ _ _ _ _ (parts_of c.self.inside) c.add_event_with_timestamp.new.world _ c.asks.ensures c.args.at c.args.place c.args.handle c.in-Some.span.now (search rules) (add_event_op c.args.name c.event_time-time.result c.args.attributes) c.add_event_with_timestamp.result c.add_event_with_timestamp.ensures _ (search rules) c.self.invariant ∙ c.self.view_is);
  room = (search rules);
}

pub invariant_of-self-2 : goal.invariant_of-self-2
invariant_of-self-2 c = keeps_op _ _ _ _ _ (parts_of c.self.inside) c.add_event_with_timestamp.new.world _ c.asks.ensures c.args.at c.args.place c.args.handle c.in-Some.span.now (search rules) (add_event_op c.args.name c.event_time-time.result c.args.attributes) c.add_event_with_timestamp.result c.add_event_with_timestamp.ensures (search rules) c.self.invariant

pub returns : goal.returns
returns c = by_view c.args.at c.args.place (call.AddEvent c.args.handle c.args.name c.args.attributes c.args.time) _ _ _ _ c.self.view_is (λ t stands. serves_event _ _ _ _ _ (parts_of c.self.inside) c.add_event_with_timestamp.new.world _ c.asks.ensures c.args.at c.args.place c.args.handle c.in-Some.span.now (search rules) c.args.name c.args.attributes c.args.time c.event_time-time.result c.event_time-time.ensures c.add_event_with_timestamp.result c.add_event_with_timestamp.ensures (search rules) t stands)
