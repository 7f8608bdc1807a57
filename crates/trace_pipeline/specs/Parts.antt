-- The parts that a pipeline is made of.
use Rattle.span_stack.specs.Reading.{SubscriberStack}
use Rattle.span_script.specs.Fits.{Parts}
use Rattle.trace_pipeline.specs.Contexts.{context_slots}
use Rattle.trace_pipeline.specs.declared.pipeline.Pipeline.TheInside.{Inside}

abbrev pub parts_of : Inside → Parts SubscriberStack
parts_of p = record {
  world = p.world;
  dispatch = p.dispatch;
  filter_texts = p.filter_texts;
  lanes = p.lanes.items;
  handles = p.handles.items;
  guards = p.guards.items;
  contexts = context_slots p.contexts;
  moment = p.moment;
}
