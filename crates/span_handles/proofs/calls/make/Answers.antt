-- A span just made has a hold of its own, and takes none.
use Rattle.span_handles.proofs.Makers.{makes_handle}
use Rattle.span_handles.proofs.calls.make.Goals as goal

pub returns : goal.returns
returns g c = record {
  makes = makes_handle g.S.Subscriber.spans g.S.Subscriber.does c.args.world.now c.args.dispatch _ c.make_by.new.subscriber c.subscriber_and_site-subscriber.ensures.value c.args.lane.now c.args.at c.args.parent c.args.site _ c.subscriber_and_site-subscriber.ensures.callsite c.args.values.now
      g.S.Subscriber.same_but_room g.met.S.Subscriber.same_spans g.met.S.Subscriber.sound g.met.S.Subscriber.allowed g.met.S.Subscriber.shows c.requires.may.there c.make_by.result c.make_by.ensures.ok c.make_by.ensures.memory_leaves;
}
