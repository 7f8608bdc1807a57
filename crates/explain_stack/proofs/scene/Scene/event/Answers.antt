-- An event keeps spans and lanes.
use Rattle.std.proofs.Common.{refl}
use Rattle.explain_stack.proofs.AsksLemmas.{event_goes}
use Rattle.explain_stack.proofs.scene.Scene.event.Goals as goal

pub returns : goal.returns
returns g c =
    let goes = event_goes g.S.Subscriber.spans g.S.Subscriber.attaches g.S.Subscriber.kept g.S.Subscriber.is_whole g.S.Subscriber.does g.met.S.Subscriber.sound g.met.S.Subscriber.allowed g.met.S.Subscriber.shows g.met.S.Subscriber.keeps_lanes g.met.S.Subscriber.keeps_whole g.S.Subscriber.same_but_room g.met.S.Subscriber.same_spans g.met.S.Subscriber.same_kept g.met.S.Subscriber.same_whole c.args.self.now.world c.tell_event.new.world c.args.self.now.dispatch c.args.self.now.lane c.args.at _ c.args.site c.args.values.now c.tell_event.result c.tell_event.ensures.did c.tell_event.ensures.memory_leaves in record {
      keeps = record {
        order = goes.stands c.args.self.now.dispatch c.args.self.now.span_count c.args.self.now.site_count c.args.self.now.lane c.args.self.now.other c.requires.order;
        known = goes.known;
        site_count = refl;
      };
    }
