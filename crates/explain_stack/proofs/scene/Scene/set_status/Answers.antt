-- What is asked keeps spans and lanes.
use Rattle.std.proofs.Common.{refl}
use Rattle.explain_stack.proofs.AsksLemmas.{applies_goes}
use Rattle.explain_stack.proofs.scene.Scene.set_status.Goals as goal

pub returns : goal.returns
returns g c =
    let goes = applies_goes g.S.Subscriber.spans g.S.Subscriber.kept g.S.Subscriber.attaches g.S.Subscriber.is_whole g.S.OtelPart.touches g.met.S.OtelSubscriber.stays c.args.self.now.world c.set_status.new.world c.args.at _ c.args.span.now.held c.set_status.ensures.0 c.set_status.ensures.1 in record {
      keeps = record {
        order = goes.stands c.args.self.now.dispatch c.args.self.now.span_count c.args.self.now.site_count c.args.self.now.lane c.args.self.now.other c.requires.order;
        known = goes.known;
        site_count = refl;
      };
    }
