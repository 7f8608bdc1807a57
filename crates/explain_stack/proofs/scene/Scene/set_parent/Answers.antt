-- What is asked keeps spans and lanes.
use Rattle.std.proofs.Common.{refl}
use Rattle.explain_stack.proofs.AsksLemmas.{applies_goes}
use Rattle.explain_stack.proofs.scene.Scene.set_parent.Goals as goal

pub returns : goal.returns
returns g c =
    let goes = applies_goes g.S.Subscriber.spans g.S.Subscriber.kept g.S.Subscriber.attaches g.S.Subscriber.is_whole g.S.OtelPart.touches g.met.S.OtelSubscriber.stays c.args.self.now.world c.set_parent.new.world c.args.at _ c.args.span.now.held c.set_parent.ensures.answer c.set_parent.ensures.did in record {
      keeps = record {
        order = goes.stands c.args.self.now.dispatch c.args.self.now.span_count c.args.self.now.site_count c.args.self.now.lane c.args.self.now.other c.requires.order;
        known = goes.known;
        site_count = refl;
      };
    }
