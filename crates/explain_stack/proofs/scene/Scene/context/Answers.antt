-- What is asked keeps spans and lanes.
use Rattle.std.proofs.Common.{refl}
use Rattle.explain_stack.proofs.AsksLemmas.{shows_goes}
use Rattle.explain_stack.proofs.scene.Scene.context.Goals as goal

pub returns : goal.returns
returns g c =
    let goes = shows_goes g.S.Subscriber.spans g.S.Subscriber.kept g.S.Subscriber.attaches g.S.Subscriber.is_whole g.S.OtelPart.touches g.met.S.OtelSubscriber.stays c.args.self.now.world c.context.new.world c.args.at c.args.span.now.held c.context.ensures.answer c.context.ensures.did in record {
      keeps = record {
        order = goes.stands c.args.self.now.dispatch c.args.self.now.span_count c.args.self.now.site_count c.args.self.now.lane c.args.self.now.other c.requires.order;
        known = goes.known;
        site_count = refl;
      };
    }
