-- A chain of closes.
use Rattle.span_handles.specs.Worlds.{Chain}
use Rattle.std.proofs.Common.{Some}
use Rattle.explain_stack.proofs.Quiet.{quiet_chain}
use Rattle.explain_stack.proofs.Steps.{quiet_on}
use Rattle.explain_stack.proofs.scene.Scene.close.Goals as goal

pub returns-clause-order : goal.returns-clause-order
returns-clause-order g c =
    quiet_on g.S.Subscriber.spans g.S.Subscriber.kept g.S.Subscriber.is_whole (λ id s t. Chain g.S.Subscriber.spans g.S.Subscriber.does c.args.at (Some id) s t) (λ id. quiet_chain g.S.Subscriber.spans g.S.Subscriber.attaches g.S.Subscriber.kept g.S.Subscriber.is_whole g.S.Subscriber.does g.met.S.Subscriber.shows g.met.S.Subscriber.keeps_lanes g.met.S.Subscriber.keeps_whole c.args.at id) c.args.self.now.world c.close.new.world c.args.span.held c.args.self.now.dispatch c.args.self.now.span_count c.args.self.now.site_count c.args.self.now.lane c.args.self.now.other c.close.ensures.did c.requires.order

pub returns-clause-closes : goal.returns-clause-closes
returns-clause-closes g c = c.close.ensures.did
