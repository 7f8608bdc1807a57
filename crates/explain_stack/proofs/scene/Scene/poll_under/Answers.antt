-- A poll, and a disabled handle that is closed.
use Rattle.std.proofs.Common.{rules, Some, refl}
use Rattle.span_handles.specs.Worlds.{Chain}
use Rattle.explain_stack.proofs.PollsLemmas.{polled_stands, polls_under}
use Rattle.explain_stack.proofs.Quiet.{quiet_chain}
use Rattle.explain_stack.proofs.Steps.{quiet_on}
use Rattle.explain_stack.proofs.scene.Scene.poll_under.Goals as goal

pub returns-clause-keeps : goal.returns-clause-keeps
returns-clause-keeps g c = record {
  order = quiet_on g.S.Subscriber.spans g.S.Subscriber.kept g.S.Subscriber.is_whole (λ id s t. Chain g.S.Subscriber.spans g.S.Subscriber.does c.args.at (Some id) s t) (λ id. quiet_chain g.S.Subscriber.spans g.S.Subscriber.attaches g.S.Subscriber.kept g.S.Subscriber.is_whole g.S.Subscriber.does g.met.S.Subscriber.shows g.met.S.Subscriber.keeps_lanes g.met.S.Subscriber.keeps_whole c.args.at id) c.poll_in-polled.new.world c.into_inner.new.world c.replace-span.new.dest.held c.args.self.now.dispatch c.args.self.now.span_count c.args.self.now.site_count c.poll_in-polled.new.lane c.args.self.now.other c.into_inner.ensures.did
      (polled_stands g.S.Subscriber.spans g.S.Subscriber.attaches g.S.Subscriber.kept g.S.Subscriber.is_whole g.S.Subscriber.does g.met.S.Subscriber.shows g.met.S.Subscriber.keeps_lanes g.met.S.Subscriber.keeps_whole c.args.self.now.dispatch c.args.self.now.span_count c.args.self.now.site_count g.S.Subscriber.same_but_room g.met.S.Subscriber.same_spans g.met.S.Subscriber.same_kept g.met.S.Subscriber.same_whole g.S.Subscriber.activates g.T.TracedFuture.polls c.requires.leaves _ _ c.args.self.now.world c.poll_in-polled.new.world c.args.self.now.lane c.poll_in-polled.new.lane c.args.self.now.other c.args.at _ c.poll_in-polled.ensures.did c.requires.order);
  known = search rules;
  site_count = refl;
}

pub returns-clause-polls : goal.returns-clause-polls
returns-clause-polls g c =
    polls_under g.S.Subscriber.same_but_room g.S.Subscriber.does g.S.Subscriber.activates g.T.TracedFuture.polls c.args.at _ _ _ c.args.self.now.world c.poll_in-polled.new.world c.into_inner.new.world c.args.self.now.lane c.poll_in-polled.new.lane _ (λ id s t. Chain g.S.Subscriber.spans g.S.Subscriber.does c.args.at (Some id) s t) c.replace-span.new.dest.held
    (search rules) (search rules) c.into_inner.ensures.did c.poll_in-polled.ensures.did
