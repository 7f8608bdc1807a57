-- An entry keeps all, and a refused one does.
use Rattle.span_futures.proofs.CallsLemmas.{calls_enter, calls_refused}
use Rattle.span_futures.proofs.Inside.{begun, refused}
use Rattle.future_tests.proofs.acts.enter_for_good.Goals as goal

pub returns-in-Ok-clause-keeps : goal.returns-in-Ok-clause-keeps
returns-in-Ok-clause-keeps g c =
    begun g.S.Subscriber.spans g.S.Subscriber.attaches g.S.Subscriber.kept g.S.Subscriber.is_whole g.S.Subscriber.does g.met.S.Subscriber.sound g.met.S.Subscriber.allowed g.met.S.Subscriber.shows g.met.S.Subscriber.keeps_lanes g.met.S.Subscriber.keeps_whole c.args.at c.args.span.now.held c.args.world.now c.open_entry.new.world c.args.lane.now c.open_entry.new.lane
    (record { entered = c.in-Ok.ensures.did; none = c.open_entry.ensures.none })

pub returns-in-Ok-clause-moments : goal.returns-in-Ok-clause-moments
returns-in-Ok-clause-moments g c =
    calls_enter g.S.Subscriber.does (λ at s t. ⊥) g.S.Subscriber.same_but_room g.met.S.Subscriber.same_refl g.met.S.Subscriber.same_trans c.args.at c.args.world.now c.open_entry.new.world c.args.lane.now c.open_entry.new.lane c.args.span.now.held c.in-Ok.ensures.did

pub returns-in-Err-clause-keeps : goal.returns-in-Err-clause-keeps
returns-in-Err-clause-keeps g c =
    refused g.S.Subscriber.spans g.S.Subscriber.kept g.S.Subscriber.is_whole g.S.Subscriber.same_but_room g.met.S.Subscriber.same_spans g.met.S.Subscriber.same_kept g.met.S.Subscriber.same_whole c.args.span.now.held c.args.world.now c.open_entry.new.world c.args.lane.now c.open_entry.new.lane c.in-Err.ensures.leaves c.in-Err.ensures.lane_leaves

pub returns-in-Err-clause-moments : goal.returns-in-Err-clause-moments
returns-in-Err-clause-moments g c =
    calls_refused g.S.Subscriber.does (λ at s t. ⊥) g.S.Subscriber.same_but_room g.met.S.Subscriber.same_refl g.met.S.Subscriber.same_trans c.args.at c.args.world.now c.open_entry.new.world c.args.span.now.held c.in-Err.ensures.leaves
