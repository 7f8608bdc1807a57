-- A span is made, or room alone was taken.
use Rattle.trace_base.specs.declared.span.Parent.TheVariants as parent
use Rattle.trace_base.specs.Gate.{dispatch_on}
use Rattle.future_tests.proofs.Making.{made_lent, made_calls, unmade_lent, unmade_calls}
use Rattle.future_tests.proofs.acts.make_here.Goals as goal

pub returns-in_err-span-clause-keeps : goal.returns-in_err-span-clause-keeps
returns-in_err-span-clause-keeps g c =
    unmade_lent g.S.Subscriber.spans g.S.Subscriber.kept g.S.Subscriber.is_whole g.S.Subscriber.same_but_room g.met.S.Subscriber.same_spans g.met.S.Subscriber.same_kept g.met.S.Subscriber.same_whole c.args.world.now c.new.new.world c.args.lane.now (dispatch_on c.args.lane.now.default c.args.world.now.global) c.new.ensures.makes.keeps.known c.in_err-span.ensures.makes.memory_leaves

pub returns-in_err-span-clause-moments : goal.returns-in_err-span-clause-moments
returns-in_err-span-clause-moments g c =
    unmade_calls g.S.Subscriber.does (λ at s t. ⊥) g.S.Subscriber.same_but_room g.met.S.Subscriber.same_refl g.met.S.Subscriber.same_trans c.args.at c.args.world.now c.new.new.world (dispatch_on c.args.lane.now.default c.args.world.now.global) c.in_err-span.ensures.makes.memory_leaves

pub returns-clause-keeps : goal.returns-clause-keeps
returns-clause-keeps g c =
    made_lent g.S.Subscriber.spans g.S.Subscriber.kept g.S.Subscriber.is_whole g.S.Subscriber.attaches g.S.Subscriber.does g.met.S.Subscriber.shows g.met.S.Subscriber.keeps_lanes g.met.S.Subscriber.keeps_whole c.args.world.now c.new.new.world c.args.lane.now c.args.at parent.Current c.args.site c.args.values.now (dispatch_on c.args.lane.now.default c.args.world.now.global) c.in_ok-span.span c.new.ensures.makes.keeps.known c.in_ok-span.ensures.makes.ok

pub returns-clause-moments : goal.returns-clause-moments
returns-clause-moments g c =
    made_calls g.S.Subscriber.does (λ at s t. ⊥) g.S.Subscriber.same_but_room g.met.S.Subscriber.same_refl g.met.S.Subscriber.same_trans g.S.Subscriber.spans c.args.world.now c.new.new.world c.args.lane.now c.args.at parent.Current c.args.site c.args.values.now (dispatch_on c.args.lane.now.default c.args.world.now.global) c.in_ok-span.span c.in_ok-span.ensures.makes.ok
