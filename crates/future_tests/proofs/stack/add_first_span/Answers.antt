-- A first span of a stack that was just made.
use Rattle.std.proofs.Common.{ℕ, ◌<◌, length, Option, Some, sym, subst, arith}
use Rattle.std.specs.Prelude.{IfSome}
use Rattle.trace_base.specs.declared.span.Parent.TheVariants as parent
use Rattle.future_tests.proofs.Lasting.{goes_on}
use Rattle.future_tests.proofs.Making.{made_lent}
use Rattle.future_tests.proofs.Starting.{may_make, starts}
use Rattle.future_tests.proofs.stack.add_first_span.Goals as goal

pub new_root_with-requires-clause-may : goal.new_root_with-requires-clause-may
new_root_with-requires-clause-may g c =
    let is = c.in_ok-stack.ensures.dispatch in
    let more = c.in_ok-stack.ensures.more in
    may_make g.S.Subscriber.spans g.S.Subscriber.kept g.S.Subscriber.is_whole c.add_stack.new.world c.args.lane.now.id parent.Root c.in_ok-stack.stack c.in_ok-stack.ensures.unused (omega (arith, is, more)) tt tt

pub returns-clause-ready : goal.returns-clause-ready
returns-clause-ready g c =
    goes_on g.S.Subscriber.spans g.S.Subscriber.kept g.S.Subscriber.is_whole c.add_stack.new.world c.new_root_with.new.world c.args.lane.now c.args.lane.now
    (made_lent g.S.Subscriber.spans g.S.Subscriber.kept g.S.Subscriber.is_whole g.S.Subscriber.attaches g.S.Subscriber.does g.met.S.Subscriber.shows g.met.S.Subscriber.keeps_lanes g.met.S.Subscriber.keeps_whole c.add_stack.new.world c.new_root_with.new.world c.args.lane.now 0 parent.Root _ _ (Some c.in_ok-stack.stack) c.in_ok-span.span c.new_root_with.ensures.makes.keeps.known c.in_ok-span.ensures.makes.ok)
    (starts g.S.Subscriber.spans g.S.Subscriber.kept g.S.Subscriber.is_whole c.add_stack.new.world c.args.lane.now c.in_ok-stack.ensures.unused (subst (λ (o : Option ℕ). IfSome o (λ d. d < length c.add_stack.new.world.subscribers)) (sym c.requires.own) tt))
