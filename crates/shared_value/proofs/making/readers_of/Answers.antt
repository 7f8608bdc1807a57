-- A reader more, of the last copy.
use Rattle.std.proofs.Common.{◌∙◌, vec_capacity, IfSome, subst, arith}
use Rattle.std.proofs.lemmas.List.Elements.{All-pop}
use Rattle.std.specs.Arc.{arc_value}
use Rattle.value_reader.specs.Knowing.{IsNewReader, IsFirst}
use Rattle.shared_value.proofs.Lists.{all_pushed}
use Rattle.shared_value.proofs.making.readers_of.Goals as goal

-- the last copy is of the first value, as all are
pub new-requires-clause-first : goal.new-requires-clause-first
new-requires-clause-first g c =
    let first = c.args.origin.now.first.value in
    let copies = All-pop (λ t. IsFirst first (arc_value t)) c.loop.copies.items c.pop.new.self.items c.pop.result c.pop.ensures.items c.loop.invariant.copies in
    subst (λ r. IfSome r (λ t. IsFirst first (arc_value t))) c.in-Some.is copies.1

pub loop-preserved : goal.loop-preserved
loop-preserved g c =
    let i = c.loop.invariant in
    let left = i.left in
    let count = i.count in
    let fewer = c.in-Some.ensures.len in
    let more = c.push_reserved.ensures.len in
    let table = (arc_value c.args.origin.now.factory.value.board).shared.table_id in
    let first = c.args.origin.now.first.value in
    let made = c.push_reserved.new.self in
    let copies = All-pop (λ t. IsFirst first (arc_value t)) c.loop.copies.items c.pop.new.self.items c.pop.result c.pop.ensures.items i.copies in
    record {
      left = omega (arith, fewer, left);
      copies = copies.0;
      count = omega (arith, more, count);
      room = ◌∙◌ {a = vec_capacity made} c.push_reserved.ensures.capacity i.room;
      readers = all_pushed (IsNewReader table first) c.loop.made.items made.items c.new.result c.push_reserved.ensures.items i.readers c.new.ensures;
    }
