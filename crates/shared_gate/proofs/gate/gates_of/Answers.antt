-- A gate more, of the last reader.
use Rattle.std.proofs.Common.{◌∙◌, All, IfSome, sym, subst, arith}
use Rattle.std.proofs.lemmas.List.Elements.{All-pop, All-push}
use Rattle.value_reader.specs.Knowing.{IsNewReader}
use Rattle.shared_gate.specs.Gates.{IsNewGate}
use Rattle.shared_gate.proofs.gate.gates_of.Goals as goal

pub loop-preserved : goal.loop-preserved
loop-preserved c =
    let i = c.loop.invariant in
    let left = i.left in
    let count = i.count in
    let fewer = c.in-Some.ensures.len in
    let more = c.push_reserved.ensures.len in
    record {
      left = omega (arith, fewer, left);
      count = omega (arith, more, count);
      room = c.push_reserved.ensures.capacity ∙ i.room;
      gates = λ table text all.
          let both = i.gates table text all in
          let popped = All-pop (IsNewReader table text) c.loop.readers.items c.pop.new.self.items c.pop.result c.pop.ensures.items both.0 in
          let taken : IsNewReader table text c.in-Some.reader = subst (λ r. IfSome r (IsNewReader table text)) c.in-Some.is popped.1 in
          (popped.0, subst (All (IsNewGate table text)) (sym c.push_reserved.ensures.items) (All-push (IsNewGate table text) c.loop.gates.items _ both.1 taken));
    }
