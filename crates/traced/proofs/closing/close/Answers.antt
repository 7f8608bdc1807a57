-- By the chain of closes.
use Rattle.traced.proofs.Moves.{closed, closed_again, closed_global}
use Rattle.traced.proofs.Elsewhere.{count_on}
use Rattle.traced.proofs.closing.close.Goals as goal

pub returns-clause-closes : goal.returns-clause-closes
returns-clause-closes g c = record {
  did = c.close.ensures.did;
  global = closed_global g.S.Subscriber c.lawful.ensures c.args.world.now c.close.new.world c.args.at c.args.span.held c.close.ensures.did;
  count = count_on _ c.args.world.now c.close.new.world c.args.span.held c.close.ensures.did;
  stands = λ most dispatch sites lanes stands. closed g.S.Subscriber c.lawful.ensures most dispatch sites c.args.world.now c.close.new.world lanes c.args.at c.args.span.held c.close.ensures.did stands;
  as_before = λ dispatch before made. closed_again g.S.Subscriber c.lawful.ensures dispatch before c.args.world.now c.close.new.world c.args.at c.args.span c.close.ensures.did c.close.ensures.keeps made;
}
