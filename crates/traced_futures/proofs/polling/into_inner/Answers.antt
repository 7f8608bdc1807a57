-- By the chain of closes, as `traced::close`.
use Rattle.traced.proofs.Elsewhere.{count_on}
use Rattle.traced.proofs.Moves.{closed, closed_again, closed_global}
use Rattle.traced_futures.proofs.polling.into_inner.Goals as goal

pub returns-clause-closes : goal.returns-clause-closes
returns-clause-closes g c = record {
  did = c.into_inner.ensures.did;
  global = closed_global g.S.Subscriber c.lawful.ensures c.args.world.now c.into_inner.new.world c.args.at c.args.future.span.held c.into_inner.ensures.did;
  count = count_on _ c.args.world.now c.into_inner.new.world c.args.future.span.held c.into_inner.ensures.did;
  stands = λ most dispatch sites lanes stands. closed g.S.Subscriber c.lawful.ensures most dispatch sites c.args.world.now c.into_inner.new.world lanes c.args.at c.args.future.span.held c.into_inner.ensures.did stands;
  as_before = λ dispatch before made. closed_again g.S.Subscriber c.lawful.ensures dispatch before c.args.world.now c.into_inner.new.world c.args.at c.args.future.span c.into_inner.ensures.did c.into_inner.ensures.keeps made;
}
