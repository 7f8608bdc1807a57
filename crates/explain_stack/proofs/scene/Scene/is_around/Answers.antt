-- What is put, and what is closed.
use Rattle.std.proofs.Common.{rules}
use Rattle.explain_stack.proofs.scene.Scene.is_around.Goals as goal

pub returns-clause-around : goal.returns-clause-around
returns-clause-around g c = record {
  current = c.put_around-future.result.span;
  between = c.put_around-future.new.self.world;
  put = c.put_around-future.ensures.current;
  is = search rules;
  closed = c.close_future.ensures.closes;
}
