-- The next item joins those that are written.
use Rattle.std.proofs.Common.{arith}
use Rattle.batch_lines.proofs.LinesLemmas.{listed_next, listed_all}
use Rattle.batch_lines.proofs.line.add_items.Goals as goal

pub loop-sent-preserved : goal.loop-sent-preserved
loop-sent-preserved c =
    listed_next c.args.batch.now c.loop-sent.sent-index c.sent-item.result c.loop-sent.later c.loop-sent.out.items _ c.separator.result.now _ (omega arith) c.sent-item.is c.separator.ensures c.in_ok-add_sent.ensures c.loop-sent.invariant

pub returns : goal.returns
returns c = listed_all c.args.batch.now c.loop-sent.sent-index c.loop-sent.later _ _ (omega arith) c.loop-sent.invariant
