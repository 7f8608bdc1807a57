-- The next batch's line joins those that are written.
use Rattle.std.proofs.Common.{ap, ◌+◌, ℕ, arith}
use Rattle.batch_lines.proofs.LinesLemmas.{lines_next, lines_all}
use Rattle.batch_lines.proofs.text.add_batches.Goals as goal

pub loop-batch-preserved : goal.loop-batch-preserved
loop-batch-preserved c =
    let at = ap (λ (n : ℕ). n + 1) c.loop-batch.invariant.0 in (
      at,
      lines_next c.args.batches.now c.loop-batch.batch-index _ c.batch-item.result c.loop-batch.out.items _ _ (omega arith) c.batch-item.is at c.in_ok-add_line.ensures c.loop-batch.invariant.1,
    )

pub returns : goal.returns
returns c = lines_all c.args.batches.now c.loop-batch.batch-index _ _ (omega arith) c.loop-batch.invariant.1
