-- The lines of the batches so far, and those of the rest, are all.
use Rattle.std.proofs.Common.{◌≡◌, ◌++◌, map, drop}
use Rattle.batch_lines.specs.Texts.{batch_lines}
use Rattle.batch_lines.proofs.text.add_batches.Given as goal

abbrev pub invariant-loop-batch : goal.invariant-loop-batch
invariant-loop-batch l =
    (l.number ≡ l.batch-index)
    × (l.out.items ++ batch_lines l.batch-index (map (λ b. b.items) (drop l.batch-index l.batches))
    ≡ l.initial.out.items ++ batch_lines 0 (map (λ b. b.items) l.batches))
