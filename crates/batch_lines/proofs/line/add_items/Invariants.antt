-- The items so far, and the rest, are all.
use Rattle.std.proofs.Common.{◌≡◌, ◌++◌, drop, false}
use Rattle.batch_lines.specs.Texts.{listed_texts}
use Rattle.batch_lines.proofs.line.add_items.Given as goal

abbrev pub invariant-loop-sent : goal.invariant-loop-sent
invariant-loop-sent l =
    l.out.items ++ listed_texts l.later (drop l.sent-index l.batch) ≡ l.initial.out.items ++ listed_texts false l.batch
