-- One more is empty too.
use Rattle.std.proofs.Common.{◌+◌, ◌∷◌, ℕ, [], List, length, get_or, ap, ◌∙◌, length-append}
use Rattle.trace_batch.specs.declared.item.Item.{Item}
use Rattle.batch_lines.specs.declared.finished.FinishedSpan.{FinishedSpan}
use Rattle.batch_lines.proofs.ListsLemmas.{none_more}
use Rattle.batch_lines.proofs.lists.empty_lists.Goals as goal

pub loop-preserved : goal.loop-preserved
loop-preserved c =
    let lists : List (List (Item FinishedSpan)) = c.loop.lists.items in
    let more = c.in_ok-add_list.ensures in (
      ap length more ∙ length-append lists ([] ∷ []) ∙ ap (λ (n : ℕ). n + 1) c.loop.invariant.0,
      λ k. ap (λ (xs : List (List (Item FinishedSpan))). get_or xs k []) more ∙ none_more lists c.loop.invariant.1 k,
    )
