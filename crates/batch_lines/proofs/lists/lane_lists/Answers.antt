-- The next record joins the list of its lane.
use Rattle.std.proofs.Common.{◌+◌, ℕ, [], ◌∷◌, List, length, get_or, ap, sym, ◌∙◌, arith, length-append}
use Rattle.batch_lines.proofs.ListsLemmas.{joined_list}
use Rattle.batch_lines.proofs.lists.lane_lists.Goals as goal

pub loop-record-preserved : goal.loop-record-preserved
loop-record-preserved c =
    let inv = c.loop-record.invariant in
    let lanes : List ℕ = c.args.lanes.now in
    let within = c.lane_at.ensures.within in
    let few = c.lane_at.ensures.few in
    let place = inv.0 in
    let len = inv.1 in (
      ap (λ (n : ℕ). n + 1) place ∙ sym (length-append c.loop-record.yielded (c.in-Some.record ∷ [])),
      c.in_ok-add_item.ensures.len ∙ len,
      joined_list c.loop-record.lists.items c.add_item.new.lists.items c.loop-record.yielded c.in-Some.record lanes c.lane_at.result (c.loop-record.place + 1) (omega arith)
          (ap (λ (n : ℕ). get_or lanes n 0) (sym place) ∙ sym c.lane_at.ensures.value) (ap (λ (n : ℕ). n + 1) place) (omega arith) inv.2 c.in_ok-add_item.ensures.added,
    )
