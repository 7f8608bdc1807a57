-- The next lane's sender has its pass, and what it leaves is taken in.
use Rattle.std.proofs.Common.{◌≡◌, ◌<◌, get_or, length, List, [], sym, ◌∙◌, subst}
use Rattle.std.proofs.lemmas.List.{get_or_default}
use Rattle.trace_batch.specs.declared.item.Item.{Item}
use Rattle.trace_batch.specs.Sending.{Sends}
use Rattle.trace_batch.proofs.Steps.{forks}
use Rattle.trace_batch.proofs.Texts.{AllOf}
use Rattle.trace_batch.proofs.writer.+serve.Goals as goal

pub another-pass-requires-clause-rule : goal.another-pass-requires-clause-rule
another-pass-requires-clause-rule g t c = forks _ _ c.args.lane [] c.requires.opens.0

pub start-started-requires-clause-own : goal.start-started-requires-clause-own
start-started-requires-clause-own g t c κs within =
    let lists : List (List (Item g.row.F.Denot)) = c.args.lists.now in
    let less : c.args.lane < length lists = c.if-lane-lists.false in
    let same : c.as_slice-list.result.now ≡ get_or lists c.args.lane [] = c.as_slice-list.ensures ∙ c.index-lists-lane.is ∙ get_or_default lists c.args.lane c.index-lists-lane.result [] less in
    subst (AllOf c.args.lane) (sym same) (c.requires.own c.args.lane less)

pub settle-requires-clause-sends : goal.settle-requires-clause-sends
settle-requires-clause-sends g t c =
    let lists : List (List (Item g.row.F.Denot)) = c.args.lists.now in
    let less : c.args.lane < length lists = c.if-lane-lists.false in
    let same : c.as_slice-list.result.now ≡ get_or lists c.args.lane [] = c.as_slice-list.ensures ∙ c.index-lists-lane.is ∙ get_or_default lists c.args.lane c.index-lists-lane.result [] less in
    subst (λ (l : List (Item g.row.F.Denot)). Sends g.F.Finished.text c.args.queue.now c.args.lane l c.end_of.result) same (c.start-started.ensures c.end_of.result c.end_of.ensures)
