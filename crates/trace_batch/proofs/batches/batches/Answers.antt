-- What is left is the last batch.
use Rattle.std.proofs.Common.{List, map, Vec, Global, arith, ap, ◌∙◌}
use mathlib.Core.Logic.{inl, inr}
use Rattle.trace_batch.specs.declared.item.Sent.{Sent}
use Rattle.trace_batch.proofs.CutLemmas.{cut_parted}
use Rattle.trace_batch.proofs.batches.batches.Goals as goal
use Rattle.trace_batch.proofs.batches.batches.Goals.{then-len-gt0+in_ok-add_batch, else-len-gt0}

abbrev items : List (Vec Sent Global) → List (List Sent)
items bs = map (λ (v : Vec Sent Global). v.items) bs

pub returns : goal.returns
returns c =
    let a = c.in_ok-all.last.ok.0 in
    let e = c.len.ensures in
    elim c.if-len-gt0.branch [
      | then-len-gt0+in_ok-add_batch w ↦
          cut_parted c.args.n c.args.items.items (items c.in_ok-all.all.items) (items c.if-len-gt0.all.items) c.in_ok-all.last.items c.requires c.in_ok-all.ensures
          (inl ((let h = w.if-len-gt0.true in omega arith), ap (λ (v : Vec (Vec Sent Global) Global). items v.items) w.all-is ∙ w.in_ok-add_batch.ensures))
      | else-len-gt0 w ↦
          cut_parted c.args.n c.args.items.items (items c.in_ok-all.all.items) (items c.if-len-gt0.all.items) c.in_ok-all.last.items c.requires c.in_ok-all.ensures
          (inr ((let h = w.if-len-gt0.false in omega arith), ap (λ (v : Vec (Vec Sent Global) Global). items v.items) w.all-is))
    ]
