-- A batch that is full is added, and the next one is open and empty.
use Rattle.std.proofs.Common.{◌≡◌, ◌++◌, ◌∷◌, List, [], map, length, Vec, Global, ap, ◌∙◌, arith}
use Rattle.trace_batch.specs.declared.item.Sent.{Sent}
use Rattle.trace_batch.proofs.CutLemmas.{full_step}
use Rattle.trace_batch.proofs.batches.parts.Goals as goal

abbrev items : List (Vec Sent Global) → List (List Sent)
items bs = map (λ (v : Vec Sent Global). v.items) bs

pub loop-item-preserved-in-Continue-branch-2 : goal.loop-item-preserved-in-Continue-branch-2
loop-item-preserved-in-Continue-branch-2 c =
    let i = c.loop-item.invariant in
    let is : c.replace-full.result.items ≡ c.loop-item.part.items ++ c.in-Some.item ∷ [] = ap (λ (v : Vec Sent Global). v.items) c.replace-full.ensures.value ∙ c.in_ok-push.ensures.items in
    let same : length c.replace-full.result.items ≡ length c.push.new.self.items = ap (λ (v : Vec Sent Global). length v.items) c.replace-full.ensures.value in
    let len : length c.replace-full.result.items ≡ c.args.n = (let a = c.push.new.self.ok.0 in let b = c.if-len-n.true in let e = c.len.ensures in omega arith) in
    let none : c.replace-full.new.dest.items ≡ [] = ap (λ (v : Vec Sent Global). v.items) c.replace-full.ensures.after ∙ c.new.ensures.items in
    let s = full_step c.args.n (items c.loop-item.all.items) (items c.add_batch.new.all.items) c.loop-item.part.items c.replace-full.result.items c.replace-full.new.dest.items c.loop-item.yielded c.in-Some.item c.requires i.full i.whole is len c.in_ok-add_batch.ensures none in
    record { whole = s.0; full = s.1; fewer = s.2 }
