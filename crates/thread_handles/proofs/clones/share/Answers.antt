use Rattle.std.proofs.Common.{sym, ◌∙◌, refl, subst, List, length}
use Rattle.trace_threads.specs.Handles.{SharedHandle}
use Rattle.thread_handles.specs.Shares.{IsShared, HaveLearnt}
use Rattle.thread_handles.specs.Works.{WasReleased}
use Rattle.thread_handles.proofs.ClonesLemmas.{is_shared, take_front}
use Rattle.thread_handles.proofs.clones.share.Goals as goal

pub returns-in-Ok-made-clause-shared : goal.returns-in-Ok-made-clause-shared
returns-in-Ok-made-clause-shared g c =
    let r = c.release-released.result in
    let d : WasReleased c.make_clones-made.new.first r c.args.at = record { span = c.release-released.ensures.span; made = c.release-released.ensures.made; closed = c.release-released.ensures.closed } in
    let hs = c.make_clones-made.new.handles.items in
    let gs = c.teach.new.handles in
    let value = c.as_mut_slice.ensures.value in
    let n = c.as_mut_slice.ensures.len in
    let m = c.teach.ensures.len in
    let len = m ∙ (λ i. length (value i)) in
    let learnt = subst (λ (l : List SharedHandle). HaveLearnt (record { span = r.pass.span; view = r.pass.view }) l gs) value c.teach.ensures.learnt in
    let p = c.teach.ensures.pass in
    let whole = is_shared c.args.at c.args.first c.make_clones-made.new.first hs gs r c.requires.first.2 c.in-Ok-made.ensures.cloned d len learnt (record { pass = c.teach.new.pass; closed = r.closed }) p.0 p.1 p.2 refl in
    subst (λ (l : List SharedHandle). IsShared c.args.first l (record { pass = c.teach.new.pass; closed = r.closed })) (sym (take_front c.make_clones-made.new.handles.len gs _ (m ∙ n))) whole
