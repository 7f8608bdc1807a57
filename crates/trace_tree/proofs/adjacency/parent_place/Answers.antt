-- What the index has is looked at.
use Rattle.std.proofs.Common.{◌==◌, ◌&&◌, ltb, Bool, cond, Some, None, ap, sym, ◌∙◌}
use Rattle.trace_tree.specs.declared.span.TreeSpan.{TreeSpan}
use Rattle.trace_tree.proofs.Indexing.{parent_none, parent_some}
use Rattle.trace_tree.proofs.adjacency.parent_place.Goals as goal

pub returns-then-may_be_parent : goal.returns-then-may_be_parent
returns-then-may_be_parent c =
    let r : TreeSpan = c.args.one.now in
    let test = ap (λ (x : TreeSpan). (x.trace == r.trace) && ltb r.parent r.span) (sym c.index-finished-place.is) ∙ sym c.may_be_parent.ensures ∙ c.if-may_be_parent.true in
    sym (ap (λ (b : Bool). cond b (Some c.in-Some.place) None) test)
    ∙ parent_some c.args.finished.now r c.args.index.now c.in-Some.place c.index-finished-place.result c.requires.distinct c.requires.index (sym c.place_of.ensures ∙ c.in-Some.is)

pub returns-else-may_be_parent : goal.returns-else-may_be_parent
returns-else-may_be_parent c =
    let r : TreeSpan = c.args.one.now in
    let test = ap (λ (x : TreeSpan). (x.trace == r.trace) && ltb r.parent r.span) (sym c.index-finished-place.is) ∙ sym c.may_be_parent.ensures ∙ c.if-may_be_parent.false in
    sym (ap (λ (b : Bool). cond b (Some c.in-Some.place) None) test)
    ∙ parent_some c.args.finished.now r c.args.index.now c.in-Some.place c.index-finished-place.result c.requires.distinct c.requires.index (sym c.place_of.ensures ∙ c.in-Some.is)

pub returns-in-None : goal.returns-in-None
returns-in-None c = parent_none c.args.finished.now c.args.one.now c.args.index.now c.requires.index (sym c.place_of.ensures ∙ c.in-None.is)
