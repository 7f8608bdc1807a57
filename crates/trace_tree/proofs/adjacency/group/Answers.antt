-- Each place goes to the roots or under its tree parent.
use Rattle.std.proofs.Common.{rules, ◌≡◌, ℕ, ◌+◌, ◌<◌, Some, None, List, [], ◌∷◌, ◌++◌, length, map, get_or, set, Bor, ap, sym, ◌∙◌, subst, arith, length-append}
use Rattle.std.specs.Ordering.{nat_cmp}
use Rattle.std.specs.BTreeMap.{get}
use Rattle.std.specs.Map.{values_of}
use Rattle.std.specs.Map.Iter.{deref_pair}
use Rattle.std.proofs.lemmas.Cmp.{nat_cmp_total}
use Rattle.std.proofs.lemmas.List.{get_or_default, map-append}
use Rattle.std.proofs.lemmas.List.Elements.{recursion_from_All}
use Rattle.std.proofs.lemmas.Map.Iter.{btree_map_turn, iter_end}
use Rattle.trace_tree.specs.Walking.{parent_place_from, parent_place_at}
use Rattle.trace_tree.proofs.Parents.{up_within}
use Rattle.trace_tree.proofs.Visits.{up_is}
use Rattle.trace_tree.proofs.Groups.{Grouped, empty_more, grouped_start, grouped_root, grouped_under, grouped_end, places_from}
use Rattle.trace_tree.proofs.adjacency.group.Goals as goal

places_more : (es : List (Bor ℕ × Bor ℕ)) (k x : Bor ℕ) → values_of (map deref_pair (es ++ (k, x) ∷ [])) ≡ values_of (map deref_pair es) ++ x.now ∷ []
places_more es k x = ap values_of (map-append deref_pair es ((k, x) ∷ [])) ∙ map-append (λ (e : ℕ × ℕ). e.1) (map deref_pair es) ((k.now, x.now) ∷ [])

pub loop-init : goal.loop-init
loop-init c = (ap length c.new-children.ensures.items, λ p. ap (λ (l : List (List ℕ)). get_or l p []) c.new-children.ensures.items)

pub loop-preserved : goal.loop-preserved
loop-preserved c =
    let is = c.in_ok-push.ensures.items ∙ ap (λ (l : List ℕ). c.loop.children.items ++ l ∷ []) c.new.ensures in (
      ap length is ∙ length-append c.loop.children.items ([] ∷ []) ∙ ap (λ n. n + 1) c.loop.invariant.0,
      λ p. ap (λ (l : List (List ℕ)). get_or l p []) is ∙ empty_more c.loop.children.items p (c.loop.invariant.1 p),
    )

pub loop-place-init : goal.loop-place-init
loop-place-init c =
    let size : length c.loop.children.items ≡ length c.args.finished.now = (let a = c.loop.invariant.0 in let b = c.loop-test.false in let d = c.loop.auto.index-end in omega arith) in
    subst (λ (l : List ℕ). Grouped c.args.finished.now l c.loop.children.items []) (sym c.new-roots.ensures)
    (grouped_start c.args.finished.now c.loop.children.items size c.loop.invariant.1)

pub bounds-finished-place : goal.bounds-finished-place
bounds-finished-place c =
    let it = c.into_iter-place-iterator.ensures.into_iter_gives in
    let t = btree_map_turn deref_pair c.loop-place.yielded _ _ _ _ (c.in-Some.field-0-0, c.in-Some.place) c.loop-place.yielded_by c.in-Some.is c.next.ensures.steps nat_cmp_total c.args.index.now it.0 it.5 in
    (c.requires.index.sound c.in-Some.field-0-0.now c.in-Some.place.now t.1).0

pub offset_bounds-finished-place : goal.offset_bounds-finished-place
offset_bounds-finished-place c =
    let it = c.into_iter-place-iterator.ensures.into_iter_gives in
    let t = btree_map_turn deref_pair c.loop-place.yielded _ _ _ _ (c.in-Some.field-0-0, c.in-Some.place) c.loop-place.yielded_by c.in-Some.is c.next.ensures.steps nat_cmp_total c.args.index.now it.0 it.5 in
    let small : c.in-Some.place.now < length c.args.finished.now = (c.requires.index.sound c.in-Some.field-0-0.now c.in-Some.place.now t.1).0 in
    search rules

pub index_mut-requires : goal.index_mut-requires
index_mut-requires c =
    let u = sym c.parent_place.ensures ∙ c.in-Some-parent_place.is in
    let w = up_within 0 c.args.finished.now c.index-finished-place.result c.in-Some-parent_place.parent u in
    let s = c.loop-place.invariant.size in
    let l = c.loop-place.children.ok.0 in
    let h = w.1 in
    omega arith

pub loop-place-preserved-in-Continue-branch-2 : goal.loop-place-preserved-in-Continue-branch-2
loop-place-preserved-in-Continue-branch-2 c =
    let it = c.into_iter-place-iterator.ensures.into_iter_gives in
    let t = btree_map_turn deref_pair c.loop-place.yielded _ _ _ _ (c.in-Some.field-0-0, c.in-Some.place) c.loop-place.yielded_by c.in-Some.is c.next.ensures.steps nat_cmp_total c.args.index.now it.0 it.5 in
    let small = (c.requires.index.sound c.in-Some.field-0-0.now c.in-Some.place.now t.1).0 in
    let from = sym c.parent_place.ensures ∙ c.in-Some-parent_place.is in
    let up : parent_place_at c.args.finished.now c.in-Some.place.now ≡ Some c.in-Some-parent_place.parent =
    up_is c.args.finished.now c.args.finished.now c.in-Some.place.now c.index-finished-place.result small ∙ ap (parent_place_from 0 c.args.finished.now) (sym c.index-finished-place.is) ∙ from in
    let w = up_within 0 c.args.finished.now c.index-finished-place.result c.in-Some-parent_place.parent from in
    let less : c.in-Some-parent_place.parent < length c.args.finished.now = (let h = w.1 in omega arith) in
    let inside : c.in-Some-parent_place.parent < length c.loop-place.children.items = (let s = c.loop-place.invariant.size in omega arith) in
    let kids : c.push-in-Some-parent_place.new.self ≡ get_or c.loop-place.children.items c.in-Some-parent_place.parent [] ++ c.in-Some.place.now ∷ [] =
    c.in_ok-push-in-Some-parent_place.ensures.ok
    ∙ ap (λ (l : List ℕ). l ++ c.in-Some.place.now ∷ []) (c.index_mut.ensures.value ∙ get_or_default c.loop-place.children.items c.in-Some-parent_place.parent c.index_mut.result.now [] inside) in
    let G : List ℕ × List ℕ → Type 0 = λ p. Grouped c.args.finished.now c.loop-place.roots (set c.loop-place.children.items c.in-Some-parent_place.parent p.0) p.1 in
    subst G (λ i. (sym kids i, sym (places_more c.loop-place.yielded c.in-Some.field-0-0 c.in-Some.place) i))
    (grouped_under c.args.finished.now c.loop-place.roots c.loop-place.children.items (values_of (map deref_pair c.loop-place.yielded)) c.in-Some.place.now c.in-Some-parent_place.parent c.loop-place.invariant up less)

pub loop-place-preserved : goal.loop-place-preserved
loop-place-preserved c =
    let it = c.into_iter-place-iterator.ensures.into_iter_gives in
    let t = btree_map_turn deref_pair c.loop-place.yielded _ _ _ _ (c.in-Some.field-0-0, c.in-Some.place) c.loop-place.yielded_by c.in-Some.is c.next.ensures.steps nat_cmp_total c.args.index.now it.0 it.5 in
    let small = (c.requires.index.sound c.in-Some.field-0-0.now c.in-Some.place.now t.1).0 in
    let up : parent_place_at c.args.finished.now c.in-Some.place.now ≡ None =
    up_is c.args.finished.now c.args.finished.now c.in-Some.place.now c.index-finished-place.result small ∙ ap (parent_place_from 0 c.args.finished.now) (sym c.index-finished-place.is)
    ∙ sym c.parent_place.ensures ∙ c.in-None-parent_place.is in
    let G : List ℕ × List ℕ → Type 0 = λ p. Grouped c.args.finished.now p.0 c.loop-place.children.items p.1 in
    subst G (λ i. (sym c.in_ok-push-in-None-parent_place.ensures.ok i, sym (places_more c.loop-place.yielded c.in-Some.field-0-0 c.in-Some.place) i))
    (grouped_root c.args.finished.now c.loop-place.roots c.loop-place.children.items (values_of (map deref_pair c.loop-place.yielded)) c.in-Some.place.now c.loop-place.invariant up)

pub returns : goal.returns
returns c =
    let it = c.into_iter-place-iterator.ensures.into_iter_gives in
    let all = iter_end deref_pair c.args.index.now.entries c.loop-place.yielded _ _ _ _ it.0 c.loop-place.yielded_by c.in-None.is c.next.ensures.steps in
    grouped_end c.args.finished.now (record { roots = c.loop-place.roots; children = c.loop-place.children }) (values_of c.args.index.now.entries)
    (subst (λ (l : List (ℕ × ℕ)). Grouped c.args.finished.now c.loop-place.roots c.loop-place.children.items (values_of l)) all.0 c.loop-place.invariant)
    (places_from c.args.finished.now c.args.index.now c.requires.index it.5 (recursion_from_All (λ (e : ℕ × ℕ). get nat_cmp c.args.index.now e.0 ≡ Some e.1) c.args.index.now.entries it.6))
