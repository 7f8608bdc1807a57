-- Each node that is taken off the stack is visited, and its children are put there.
use Rattle.std.proofs.Common.{◌≡◌, ℕ, ◌+◌, ◌<◌, List, [], ◌∷◌, ◌++◌, length, map, reverse, get_or, ap, sym, ◌∙◌, subst, arith, rules, length-append}
use Rattle.std.proofs.lemmas.List.{get_or_default, reverse-append, reverse-reverse}
use Rattle.trace_tree.specs.declared.node.Node.{Node}
use Rattle.trace_tree.specs.Walking.{node_with}
use Rattle.trace_tree.proofs.Visits.{Visits, visits_start, visits_step, visits_end, next_within, next_fits}
use Rattle.trace_tree.proofs.walk.walk.Goals as goal

-- what is put onto the stack last stands first
pushed : (ws xs : List Node) → reverse (ws ++ reverse xs) ≡ xs ++ reverse ws
pushed ws xs = reverse-append ws (reverse xs) ∙ ap (λ (l : List Node). l ++ reverse ws) (reverse-reverse xs)

pub loop-node-init : goal.loop-node-init
loop-node-init c =
    let waits : c.push_all.new.stack.items ≡ reverse (map (node_with 0) c.args.adjacency.now.roots) =
    c.in_ok-push_all.ensures ∙ ap (λ (l : List Node). l ++ reverse (map (node_with 0) c.as_slice.result.now)) c.new-stack.ensures.items ∙ ap (λ (l : List ℕ). reverse (map (node_with 0) l)) c.as_slice.ensures in
    let V : List Node × List Node → Type 0 = λ p. Visits c.args.finished.now p.0 p.1 in
    let order = ap reverse waits ∙ reverse-reverse (map (node_with 0) c.args.adjacency.now.roots) in
    subst V (λ i. (sym c.new-nodes.ensures.items i, sym order i)) (visits_start c.args.finished.now c.args.adjacency.now c.requires)

pub index-requires : goal.index-requires
index-requires c =
    let v : Visits c.args.finished.now c.loop-node.nodes.items (c.in-Some.node ∷ reverse c.pop.new.self.items) =
    subst (Visits c.args.finished.now c.loop-node.nodes.items) (ap reverse c.in-Some.ensures.items ∙ reverse-append c.pop.new.self.items (c.in-Some.node ∷ [])) c.loop-node.invariant in
    let h = next_within c.args.finished.now c.loop-node.nodes.items c.in-Some.node (reverse c.pop.new.self.items) v in
    let s = c.requires.size in
    let l = c.args.adjacency.now.children.ok.0 in
    omega arith

pub loop-node-smaller : goal.loop-node-smaller
loop-node-smaller c =
    let v : Visits c.args.finished.now c.loop-node.nodes.items (c.in-Some.node ∷ reverse c.pop.new.self.items) =
    subst (Visits c.args.finished.now c.loop-node.nodes.items) (ap reverse c.in-Some.ensures.items ∙ reverse-append c.pop.new.self.items (c.in-Some.node ∷ [])) c.loop-node.invariant in
    let h = next_fits c.args.finished.now c.loop-node.nodes.items c.in-Some.node (reverse c.pop.new.self.items) v in
    let l : length c.push.new.self.items ≡ length c.loop-node.nodes.items + 1 = ap length c.in_ok-push.ensures.items ∙ length-append c.loop-node.nodes.items (c.in-Some.node ∷ []) in
    omega arith

pub loop-node-preserved : goal.loop-node-preserved
loop-node-preserved c =
    let v : Visits c.args.finished.now c.loop-node.nodes.items (c.in-Some.node ∷ reverse c.pop.new.self.items) =
    subst (Visits c.args.finished.now c.loop-node.nodes.items) (ap reverse c.in-Some.ensures.items ∙ reverse-append c.pop.new.self.items (c.in-Some.node ∷ [])) c.loop-node.invariant in
    let more = visits_step c.args.finished.now c.args.adjacency.now c.loop-node.nodes.items c.in-Some.node (reverse c.pop.new.self.items) c.requires v in
    let inside : c.in-Some.node.place < length c.args.adjacency.now.children.items =
    (let h = next_within c.args.finished.now c.loop-node.nodes.items c.in-Some.node (reverse c.pop.new.self.items) v in let s = c.requires.size in omega arith) in
    let under : c.as_slice-children.result.now ≡ get_or c.args.adjacency.now.children.items c.in-Some.node.place [] =
    c.as_slice-children.ensures ∙ c.index.ensures ∙ get_or_default c.args.adjacency.now.children.items c.in-Some.node.place c.index.result.now [] inside in
    let waits : c.push_all-in-Some.new.stack.items ≡ c.pop.new.self.items ++ reverse (map (node_with (c.in-Some.node.depth + 1)) (get_or c.args.adjacency.now.children.items c.in-Some.node.place [])) =
    c.in_ok-push_all-2.ensures ∙ ap (λ (l : List ℕ). c.pop.new.self.items ++ reverse (map (node_with (c.in-Some.node.depth + 1)) l)) under in
    let order = ap reverse waits ∙ pushed c.pop.new.self.items (map (node_with (c.in-Some.node.depth + 1)) (get_or c.args.adjacency.now.children.items c.in-Some.node.place [])) in
    let V : List Node × List Node → Type 0 = λ p. Visits c.args.finished.now p.0 p.1 in
    subst V (λ i. (sym c.in_ok-push.ensures.items i, sym order i)) more

pub returns : goal.returns
returns c =
    let none : c.loop-node.stack.items ≡ [] = search rules in
    visits_end c.args.finished.now c.loop-node.nodes.items (subst (Visits c.args.finished.now c.loop-node.nodes.items) (ap reverse none) c.loop-node.invariant)
