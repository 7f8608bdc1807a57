-- The line of the span at the node's place.
use Rattle.std.proofs.Common.{ℕ, List, ◌++◌, sym, ap, ◌∙◌}
use Rattle.tree_lines.proofs.NodesLemmas.{line_at}
use Rattle.tree_lines.proofs.text.add_node_line.Goals as goal

pub returns : goal.returns
returns c =
    c.in_ok-add_node.ensures.0
    ∙ ap (λ (l : List ℕ). c.args.out.now.items ++ l) (sym (line_at c.args.spans.now c.args.node.now c.index-spans-node.result c.requires c.index-spans-node.is))
