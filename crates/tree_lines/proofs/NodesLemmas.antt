-- The line of a node is that of its span.
use Rattle.std.proofs.Common.{◌≡◌, ◌<◌, List, [], length, Some, sym, ap, ◌∙◌, get_or}
use Rattle.std.specs.Prelude.{Option, option_map, unwrap_or, slice_get}
use Rattle.std.proofs.lemmas.Option.{slice_get-get_or}
use Rattle.trace_tree.specs.declared.node.Node.{Node}
use Rattle.trace_tree.specs.declared.span.TreeSpan.{TreeSpan}
use Rattle.tree_lines.specs.Texts.{node_text, node_line}

pub line_at : (rs : List TreeSpan) (x : Node) (r : TreeSpan) → x.place < length rs → r ≡ get_or rs x.place r → node_line rs x ≡ node_text x.depth r
line_at rs x r less is = ap (λ (o : Option TreeSpan). unwrap_or (option_map (node_text x.depth) o) []) (slice_get-get_or rs x.place r less ∙ ap (λ (q : TreeSpan). Some q) (sym is))
