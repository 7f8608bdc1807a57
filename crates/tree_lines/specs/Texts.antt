-- The lines of the command `tree`.
use Rattle.std.specs.Prelude.{◌≡◌, ℕ, List, [], ◌∷◌, ◌++◌, codes, decimal, length, true, unwrap_or, option_map, slice_get}
use Rattle.std.specs.List.{flat_map}
use Rattle.serde_json.specs.Data.{Data, boolean, string, object}
use Rattle.trace_lines.specs.text.Hex.{hex16, hex32}
use Rattle.trace_lines.specs.reading.Object.{by_name, whole_number, line_of}
use Rattle.trace_tree.specs.declared.node.Node.{Node}
use Rattle.trace_tree.specs.declared.span.TreeSpan.{TreeSpan}
use Rattle.trace_tree.specs.declared.totals.TraceTotal.{TraceTotal}
use Rattle.trace_tree.specs.Paths.{IsForest}
use Rattle.trace_tree.specs.Totals.{IsTotals}

-- a span that stands so deep: its busy time, which is told as a text as sums are, its name and its id
abbrev pub node_data : ℕ → TreeSpan → Data
node_data depth finished = object (by_name (
    (codes "busy", string (decimal finished.busy))
    ∷ (codes "depth", whole_number depth)
    ∷ (codes "name", string finished.name)
    ∷ (codes "span", string (hex16 finished.span)) ∷ []))

-- its line
unfoldable pub node_text : ℕ → TreeSpan → List ℕ
node_text depth finished = line_of (node_data depth finished)

-- the line of a node, among some spans
abbrev pub node_line : List TreeSpan → Node → List ℕ
node_line rs node = unwrap_or (option_map (node_text node.depth) (slice_get rs node.place)) []

-- a trace: the sum of its busy times, how many spans it has, and its id
abbrev pub total_data : TraceTotal → Data
total_data total = object (by_name (
    (codes "busy", string (decimal total.busy))
    ∷ (codes "spans", whole_number total.spans)
    ∷ (codes "trace", string (hex32 total.trace)) ∷ []))

-- its line
unfoldable pub total_text : TraceTotal → List ℕ
total_text total = line_of (total_data total)

-- the end: how many spans are open, how many records there are, and of how many traces
abbrev pub tree_end_data : ℕ → ℕ → ℕ → Data
tree_end_data open_spans records traces = object (by_name (
    (codes "done", boolean true)
    ∷ (codes "open", whole_number open_spans)
    ∷ (codes "records", whole_number records)
    ∷ (codes "traces", whole_number traces) ∷ []))

-- its line
unfoldable pub tree_end_text : ℕ → ℕ → ℕ → List ℕ
tree_end_text open_spans records traces = line_of (tree_end_data open_spans records traces)

-- What is written of the finished spans of a script that leaves so many open: a line for each node of their forest, one for
-- each of their totals, and the end line.
pub record TellsTree (rs : List TreeSpan) (open_spans : ℕ) (text : List ℕ) : Type 0 where
  pub nodes : List Node
  pub forest : IsForest rs nodes
  pub totals : List TraceTotal
  pub sums : IsTotals rs totals
  pub text_is : text ≡ flat_map (node_line rs) nodes ++ flat_map total_text totals ++ tree_end_text open_spans (length rs) (length totals)
