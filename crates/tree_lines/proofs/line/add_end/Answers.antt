use Rattle.std.proofs.Common.{refl}
use Rattle.json.specs.Print.{escape_byte}
use Rattle.serde_json.specs.Written.{compact_text}
use Rattle.trace_lines.specs.reading.Object.{line_of}
use Rattle.trace_lines.proofs.texts.AddsLemmas.{then, retold}
use Rattle.tree_lines.specs.Texts.{tree_end_data, tree_end_text}
use Rattle.tree_lines.proofs.line.add_end.Goals as goal

pub returns : goal.returns
unfolding escape_byte tree_end_text line_of
returns c =
    then _ _ _ (compact_text (tree_end_data c.args.open_spans c.args.records c.args.traces)) _
    (retold _ _ _ _ (then _ _ _ _ _ c.in_ok-add_number.ensures (then _ _ _ _ _ c.in_ok-add_number-2.ensures (then _ _ _ _ _ c.in_ok-add_number-3.ensures c.in_ok-add.ensures))) (refl))
    c.in_ok-add-2.ensures
