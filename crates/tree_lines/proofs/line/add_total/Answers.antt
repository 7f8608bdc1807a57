use Rattle.std.proofs.Common.{refl}
use Rattle.json.specs.Print.{escape_byte}
use Rattle.serde_json.specs.Written.{compact_text}
use Rattle.trace_lines.specs.reading.Object.{line_of}
use Rattle.trace_lines.proofs.texts.AddsLemmas.{then, retold}
use Rattle.tree_lines.specs.Texts.{total_data, total_text}
use Rattle.tree_lines.proofs.line.add_total.Goals as goal

pub returns : goal.returns
unfolding escape_byte total_text line_of
returns c =
    then _ _ _ (compact_text (total_data c.args.total.now)) _
    (retold _ _ _ _ (then _ _ _ _ _ c.in_ok-add_decimal.ensures (then _ _ _ _ _ c.in_ok-add_number.ensures (then _ _ _ _ _ c.in_ok-add_long_id.ensures c.in_ok-add.ensures))) (refl))
    c.in_ok-add-2.ensures
