use Rattle.std.proofs.Common.{refl}
use Rattle.json.specs.Print.{escape_byte}
use Rattle.serde_json.specs.Written.{compact_text}
use Rattle.trace_lines.specs.reading.Object.{line_of}
use Rattle.trace_lines.proofs.texts.AddsLemmas.{then, retold}
use Rattle.thread_run.specs.Texts.{history_data, entries_line}
use Rattle.thread_run.proofs.text.add_history.Goals as goal

pub returns : goal.returns
unfolding escape_byte entries_line line_of
returns c =
    then _ _ _ (compact_text (history_data c.args.place c.args.entries.now)) _
    (retold _ _ _ _ (then _ _ _ _ _ c.in_ok-add_entries.ensures (then _ _ _ _ _ c.in_ok-add_number.ensures c.in_ok-add.ensures)) refl)
    c.in_ok-add-2.ensures
