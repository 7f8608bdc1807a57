use Rattle.std.proofs.Common.{◌++◌, [], ◌∷◌, false, refl, ap, arith}
use Rattle.std.specs.Prelude.{slice_index_or}
use Rattle.serde_json.specs.Written.{compact_text, comma_if, items_text}
use Rattle.trace_lines.specs.reading.Object.{items}
use Rattle.trace_lines.proofs.texts.AddsLemmas.{begun, then, retold, item_added, items_added}
use Rattle.thread_run.specs.declared.entry.EntryDeed.{EntryDeed}
use Rattle.thread_run.specs.declared.entry.Deed.TheVariants as deed
use Rattle.thread_run.specs.Texts.{entry_data}
use Rattle.thread_run.proofs.ListLemmas.{any_default}
use Rattle.thread_run.proofs.text.add_entries.Goals as goal

pub loop-entry-init : goal.loop-entry-init
loop-entry-init c = ([], begun _, refl)

pub loop-entry-preserved : goal.loop-entry-preserved
loop-entry-preserved c =
    let w = c.loop-entry.invariant.0 in
    let xs = c.args.entries.now in
    let i = c.loop-entry.entry-index in
    let none : EntryDeed = record { caller = 0; deed = deed.Clone } in
    let x = slice_index_or xs i none in
    let text = comma_if c.loop-entry.later ++ compact_text (entry_data x) in (
      w ++ text,
      then _ _ _ _ _ c.loop-entry.invariant.1 (retold _ _ _ text c.in_ok-add_entry.ensures (rw (c.separator.ensures) refl)),
      item_added entry_data xs i x c.loop-entry.later w (items_text false (items entry_data c.args.entries.now)) (omega arith) (any_default xs i none x (omega arith)) c.loop-entry.invariant.2,
    )

pub returns : goal.returns
returns c =
    let w = c.loop-entry.invariant.0 in
    let all = items_added entry_data c.args.entries.now c.loop-entry.entry-index c.loop-entry.later w (items_text false (items entry_data c.args.entries.now)) (omega arith) c.loop-entry.invariant.2 in
    retold _ _ _ _ (then _ _ _ _ _ c.in_ok-add.ensures (then _ _ _ _ _ c.in_ok-add-2.ensures (then _ _ _ _ _ c.loop-entry.invariant.1 c.in_ok-add-3.ensures)))
    (ap (λ l. c.args.front.now ++ 91 ∷ l) all)
