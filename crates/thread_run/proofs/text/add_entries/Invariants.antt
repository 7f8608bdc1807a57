-- what is written, and the rest, are all
use Rattle.std.proofs.Common.{◌≡◌, ◌++◌, ℕ, List, drop, false}
use Rattle.serde_json.specs.Written.{items_text}
use Rattle.trace_lines.specs.reading.Object.{items}
use Rattle.trace_lines.specs.text.Writes.{AddsText}
use Rattle.thread_run.specs.Texts.{entry_data}
use Rattle.thread_run.proofs.text.add_entries.Given as goal

abbrev pub invariant-loop-entry : goal.invariant-loop-entry
invariant-loop-entry l =
    (w : List ℕ) × AddsText l.initial.out.items l.out.items w
    × (w ++ items_text l.later (items entry_data (drop l.entry-index l.entries)) ≡ items_text false (items entry_data l.entries))
