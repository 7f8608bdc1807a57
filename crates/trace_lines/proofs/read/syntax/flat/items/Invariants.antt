-- the items that were read, as they stand in the text and as they are kept
use Rattle.std.specs.Str.{IsUtf8}
use Rattle.trace_lines.proofs.Common.{List, MAX_DEPTH, items, value_data, ◌≡◌}
use Rattle.trace_lines.proofs.readings.CompactLemmas.{Pair, AllRead, GoesItems, read_items}
use Rattle.trace_lines.proofs.read.syntax.flat.items.Given as goal

abbrev pub invariant-loop : goal.invariant-loop
invariant-loop l = (ps : List Pair) × AllRead MAX_DEPTH ps × GoesItems l.initial.rest ps l.rest × (items value_data l.values.items ≡ read_items ps) × IsUtf8 l.rest
