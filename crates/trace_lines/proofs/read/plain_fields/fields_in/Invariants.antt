-- the fields that were read, as they stand in the text and as they are kept
use Rattle.std.specs.Str.{IsUtf8}
use Rattle.trace_lines.proofs.Common.{List, MAX_DEPTH, Some, each, field_of, ◌+◌, ◌≡◌}
use Rattle.trace_lines.proofs.readings.CompactLemmas.{Pair, AllRead, GoesItems, read_items}
use Rattle.trace_lines.proofs.read.plain_fields.fields_in.Given as goal

abbrev pub invariant-loop : goal.invariant-loop
invariant-loop l = (ps : List Pair) × AllRead (MAX_DEPTH + 1) ps × GoesItems l.initial.rest ps l.rest × (each field_of (read_items ps) ≡ Some l.fields.items) × IsUtf8 l.rest
