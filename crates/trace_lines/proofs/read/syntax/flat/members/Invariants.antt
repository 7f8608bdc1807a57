-- the members that were read, as they stand in the text and as they are kept
use Rattle.std.specs.Str.{IsUtf8}
use Rattle.trace_lines.proofs.Common.{List, MAX_DEPTH, members_of, no_members, ◌≡◌}
use Rattle.trace_lines.proofs.readings.CompactLemmas.{Named, AllNamed, GoesMembers, held}
use Rattle.trace_lines.proofs.read.syntax.flat.members.Given as goal

abbrev pub invariant-loop : goal.invariant-loop
invariant-loop l = (ns : List Named) × AllNamed MAX_DEPTH ns × GoesMembers l.initial.rest ns l.rest × (members_of l.members.items ≡ held ns no_members) × IsUtf8 l.rest
