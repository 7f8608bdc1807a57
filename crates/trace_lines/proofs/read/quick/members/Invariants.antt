-- the members that were read, as they stand in the line and as they are kept
use Rattle.std.specs.Str.{IsUtf8}
use Rattle.trace_lines.proofs.Common.{Data, List, Option, no_members, ◌≡◌}
use Rattle.trace_lines.specs.text.QuickLines.{present_members, member_values, AreSpelled}
use Rattle.trace_lines.proofs.readings.CompactLemmas.{Named, AllNamed, GoesMembers, held}
use Rattle.trace_lines.proofs.read.quick.members.Given as goal

abbrev pub invariant-loop : goal.invariant-loop
invariant-loop l = (ns : List Named) × (d : Option Data) × AllNamed 18 ns × GoesMembers l.initial.rest ns l.rest × AreSpelled l.members.fields d
    × (present_members (member_values l.members d) ≡ held ns no_members) × (IsUtf8 l.rest → IsUtf8 l.initial.rest)
