use Rattle.std.proofs.Common.{◌≡◌, ◌++◌, flat_map, take, string_bytes}
use Rattle.explain_base.specs.Directives.{field_part}
use Rattle.explain_base.proofs.directives.push_fields.Given as goal

abbrev pub invariant-loop-field : goal.invariant-loop-field
invariant-loop-field l = string_bytes l.told ≡ string_bytes l.initial.told ++ flat_map field_part (take l.field-index l.fields)
