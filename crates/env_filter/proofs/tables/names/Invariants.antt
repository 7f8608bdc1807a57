-- The names of the fields that were passed.
use Rattle.std.proofs.Common.{◌≡◌, take, map}
use Rattle.env_filter.proofs.tables.names.Given as goal

abbrev pub invariant-loop-field : goal.invariant-loop-field
invariant-loop-field l = l.names ≡ map (λ field. field.name) (take l.field-index l.fields)
