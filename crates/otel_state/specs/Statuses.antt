-- The status of a span is the greatest of all that its ops write.
use Rattle.std.specs.Prelude.{List, [], ◌∷◌, ◌++◌, Bool, if◌then◌else◌, fold, flat_map}
use Rattle.std.specs.Option.{option_to_list}
use Rattle.std.specs.Ordering.{ord_max}
use Rattle.otel_base.specs.Statuses.{status_cmp}
use Rattle.otel_base.specs.declared.status.Status.{Status}
use Rattle.otel_base.specs.declared.status.Status.TheVariants.{Unset, Error}
use Rattle.otel_state.specs.Deeds.{TimedOp, Deed, deed}

-- what an op writes: that of an error, which has no description, comes before its own
abbrev pub error_status_if : Bool → List Status
error_status_if is_error = if is_error then Error [] ∷ [] else []

abbrev pub statuses_written : Deed → List Status
statuses_written d = error_status_if d.is_error ++ option_to_list d.status

-- the greatest of some statuses and one before them
abbrev pub greatest_status : Status → List Status → Status
greatest_status before statuses = fold (ord_max status_cmp) before statuses

-- the status of a span, Unset where nothing is written
abbrev pub status_of : List TimedOp → Status
status_of ops = greatest_status Unset (flat_map (λ op. statuses_written (deed op.op)) ops)
