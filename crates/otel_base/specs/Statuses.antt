-- How statuses are ordered.
use Rattle.std.specs.Cmp.Lexicographic.{slice_cmp}
use Rattle.std.specs.declared.cmp.Ordering.{Ordering}
use Rattle.std.specs.declared.cmp.Ordering.TheVariants.{Less, Equal, Greater}
use Rattle.std.specs.Ordering.{nat_cmp}
use Rattle.otel_base.specs.declared.status.Status.{Status}
use Rattle.otel_base.specs.declared.status.Status.TheVariants.{Unset, Error, Ok}

-- unset is the least, ok the greatest, and errors are ordered by the bytes of their descriptions
abbrev pub status_cmp : Status → Status → Ordering
status_cmp Unset Unset = Equal
status_cmp Unset b = Less
status_cmp (Error a) Unset = Greater
status_cmp (Error a) (Error b) = slice_cmp nat_cmp a b
status_cmp (Error a) Ok = Less
status_cmp Ok Ok = Equal
status_cmp Ok b = Greater
