-- When ids are valid, and the ids that a context shows.
use Rattle.std.specs.Prelude.{ℕ, ◌==◌, ◌&&◌, not, Bool, if◌then◌else◌, Option, None, Some}
use Rattle.otel_base.specs.declared.context.Context.{Context}
use Rattle.otel_base.specs.declared.context.SpanContext.{SpanContext}

-- neither of the two ids is 0
abbrev pub is_valid : SpanContext → Bool
is_valid ids = not (ids.trace == 0) && not (ids.span == 0)

-- the parent id of a span that is started under these ids: theirs if they are valid, else 0
abbrev pub parent_id : SpanContext → ℕ
parent_id parent = if is_valid parent then parent.span else 0

-- the ids of a span, both 0 where there is none
abbrev pub ids_or_zeros : Option SpanContext → SpanContext
ids_or_zeros None = record { trace = 0; span = 0 }
ids_or_zeros (Some ids) = ids

-- the ids that a context shows
abbrev pub ids_of : Context → SpanContext
ids_of context = ids_or_zeros context.span
