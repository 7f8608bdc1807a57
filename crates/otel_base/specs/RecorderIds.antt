-- The ids that a recorder gives.
use Rattle.std.specs.Prelude.{ℕ, if◌then◌else◌}
use Rattle.otel_base.specs.Ids.{is_valid}
use Rattle.otel_base.specs.declared.context.SpanContext.{SpanContext}

-- the ids of the span that a recorder starts as its k-th: its span id is k, and its trace is that of a valid parent, else k too
abbrev pub recorder_ids : ℕ → SpanContext → SpanContext
recorder_ids k parent = record { trace = if is_valid parent then parent.trace else k; span = k }
