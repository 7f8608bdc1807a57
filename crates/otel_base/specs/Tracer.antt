-- The calls of a tracer, and how its counts go with each.
use Rattle.std.specs.Prelude.{◌≡◌, ℕ, ◌+◌, ◌≤◌}
use Rattle.otel_base.specs.declared.context.SpanContext.{SpanContext}
use Rattle.otel_base.specs.declared.record.Record.{Record}

-- a span was started under a parent and was given ids, room for one finish was taken, or a span was finished
pub data TracerCall : Type 0 where
  Start : (parent given : SpanContext) → TracerCall
  Reserve : TracerCall
  Finish : (span : Record) → TracerCall

-- the spares before and after a call: a start doesn't lower them, a reserve adds one, a finish uses one
abbrev pub CountsSpares : ℕ → TracerCall → ℕ → Type 0
CountsSpares before (Start parent given) now = before ≤ now
CountsSpares before Reserve now = now ≡ before + 1
CountsSpares before (Finish span) now = before ≡ now + 1

-- the counted starts before and after a call: a start adds one at most, and the other calls none
abbrev pub CountsStarts : ℕ → TracerCall → ℕ → Type 0
CountsStarts before (Start parent given) now = now ≤ before + 1
CountsStarts before Reserve now = now ≡ before
CountsStarts before (Finish span) now = now ≡ before
