-- What a span's ops settle until it starts: its name, its kind and its parent; and the start itself.
use Rattle.std.specs.Prelude.{ℕ, List, [], ◌∷◌, Bool, Option, if◌then◌else◌, is_some, filter_map, fold, slice_get}
use Rattle.otel_base.specs.declared.context.Context.{Context}
use Rattle.otel_base.specs.declared.context.SpanContext.{SpanContext}
use Rattle.otel_base.specs.declared.record.SpanKind.{SpanKind}
use Rattle.otel_base.specs.declared.record.SpanKind.TheVariants.{Internal}
use Rattle.otel_state.specs.Deeds.{TimedOp, deed}

abbrev pub is_start : TimedOp → Bool
is_start op = is_some (deed op.op).own

-- the ops before the first start, all where there is none
abbrev pub before_start : List TimedOp → List TimedOp
before_start [] = []
before_start (op ∷ ops) = if is_start op then [] else op ∷ before_start ops

-- the ids of the first start
abbrev pub ids_of_start : List TimedOp → Option SpanContext
ids_of_start ops = slice_get (filter_map (λ op. (deed op.op).own) ops) 0

-- the last of some values, and another where there are none
abbrev pub last_or : {A : Type 0} → A → List A → A
last_or a values = fold (λ _ value. value) a values

-- the name, the kind and the parent's context are those written last before the start, else those of the making
abbrev pub name_of : List ℕ → List TimedOp → List ℕ
name_of name ops = last_or name (filter_map (λ op. (deed op.op).name) (before_start ops))

abbrev pub kind_of : List TimedOp → SpanKind
kind_of ops = last_or Internal (filter_map (λ op. (deed op.op).kind) (before_start ops))

abbrev pub parent_context_of : Context → List TimedOp → Context
parent_context_of parent ops = last_or parent (filter_map (λ op. (deed op.op).parent) (before_start ops))
