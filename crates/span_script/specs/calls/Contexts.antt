-- Contexts: making them, attaching them to a lane, and detaching them again.
use Rattle.std.specs.Prelude.{ℕ, [], ◌∷◌, length, Option, Some, None, Ok, slice_get}
use Rattle.std.specs.Option.{option_to_list}
use Rattle.otel_base.specs.Ids.{ids_of}
use Rattle.otel_base.specs.Stack.{empty_context}
use Rattle.otel_base.specs.declared.context.Context.{Context}
use Rattle.otel_base.specs.declared.context.SpanContext.{SpanContext}
use Rattle.otel_layer.specs.Recording.{Recording, with_start}
use Rattle.otel_layer.specs.Table.{data_at, own_context_or}
use Rattle.span_script.specs.declared.reply.Reply.TheVariants as reply
use Rattle.span_script.specs.declared.reply.Refusal.TheVariants as refusal
use Rattle.span_script.specs.declared.reply.What.TheVariants as what
use Rattle.span_script.specs.calls.Here.{Here, Resolved, ◌>>=◌, need, refuse_if, answer_effect}
use Rattle.span_script.specs.Tables.{Effect, GuardOf, Scope, span_of_scope, slot_at}
use Rattle.span_script.specs.calls.Entries.{is_elsewhere, is_full}

-- a context more, and the span that starts for it
abbrev pub context_effect : Here → Option ℕ → Context → Effect
context_effect here starting context = record (answer_effect here (reply.Context (length here.tables.named_contexts) (ids_of context))) {
  new_context = Some context;
  starts = option_to_list starting;
}

abbrev pub remote_call : Here → SpanContext → Resolved
remote_call here ids = Ok (context_effect here None (record { span = Some ids }))

-- the own context of a scope's span, which starts; the empty one where there is no span
abbrev pub context_of_scope : Recording → ℕ → Scope → Context
context_of_scope r at [] = empty_context
context_of_scope r at (s ∷ up) = own_context_or empty_context (data_at s (with_start s at r).spans)

abbrev pub context_call : Here → ℕ → Resolved
context_call here handle = do
  scope ← need what.Handle (slot_at here.tables.handles handle)
  Ok (context_effect here (span_of_scope scope) (context_of_scope here.tables.recording here.at scope))

-- an attach to the lane of the request
abbrev pub attach_effect : Here → Context → Effect
attach_effect here context =
    let guard = length here.tables.guards in
    record (answer_effect here (reply.Guard guard)) {
      new_attach = Some here.place;
      attach = Some (record { owner = GuardOf guard; context = context });
    }

abbrev pub attach_call : Here → ℕ → Resolved
attach_call here context = do
  given ← need what.Context (slice_get here.tables.named_contexts context)
  refuse_if (is_full (here.tables.contexts here.lane)) (refusal.Full here.place) (Ok (attach_effect here given))

abbrev pub detach_effect : Here → ℕ → Effect
detach_effect here guard = record (answer_effect here reply.Done) { spent_attach = Some guard; detach = Some (GuardOf guard) }

abbrev pub detach_call : Here → ℕ → Resolved
detach_call here guard = do
  mine ← need what.Guard (slot_at here.tables.attaches guard)
  refuse_if (is_elsewhere here mine) (refusal.WrongLane mine) (Ok (detach_effect here guard))
