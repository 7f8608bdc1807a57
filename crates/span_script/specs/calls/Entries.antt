-- Entries and exits. With activation an entry starts its span and attaches the span's own context.
use Rattle.std.specs.Prelude.{ℕ, List, length, count_by, Bool, true, not, if◌then◌else◌, ◌==◌, ◌&&◌, nat_lt, is_some, Option, Some, None, Ok, option_map}
use Rattle.std.specs.Option.{option_to_list}
use Rattle.otel_base.specs.Stack.{empty_context}
use Rattle.otel_base.specs.declared.stack.TheConstants.{MAX_CONTEXTS}
use Rattle.otel_state.specs.declared.op.Op.TheVariants as ops
use Rattle.otel_layer.specs.Recording.{Recording, with_start}
use Rattle.otel_layer.specs.Table.{data_at, own_context_or}
use Rattle.span_script.specs.declared.reply.Reply.TheVariants as reply
use Rattle.span_script.specs.declared.reply.Refusal.TheVariants as refusal
use Rattle.span_script.specs.declared.reply.What.TheVariants as what
use Rattle.span_script.specs.calls.Here.{Here, Resolved, ◌>>=◌, need, refuse_if, answer_effect, op_on}
use Rattle.span_script.specs.Tables.{Attached, Effect, EntryOf, ScopeGuard, HookEnter, HookExit, Scope, span_of_scope, slot_at}
use Rattle.span_script.specs.calls.Filter.{hooks_of_span}
use Rattle.span_script.specs.calls.Spans.{borrows, is_borrowed}

-- the span that an entry activates
abbrev pub activated_span : Bool → Scope → Option ℕ
activated_span activation scope = if activation then span_of_scope scope else None

abbrev pub entry_context : Recording → ℕ → Option ℕ → Option Attached
entry_context r at None = None
entry_context r at (Some s) = Some (record { owner = EntryOf s; context = own_context_or empty_context (data_at s (with_start s at r).spans) })

-- an entry of a handle's span, by a guard that owns the handle or not
abbrev pub enter_effect : Here → ℕ → Bool → Scope → Effect
enter_effect here handle owns scope =
    let starting = activated_span here.setup.layer.activation scope in
    record (answer_effect here (reply.Guard (length here.tables.guards))) {
      new_guard = Some (record { handle = handle; place = here.place; owns = owns; scope = scope });
      starts = option_to_list starting;
      ops = op_on scope ops.Enter;
      attach = entry_context here.tables.recording here.at starting;
      entry = span_of_scope scope;
      hooks = hooks_of_span scope (λ s. HookEnter s here.lane);
    }

-- a lane is full that has as many contexts as may be
abbrev pub is_full : List Attached → Bool
is_full items = length items == MAX_CONTEXTS

-- an entry that attaches a context meets a full lane
abbrev pub meets_full : Bool → Scope → List Attached → Bool
meets_full activation scope items = is_some (activated_span activation scope) && is_full items

-- an entry by a handle, whoever owns that
abbrev pub entry_call : Here → ℕ → Bool → Resolved
entry_call here handle owns = do
  scope ← need what.Handle (slot_at here.tables.handles handle)
  refuse_if (meets_full here.setup.layer.activation scope (here.tables.contexts here.lane)) (refusal.Full here.place)
      (Ok (enter_effect here handle owns scope))

abbrev pub entered_call : Here → ℕ → Resolved
entered_call here handle = do
  scope ← need what.Handle (slot_at here.tables.handles handle)
  refuse_if (is_borrowed here.tables.guards handle) refusal.InUse (entry_call here handle true)

abbrev pub exit_effect : Here → ℕ → Scope → Effect
exit_effect here guard scope = record (answer_effect here reply.Done) {
  spent_guard = Some guard;
  ops = op_on scope ops.Exit;
  detach = option_map EntryOf (activated_span here.setup.layer.activation scope);
  exit = span_of_scope scope;
  hooks = hooks_of_span scope (λ s. HookExit s here.lane);
}

-- a guard that owns its handle isn't spent while the handle has another open guard
abbrev pub is_shared : List (Option ScopeGuard) → ScopeGuard → Bool
is_shared slots guarded = guarded.owns && nat_lt 1 (count_by (borrows guarded.handle) slots)

-- a guard is spent on its own lane
abbrev pub is_elsewhere : Here → ℕ → Bool
is_elsewhere here place = not (place == here.place)

abbrev pub exit_call : Here → ℕ → Resolved
exit_call here guard = do
  guarded ← need what.Guard (slot_at here.tables.guards guard)
  refuse_if (is_shared here.tables.guards guarded) refusal.InUse
      (refuse_if (is_elsewhere here guarded.place) (refusal.WrongLane guarded.place) (Ok (exit_effect here guard guarded.scope)))
