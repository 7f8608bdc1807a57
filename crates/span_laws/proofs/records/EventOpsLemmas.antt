-- What holds of each op of an event, which may be counted.
use Rattle.span_laws.proofs.Common.{AllByRecursion, Bool, Callsite, List, None, Op, Option, Scope, Some, SpanOp, [], event_ops, false, if_enabled, ops_on, refl, text_filter, true, ℕ, ◌∷◌, ◌≡◌}
use Rattle.env_directives.specs.orders.Choice.{admits}
use Rattle.otel_state.specs.declared.op.Op.TheVariants as ops

pub each_counted : (P : Op → Type 0) → P ops.Counted → (counting : Option (List ℕ)) (callsite : Callsite) (event : Op) → P event → AllByRecursion P (event_ops counting callsite event)
each_counted P count None callsite event own = (own, tt)
each_counted P count (Some text) callsite event own = (count, by_flag (admits (text_filter text).statics.directives callsite))
  where
    by_flag : (b : Bool) → AllByRecursion P (if_enabled b (event ∷ []))
    by_flag true = (own, tt)
    by_flag false = tt

-- of ops on a scope's own span
pub each_on : (P : Op → Type 0) (Q : SpanOp → Type 0) (scope : Scope) (given : List Op) → ((s : ℕ) (up : Scope) (op : Op) → scope ≡ s ∷ up → P op → Q (record { span = s; op = op })) → AllByRecursion P given → AllByRecursion Q (ops_on scope given)
each_on P Q [] given on all = tt
each_on P Q (s ∷ up) [] on all = tt
each_on P Q (s ∷ up) (op ∷ given) on all = (on s up op refl all.0, each_on P Q (s ∷ up) given on all.1)

-- of what is let through
pub each_told : (Q : SpanOp → Type 0) (enabled : Bool) (ds : List SpanOp) → AllByRecursion Q ds → AllByRecursion Q (if_enabled enabled ds)
each_told Q false ds all = tt
each_told Q true ds all = all
