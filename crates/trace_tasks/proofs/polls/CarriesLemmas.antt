-- Requests that are carried out, one list after another.
use Rattle.std.proofs.Common.{ℕ, List, [], ◌∷◌, ◌++◌, Bool, Option, subst}
use Rattle.trace_tasks.proofs.Common.{Callsite, LevelFilter, SubscriberCall, Spans, PartCall, Request, TaskScene, Carries}

module _ {S : Type 0} (spans : S → Spans) (hint : S → Option LevelFilter) (enables : S → ℕ → Callsite → Bool) (does : S → SubscriberCall → S → Type 0) (touches : S → PartCall → S → Type 0) (d : ℕ) where
  pub carry_then : (rs more : List Request) (s m t : TaskScene S) → Carries spans hint enables does touches d rs s m → Carries spans hint enables does touches d more m t → Carries spans hint enables does touches d (rs ++ more) s t
  carry_then [] more s m t is rest = subst (λ (x : TaskScene S). Carries spans hint enables does touches d more x t) is rest
  carry_then (r ∷ rs) more s m t (x, first, later) rest = (x, first, carry_then rs more x m t later rest)
