-- The same but for room, and hooks that were prepared before.
use Rattle.std.proofs.Common.{◌≡◌, ℕ, suc, zero, ◌+◌, refl, sym, ap, subst, ◌∙◌, arith, add-zero, zero-add, add_assoc}
use Rattle.otel_base.specs.Tracer.{TracerCall}
use Rattle.trace_base.specs.layers.Hooks.{Hook}
use Rattle.otel_layer.specs.Core.{Core}
use Rattle.otel_layer.specs.Steps.{Reserves, SameCore, EventEffect, Step, DoesHook}

pub same_core_refl : {T : Type 0} (does : T → TracerCall → T → Type 0) (c : Core T) → SameCore does c c
same_core_refl {T} does c = record { count = 0; reserves = refl; rest = ap (λ (n : ℕ). let x : Core T = record c { reserved = n } in x) (sym (add-zero c.reserved)) }

reserves_append : {T : Type 0} (does : T → TracerCall → T → Type 0) (n m : ℕ) (s t u : T) → Reserves does n s t → Reserves does m t u → Reserves does (n + m) s u
reserves_append {T} does zero m s t u a b = subst (λ (k : ℕ). Reserves does k s u) (sym (zero-add m)) (subst (λ (x : T). Reserves does m x u) a b)
reserves_append does (suc n) m s t u a b =
    let e : suc (n + m) ≡ suc n + m = omega arith in
    subst (λ (k : ℕ). Reserves does k s u) e (a.0, a.1, reserves_append does n m a.0 t u a.2 b)

pub same_core_trans : {T : Type 0} (does : T → TracerCall → T → Type 0) (c d e : Core T) → SameCore does c d → SameCore does d e → SameCore does c e
same_core_trans {T} does c d e a b = record {
  count = a.count + b.count;
  reserves = reserves_append does a.count b.count c.tracer d.tracer e.tracer a.reserves b.reserves;
  rest = b.rest ∙ ap (λ (x : Core T). let y : Core T = record x { tracer = e.tracer; reserved = x.reserved + b.count } in y) a.rest ∙ ap (λ (n : ℕ). let y : Core T = record c { tracer = e.tracer; reserved = n } in y) (add_assoc c.reserved a.count b.count);
}

pub same_core_does : {T : Type 0} (does : T → TracerCall → T → Type 0) (events : EventEffect) (c d : Core T) (hook : Hook) (e : Core T) → SameCore does c d → DoesHook does events d hook e → DoesHook does events c hook e
same_core_does does events c d hook e a h = record { prepared = h.prepared; room = same_core_trans does c d h.prepared a h.room; step = h.step }

-- a hook that was prepared before
pub step_from_prepared : {T : Type 0} (does : T → TracerCall → T → Type 0) (events : EventEffect) (c : Core T) (hook : Hook) (d : Core T) → Step does events c hook d → DoesHook does events c hook d
step_from_prepared does events c hook d step = record { prepared = c; room = same_core_refl does c; step = step }
