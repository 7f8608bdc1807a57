-- Wrong answers that the contracts refuse, whatever the code.
use Rattle.std.proofs.Common.{◌≡◌, ◌≢◌, ℕ, ◌+◌, ◌<◌, List, [], ◌∷◌, ◌++◌, length, get_or, refl, arith, subst}
use mathlib.Core.Logic.{inl, inr}
use Rattle.trace_tree.specs.declared.span.TreeSpan.{TreeSpan}
use Rattle.trace_tree.specs.declared.node.Node.{Node}
use Rattle.trace_tree.specs.declared.totals.TraceTotal.{TraceTotal}
use Rattle.trace_tree.specs.Paths.{ComesBefore, IsForest, path_at}
use Rattle.trace_tree.specs.Totals.{of_trace, IsTotals}
use Rattle.trace_tree.proofs.Orders.{below_self, below_trans}

-- a forest without the record at k
pub refuses_drop : (rs : List TreeSpan) (nodes : List Node) (k : ℕ) (d : Node) → k < length rs → ((i : ℕ) → i < length nodes → (get_or nodes i d).place ≢ k) → IsForest rs nodes → ⊥
refuses_drop rs nodes k d less none f = let w = f.whole k less in none w.0 w.1 (w.2 d)

lower : (p : List ℕ) (a b : ℕ) → a < b → ComesBefore (p ++ a ∷ []) (p ++ b ∷ [])
lower [] a b l = inl l
lower (x ∷ p) a b l = inr (refl, lower p a b l)

-- a forest with a sibling of a greater id before one of a smaller id
pub refuses_order : (rs : List TreeSpan) (nodes : List Node) (i j : ℕ) (d : Node) (p : List ℕ) (a b : ℕ) → i < j → j < length nodes → a < b
    → path_at rs (get_or nodes i d).place ≡ p ++ b ∷ [] → path_at rs (get_or nodes j d).place ≡ p ++ a ∷ [] → IsForest rs nodes → ⊥
refuses_order rs nodes i j d p a b less small l e g f =
    let s : ComesBefore (p ++ b ∷ []) (p ++ a ∷ []) = subst (λ (q : List ℕ × List ℕ). ComesBefore q.0 q.1) (λ k. (e k, g k)) (f.sorted i j d less small) in
    below_self (p ++ a ∷ []) (below_trans (p ++ a ∷ []) (p ++ b ∷ []) (p ++ a ∷ []) (lower p a b l) s)

-- totals in which a trace stands twice
pub refuses_twice : (rs : List TreeSpan) (ts : List TraceTotal) (i j : ℕ) (d : TraceTotal) → i < j → j < length ts → (get_or ts i d).trace ≡ (get_or ts j d).trace → IsTotals rs ts → ⊥
refuses_twice rs ts i j d less small e t = let l = t.ascending i j d less small in omega arith

-- totals with a trace in front of a smaller one
pub refuses_descent : (rs : List TreeSpan) (ts : List TraceTotal) (i j : ℕ) (d : TraceTotal) → i < j → j < length ts → (get_or ts j d).trace < (get_or ts i d).trace → IsTotals rs ts → ⊥
refuses_descent rs ts i j d less small e t = let l = t.ascending i j d less small in omega arith

-- totals that count a record of a trace twice
pub refuses_double : (rs : List TreeSpan) (ts : List TraceTotal) (i : ℕ) (d : TraceTotal) → i < length ts → (get_or ts i d).spans ≡ length (of_trace (get_or ts i d).trace rs) + 1 → IsTotals rs ts → ⊥
refuses_double rs ts i d less e t = let l = t.spans i d less in omega arith
