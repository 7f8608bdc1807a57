-- What stands in a function that has another value at a number.
use Rattle.std.proofs.Common.{◌≡◌, ℕ, sym, ◌∙◌, ap, inl, inr}
use Rattle.std.specs.Prelude.{nat_eq}
use Rattle.std.proofs.lemmas.Bool.{cond-true, cond-false, eq-eqb, ne_eqb}
use Rattle.env_filter.specs.spans.Keyed.{put}

pub put_at : {V : Type 0} (f : ℕ → V) (k : ℕ) (v : V) (other : ℕ) → other ≡ k → put f k v other ≡ v
put_at {V} f k v other e = cond-true {A = V} (nat_eq k other) v (f other) (eq-eqb k other (sym e))

pub put_off : {V : Type 0} (f : ℕ → V) (k : ℕ) (v : V) (other : ℕ) → (other ≡ k → ⊥) → put f k v other ≡ f other
put_off {V} f k v other ne = cond-false {A = V} (nat_eq k other) v (f other) (ne_eqb k other (λ e. ne (sym e)))
