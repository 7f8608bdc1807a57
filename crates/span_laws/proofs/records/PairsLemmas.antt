-- Records beside their spans.
use Rattle.span_laws.proofs.Common.{EachRecord, List, Record, [], ap, arith, length, map, nat_tests, occurrences, refl, ℕ, ◌++◌, ◌<◌, ◌∙◌, ◌∷◌, ◌≡◌}
use Rattle.span_laws.proofs.spans.OccurrencesLemmas.{occurs_cons}

pub each_append : (P : ℕ → Record → Type 0) (xs ys : List ℕ) (rs qs : List Record) → EachRecord P xs rs → EachRecord P ys qs → EachRecord P (xs ++ ys) (rs ++ qs)
each_append P [] ys [] qs one two = two
each_append P [] ys (r ∷ rs) qs one two = absurd one
each_append P (x ∷ xs) ys [] qs one two = absurd one
each_append P (x ∷ xs) ys (r ∷ rs) qs one two = (one.0, each_append P xs ys rs qs one.1 two)

pub each_map : (P Q : ℕ → Record → Type 0) (xs : List ℕ) (rs : List Record) → ((s : ℕ) (r : Record) → 0 < occurrences s xs → P s r → Q s r) → EachRecord P xs rs → EachRecord Q xs rs
each_map P Q [] [] f each = tt
each_map P Q [] (r ∷ rs) f each = absurd each
each_map P Q (x ∷ xs) [] f each = absurd each
each_map P Q (x ∷ xs) (r ∷ rs) f each = (
  f x r (let c = occurs_cons x x xs in grind (arith, nat_tests, c)) each.0,
  each_map P Q xs rs (λ s q some. f s q (let c = occurs_cons s x xs in omega (arith, c, some))) each.1,
)

pub each_length : (P : ℕ → Record → Type 0) (xs : List ℕ) (rs : List Record) → EachRecord P xs rs → length rs ≡ length xs
each_length P [] [] each = refl
each_length P [] (r ∷ rs) each = absurd each
each_length P (x ∷ xs) [] each = absurd each
each_length P (x ∷ xs) (r ∷ rs) each = let rest = each_length P xs rs each.1 in omega (arith, rest)

pub each_equal : (P : ℕ → Record → Type 0) (f : Record → ℕ) (g : ℕ → ℕ) → ((s : ℕ) (r : Record) → P s r → f r ≡ g s) → (xs : List ℕ) (rs : List Record) → EachRecord P xs rs → map f rs ≡ map g xs
each_equal P f g same [] [] each = refl
each_equal P f g same [] (r ∷ rs) each = absurd each
each_equal P f g same (x ∷ xs) [] each = absurd each
each_equal P f g same (x ∷ xs) (r ∷ rs) each = ap (λ (y : ℕ). y ∷ map f rs) (same x r each.0) ∙ ap (λ (ys : List ℕ). g x ∷ ys) (each_equal P f g same xs rs each.1)
