-- The pieces of a text, as a loop over a `split` at an ASCII character takes them.
use Rattle.std.specs.Borrow.{Bor}
use Rattle.std.specs.Iterator.{AlwaysYields}
use Rattle.std.specs.Str.Iter.{split_steps}
use Rattle.env_directives.proofs.Common.{FindsChar, nonempty}
use Rattle.std.specs.declared.str.Split.{Split}
use Rattle.std.proofs.Common.{refl, sym, ap, ◌≡◌, ℕ, List, [], ◌∷◌, true, false, ◌==◌, length, Some, None}

-- these pieces come from a split, and then no more
abbrev pub Gives : Split ℕ → List (List ℕ) → Type 0
Gives s pieces = AlwaysYields (split_steps FindsChar (λ a b. b ≡ a)) (λ x. x.now) s pieces

pub first_piece : (s t : Split ℕ) (x : Bor (List ℕ)) (pieces : List (List ℕ)) → Gives s pieces → split_steps FindsChar (λ a b. b ≡ a) s (Some x) t
    → (others : List (List ℕ)) × (pieces ≡ x.now ∷ others) × Gives t others
first_piece s t x [] all step = absurd (all x t step)
first_piece s t x (piece ∷ pieces) all step =
    let here = all.1 x t step in (pieces, ap (λ p. p ∷ pieces) (sym here.0), here.1)

pub no_piece : (s t : Split ℕ) (pieces : List (List ℕ)) → Gives s pieces → split_steps FindsChar (λ a b. b ≡ a) s None t → pieces ≡ []
no_piece s t [] all step = refl
no_piece s t (piece ∷ pieces) all step = absurd (all.0 t step)

-- what a list of names keeps and what it leaves out
pub kept_piece : (piece : List ℕ) (others : List (List ℕ)) → (length piece == 0) ≡ false → nonempty (piece ∷ others) ≡ piece ∷ nonempty others
kept_piece piece others h = rw h refl

pub left_out_piece : (piece : List ℕ) (others : List (List ℕ)) → (length piece == 0) ≡ true → nonempty (piece ∷ others) ≡ nonempty others
left_out_piece piece others h = rw h refl
