-- Lines that are blank, and one line more.
use Rattle.std.proofs.Common.{◌≡◌, ℕ, List, [], ◌∷◌, ◌++◌, refl, ◌∙◌}
use Rattle.std.specs.Prelude.{true, false}
use Rattle.std.proofs.lemmas.List.Folds.{list_all-append}
use Rattle.trace_lines.specs.Lines.{is_blank}
use Rattle.input_lines.specs.Refusals.{are_blank}

-- lines are not all blank where one isn't
pub some_before : (lines more : List (List ℕ)) → are_blank lines ≡ false → are_blank (lines ++ more) ≡ false
some_before lines more some = list_all-append is_blank lines more ∙ rw some refl

pub all_blank : (lines : List (List ℕ)) (line : List ℕ) → are_blank lines ≡ true → is_blank line ≡ true → are_blank (lines ++ line ∷ []) ≡ true
all_blank lines line blank is = list_all-append is_blank lines (line ∷ []) ∙ rw (blank, is) refl

pub one_not_blank : (lines : List (List ℕ)) (line : List ℕ) → are_blank lines ≡ true → is_blank line ≡ false → are_blank (lines ++ line ∷ []) ≡ false
one_not_blank lines line blank is = list_all-append is_blank lines (line ∷ []) ∙ rw (blank, is) refl
