-- Texts that are cut at a separator.
use Rattle.std.specs.Prelude.{ℕ, List, [], ◌∷◌, Bool, false, true, not, ◌==◌, ◌&&◌, eqb, if◌then◌else◌, Option, None, Some, drop, length}
use Rattle.std.specs.List.{slice_split, starts_with, filter}
use Rattle.std.specs.Option.{option_map}

-- what stands before the first place of a separator and what stands after it, if there is such a place
abbrev pub cut_once : List ℕ → List ℕ → Option (List ℕ × List ℕ)
cut_once separator [] = None
cut_once separator (b ∷ bs) =
    if starts_with eqb (b ∷ bs) separator then Some ([], drop (length separator) (b ∷ bs))
    else option_map (λ parts. (b ∷ parts.0, parts.1)) (cut_once separator bs)

-- the pieces between commas, one more than there are commas
abbrev pub comma_pieces : List ℕ → List (List ℕ)
comma_pieces text = slice_split (λ b. eqb b 44) text

-- those that aren't empty
abbrev pub nonempty : List (List ℕ) → List (List ℕ)
nonempty texts = filter (λ text. not (length text == 0)) texts

-- nothing but `}]`, any number of times
abbrev pub is_closers : List ℕ → Bool
is_closers [] = true
is_closers (b ∷ []) = false
is_closers (b ∷ c ∷ bs) = (b == 125 && c == 93) && is_closers bs

-- a text without the `}]`s at its end
abbrev pub without_closers : List ℕ → List ℕ
without_closers [] = []
without_closers (b ∷ bs) = if is_closers (b ∷ bs) then [] else b ∷ without_closers bs
