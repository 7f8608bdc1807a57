-- An integer's text.
use Rattle.trace_lines.proofs.Common.{negsuc, number_text, of_integer, pos, refl, signed_decimal, ℤ, ◌≡◌}

pub integer_text : (z : ℤ) → number_text (of_integer z) ≡ signed_decimal z
integer_text (pos n) = refl
integer_text (negsuc n) = refl
