-- What stands behind a bracket, or a brace, where it isn't what should.
use Rattle.std.proofs.Common.{◌≡◌, ℕ, Bool, true, false, true≢false, List, [], ◌∷◌, ◌++◌, length, ◌<◌, Err, encode_utf8, refl, sym, ap, ◌∙◌, lit<, ◌==◌}
use Rattle.std.proofs.lemmas.Bool.{eqb-true}
use Rattle.env_directives.proofs.Common.{encode_ascii, read_level_if_any, read_close, Shape, Directive}

-- a byte that no text begins with isn't the first one
other_byte : (stop b : ℕ) (bs : List ℕ) → stop < 128 → ((more : List ℕ) → b ∷ bs ≡ encode_utf8 stop ++ more → ⊥) → (b == stop) ≡ false
other_byte stop b bs ascii no_stop = go (b == stop) refl
  where
    go : (c : Bool) → (b == stop) ≡ c → (b == stop) ≡ false
    go true e = absurd (no_stop bs (ap (λ (x : ℕ). x ∷ bs) (eqb-true b stop e) ∙ sym (ap (λ (l : List ℕ). l ++ bs) (encode_ascii stop ascii))))
    go false e = e

pub no_level : (d : Directive) (rest : List ℕ) → ((more : List ℕ) → rest ≡ encode_utf8 61 ++ more → ⊥) → false ≡ (length rest == 0) → read_level_if_any d rest ≡ Err Shape
unfolding read_level_if_any
no_level d [] no_stop some = absurd (true≢false (sym some))
no_level d (b ∷ bs) no_stop some = rw (other_byte 61 b bs (lit< tt) no_stop) refl

pub no_bracket : (d : Directive) (rest : List ℕ) → ((more : List ℕ) → rest ≡ encode_utf8 93 ++ more → ⊥) → read_close d rest ≡ Err Shape
unfolding read_close
no_bracket d [] no_stop = refl
no_bracket d (b ∷ bs) no_stop = rw (other_byte 93 b bs (lit< tt) no_stop) refl
