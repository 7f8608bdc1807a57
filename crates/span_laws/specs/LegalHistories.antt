-- Legal histories, of which the laws speak.
use Rattle.std.specs.Prelude.{◌≡◌, ℕ, List, [], ◌∷◌, ◌++◌, count_by, ◌==◌, Ok}
use Rattle.span_script.specs.declared.request.Request.{Request}
use Rattle.span_script.specs.Setups.{Setup}
use Rattle.span_script.specs.Tables.{Effect, History, tables}
use Rattle.span_script.specs.Effects.{effect_of}

-- A history is legal if each effect in it is that of some request, at the effects before it.
pub data IsHistory (setup : Setup) : History → Type 0 where
  none : IsHistory setup []
  more : (h : History) (request : Request) (e : Effect)
      → IsHistory setup h → effect_of setup (tables setup h) request ≡ Ok e → IsHistory setup (h ++ e ∷ [])

-- how often a span stands in a list
abbrev pub occurrences : ℕ → List ℕ → ℕ
occurrences s spans = count_by (λ x. x == s) spans
