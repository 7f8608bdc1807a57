-- What closes spans, and which ones.
use Rattle.std.specs.Prelude.{◌≡◌, ℕ, List, ◌++◌, Bool, true, false}
use Rattle.span_script.specs.declared.request.Call.{Call}
use Rattle.span_script.specs.declared.request.Call.TheVariants as call

abbrev pub is_drop : Call → Bool
is_drop (call.Drop handle) = true
is_drop _ = false

-- a list begins with another
pub record BeginsWith (front whole : List ℕ) : Type 0 where
  pub rest : List ℕ
  pub is : whole ≡ front ++ rest
