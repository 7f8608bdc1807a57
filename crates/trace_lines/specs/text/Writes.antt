-- What is written behind what stands.
use Rattle.std.specs.Prelude.{◌≡◌, ◌++◌, ℕ, List, [], ◌∷◌, Bool, true, false, Result, OnOk}
use Rattle.std.specs.Str.{IsUtf8}
use Rattle.trace_lines.specs.text.WrittenText.{WrittenText}

-- a text, which is UTF-8, is added
abbrev pub AddsText : List ℕ → List ℕ → List ℕ → Type 0
AddsText old new text = (new ≡ old ++ text) × IsUtf8 text

-- a writer that doesn't fail adds a text
abbrev pub Writes : {S E : Type 0} → Result S E → WrittenText → WrittenText → List ℕ → Type 0
Writes result old new text = OnOk result (AddsText old.items new.items text)

-- the bracket that opens an array, where no item stands in front
abbrev pub bracket_unless : Bool → List ℕ
bracket_unless true = []
bracket_unless false = 91 ∷ []
