-- What is known of an input that breaks off: its whole lines, and what they are answered.
use Rattle.std.specs.Prelude.{◌≡◌, ℕ, List, [], ◌∷◌, ◌++◌, Bool, true, ◌==◌, if◌then◌else◌}
use Rattle.std.specs.List.{list_any}
use Rattle.std.proofs.Common.{◌⊎◌}
use Rattle.trace_lines.specs.Lines.{lines_of}
use Rattle.trace_lines.specs.declared.signal.Signal.{Signal}
use Rattle.trace_lines.specs.Report.{last_text, report_from}
use Rattle.input_lines.specs.Refusals.{are_blank}

-- whether a line feed is among the bytes
abbrev pub has_feed : List ℕ → Bool
has_feed bytes = list_any (λ b. b == 10) bytes

-- the bytes up to their last line feed, with it
abbrev pub whole_part : List ℕ → List ℕ
whole_part [] = []
whole_part (b ∷ bs) = if has_feed (b ∷ bs) then b ∷ whole_part bs else []

-- the lines that are whole whatever bytes follow
abbrev pub whole_lines : List ℕ → List (List ℕ)
whole_lines bytes = lines_of (whole_part bytes)

-- No line is refused, and the text is what they are answered with no end line: nothing where all are blank.
abbrev pub AnswersAll : Signal → List (List ℕ) → List ℕ → Type 0
AnswersAll signal lines text =
    ((are_blank lines ≡ true) × (text ≡ []))
    ⊎ ((spans : ℕ) × (count : ℕ)
    × (report_from signal 0 lines ≡ record { written = text ++ last_text signal spans count; accepted = true }))
