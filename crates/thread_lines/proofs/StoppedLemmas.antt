-- A line that is refused stays so, whatever lines follow.
use Rattle.std.proofs.Common.{◌≡◌, ℕ, ◌+◌, List, [], ◌∷◌, ◌++◌, Bool, true, false, Ok, Err, refl}
use Rattle.std.specs.Prelude.{Result, if◌then◌else◌}
use Rattle.trace_lines.specs.declared.told.Told.{Told}
use Rattle.trace_lines.specs.Lines.{is_blank}
use Rattle.input_lines.specs.Refusals.{are_blank}
use Rattle.thread_script.specs.declared.script.ThreadScript.{ThreadScript}
use Rattle.input_lines.specs.declared.refused_line.RefusedLine.{RefusedLine}
use Rattle.thread_lines.specs.Steps.{script_opened, text_added, unless_refused_at, lines_added, script_from, script_of}

by_step : {A B : Type 0} (n : ℕ) (r : Result A Told) (one other : A → Result B RefusedLine) (w : RefusedLine) → ((a : A) → one a ≡ Err w → other a ≡ Err w) → unless_refused_at n r one ≡ Err w → unless_refused_at n r other ≡ Err w
by_step n (Ok a) one other w later e = later a e
by_step n (Err why) one other w later e = cc e

added_by : (b : Bool) (s : ThreadScript) (n : ℕ) (text : List ℕ) (lines more : List (List ℕ)) (w : RefusedLine)
    → ((t : ThreadScript) → lines_added t (n + 1) lines ≡ Err w → lines_added t (n + 1) (lines ++ more) ≡ Err w)
    → (if b then lines_added s (n + 1) lines else unless_refused_at (n + 1) (text_added s text) (λ t. lines_added t (n + 1) lines)) ≡ Err w
    → (if b then lines_added s (n + 1) (lines ++ more) else unless_refused_at (n + 1) (text_added s text) (λ t. lines_added t (n + 1) (lines ++ more))) ≡ Err w
added_by true s n text lines more w later e = later s e
added_by false s n text lines more w later e = by_step (n + 1) (text_added s text) _ _ w later e

pub added_stays : (s : ThreadScript) (n : ℕ) (lines more : List (List ℕ)) (w : RefusedLine) → lines_added s n lines ≡ Err w → lines_added s n (lines ++ more) ≡ Err w
added_stays s n [] more w e = absurd (cc e)
added_stays s n (text ∷ lines) more w e = added_by (is_blank text) s n text lines more w (λ t. added_stays t (n + 1) lines more w) e

from_by : (b : Bool) (n : ℕ) (text : List ℕ) (lines more : List (List ℕ)) (w : RefusedLine)
    → (b ≡ true → script_from (n + 1) lines ≡ Err w → script_from (n + 1) (lines ++ more) ≡ Err w)
    → (if b then script_from (n + 1) lines else unless_refused_at (n + 1) (script_opened text) (λ s. lines_added s (n + 1) lines)) ≡ Err w
    → (if b then script_from (n + 1) (lines ++ more) else unless_refused_at (n + 1) (script_opened text) (λ s. lines_added s (n + 1) (lines ++ more))) ≡ Err w
from_by true n text lines more w later e = later refl e
from_by false n text lines more w later e = by_step (n + 1) (script_opened text) _ _ w (λ s. added_stays s (n + 1) lines more w) e

from_stays : (n : ℕ) (lines more : List (List ℕ)) (w : RefusedLine) → are_blank lines ≡ false → script_from n lines ≡ Err w → script_from n (lines ++ more) ≡ Err w
from_stays n [] more w some e = absurd (cc some)
from_stays n (text ∷ lines) more w some e =
    from_by (is_blank text) n text lines more w (λ is. from_stays (n + 1) lines more w (rw is at some)) e

-- a refused line stays refused, unless it is for want of a settings line
pub script_stays : (lines more : List (List ℕ)) (w : RefusedLine) → are_blank lines ≡ false → script_of lines ≡ Err w → script_of (lines ++ more) ≡ Err w
script_stays lines more w some e = from_stays 0 lines more w some e
