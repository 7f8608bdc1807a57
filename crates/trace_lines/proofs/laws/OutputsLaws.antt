-- How the output of a script with one line more begins, and that no line is refused for what is told.
use Rattle.trace_lines.proofs.Common.{Bool, Effect, Err, History, List, Ok, OpeningRead, Record, Report, Result, Setup, [], accepts, answer_count, answer_text, ap, append_assoc, effect_of_line, false, if◌then◌else◌, is_blank, opening_read, records_of, refl, report_from, report_on, report_on_effect, report_on_opening, report_on_settings, settings_spelled, setup_by, sym, tables, true, with_text_before, ℕ, ◌++◌, ◌+◌, ◌∙◌, ◌∷◌, ◌≡◌}
use Rattle.span_script.specs.declared.settings.Settings.{Settings}
use Rattle.trace_lines.specs.declared.signal.Signal.{Signal}
use Rattle.trace_lines.specs.declared.signal.Signal.TheVariants as signal
use Rattle.trace_lines.specs.declared.told.Told.{Told}
use Rattle.trace_lines.specs.Laws.{GoesOn}

-- ---- what is told

-- both accept, or none does
abbrev pub Alike : Report → Report → Type 0
Alike a b = a.accepted ≡ b.accepted

either_alike : (b : Bool) (x x2 y y2 : Report) → Alike x x2 → Alike y y2 → Alike (if b then x else y) (if b then x2 else y2)
either_alike true x x2 y y2 one two = one
either_alike false x x2 y y2 one two = two

followed_alike : (effect : Result Effect Told) (go go2 : Effect → Report) (n : ℕ) → ((e : Effect) → Alike (go e) (go2 e)) → Alike (report_on_effect effect go n) (report_on_effect effect go2 n)
followed_alike (Ok e) go go2 n on = on e
followed_alike (Err why) go go2 n on = refl

read_alike : (read : OpeningRead) (x y : Report) (n : ℕ) → Alike x y → Alike (report_on_opening read x n) (report_on_opening read y n)
read_alike (Ok all) x y n on = on
read_alike (Err unread) x y n on = refl

settled_alike : (settings : Result Settings Told) (go go2 : Settings → Report) (n : ℕ) → ((s : Settings) → Alike (go s) (go2 s)) → Alike (report_on_settings settings go n) (report_on_settings settings go2 n)
settled_alike (Ok s) go go2 n on = read_alike (opening_read s.filter s.counting) (go s) (go2 s) n (on s)
settled_alike (Err why) go go2 n on = refl

requests_alike : (told other : Signal) (setup : Setup) (h : History) (n count count2 : ℕ) (lines : List (List ℕ))
    → Alike (report_on told setup h n count lines) (report_on other setup h n count2 lines)
requests_alike told other setup h n count count2 [] = refl
requests_alike told other setup h n count count2 (text ∷ lines) =
    either_alike (is_blank text) _ _ _ _ (requests_alike told other setup h (n + 1) count count2 lines)
    (followed_alike (effect_of_line setup (tables setup h) text) _ _ (n + 1) (λ e. requests_alike told other setup (h ++ e ∷ []) (n + 1) _ _ lines))

lines_alike : (told : Signal) (n : ℕ) (lines : List (List ℕ)) → Alike (report_from told n lines) (report_from signal.Traces n lines)
lines_alike told n [] = refl
lines_alike told n (text ∷ lines) =
    either_alike (is_blank text) _ _ _ _ (lines_alike told (n + 1) lines)
    (settled_alike (settings_spelled text) _ _ (n + 1) (λ settings. requests_alike told signal.Traces (setup_by settings) [] (n + 1) 0 0 lines))

pub alike : (told : Signal) (lines : List (List ℕ)) → (report_from told 0 lines).accepted ≡ accepts lines
alike told lines = lines_alike told 0 lines

-- ---- one line more

-- if the first report accepts, its text is gone on with by that of the second
abbrev pub Extends : Signal → Report → Report → Type 0
Extends told a b = a.accepted ≡ true → GoesOn told a.written b.written

either : (told : Signal) (b : Bool) (x x2 y y2 : Report) → Extends told x x2 → Extends told y y2 → Extends told (if b then x else y) (if b then x2 else y2)
either told true x x2 y y2 one two accepted = one accepted
either told false x x2 y y2 one two accepted = two accepted

behind_both : (told : Signal) (text : List ℕ) (x y : Report) → Extends told x y → Extends told (with_text_before text x) (with_text_before text y)
behind_both told text x y on accepted =
    let g : GoesOn told x.written y.written = on accepted in
    record {
      before = text ++ g.before;
      spans = g.spans;
      count = g.count;
      more = g.more;
      ended_is = ap (λ (t : List ℕ). text ++ t) g.ended_is ∙ sym (append_assoc text g.before _);
      new_is = ap (λ (t : List ℕ). text ++ t) g.new_is ∙ sym (append_assoc text g.before g.more);
    }

followed : (told : Signal) (effect : Result Effect Told) (go go2 : Effect → Report) (n : ℕ) → ((e : Effect) → Extends told (go e) (go2 e)) → Extends told (report_on_effect effect go n) (report_on_effect effect go2 n)
followed told (Ok e) go go2 n on accepted = on e accepted
followed told (Err why) go go2 n on accepted = absurd (cc accepted)

-- the settings' texts are read
read_over : (told : Signal) (read : OpeningRead) (x y : Report) (n : ℕ) → Extends told x y → Extends told (report_on_opening read x n) (report_on_opening read y n)
read_over told (Ok all) x y n on accepted = on accepted
read_over told (Err unread) x y n on accepted = absurd (cc accepted)

settled : (told : Signal) (settings : Result Settings Told) (go go2 : Settings → Report) (n : ℕ) → ((s : Settings) → Extends told (go s) (go2 s)) → Extends told (report_on_settings settings go n) (report_on_settings settings go2 n)
settled told (Ok s) go go2 n on accepted = read_over told (opening_read s.filter s.counting) (go s) (go2 s) n (on s) accepted
settled told (Err why) go go2 n on accepted = absurd (cc accepted)

requests_on : (told : Signal) (setup : Setup) (h : History) (n count : ℕ) (lines : List (List ℕ)) (line : List ℕ)
    → Extends told (report_on told setup h n count lines) (report_on told setup h n count (lines ++ line ∷ []))
requests_on told setup h n count [] line accepted = record { before = []; spans = _; count = _; more = _; ended_is = refl; new_is = refl }
requests_on told setup h n count (text ∷ lines) line accepted =
    either told (is_blank text) _ _ _ _ (requests_on told setup h (n + 1) count lines line)
    (followed told (effect_of_line setup (tables setup h) text) _ _ (n + 1) (λ e.
    let finished : List Record = records_of (tables setup h) e in
    let next : ℕ = count + answer_count told finished e.measures in
    behind_both told (answer_text told (n + 1) count e.reply finished e.measures) (report_on told setup (h ++ e ∷ []) (n + 1) next lines)
    (report_on told setup (h ++ e ∷ []) (n + 1) next (lines ++ line ∷ []))
    (requests_on told setup (h ++ e ∷ []) (n + 1) next lines line))) accepted

lines_on : (told : Signal) (n : ℕ) (lines : List (List ℕ)) (line : List ℕ) → Extends told (report_from told n lines) (report_from told n (lines ++ line ∷ []))
lines_on told n [] line accepted = absurd (cc accepted)
lines_on told n (text ∷ lines) line accepted =
    either told (is_blank text) _ _ _ _ (lines_on told (n + 1) lines line)
    (settled told (settings_spelled text) _ _ (n + 1) (λ settings. requests_on told (setup_by settings) [] (n + 1) 0 lines line)) accepted

pub goes_on : (told : Signal) (lines : List (List ℕ)) (line : List ℕ) → accepts lines ≡ true → GoesOn told (report_from told 0 lines).written (report_from told 0 (lines ++ line ∷ [])).written
goes_on told lines line accepted = lines_on told 0 lines line (alike told lines ∙ accepted)
