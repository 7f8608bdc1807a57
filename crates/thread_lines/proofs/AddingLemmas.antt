-- What one line more does, where the lines behind it are still to come.
use Rattle.std.proofs.Common.{◌≡◌, ℕ, ◌+◌, List, [], ◌∷◌, Bool, true, false, Ok, Err, sym, ap, subst, ◌∙◌}
use Rattle.std.specs.Prelude.{Result, if◌then◌else◌, IfOk, IfErr}
use Rattle.trace_lines.specs.declared.told.Told.{Told}
use Rattle.trace_lines.specs.Lines.{is_blank}
use Rattle.input_lines.specs.declared.refused_line.RefusedLine.{RefusedLine}
use Rattle.input_lines.specs.Refusals.{HasRefusalLine}
use Rattle.thread_script.specs.declared.script.ThreadScript.{ThreadScript}
use Rattle.thread_lines.specs.declared.stop.ScriptStop.{ScriptStop}
use Rattle.thread_lines.specs.declared.stop.ScriptStop.TheVariants as stop
use Rattle.thread_lines.specs.Answers.{AnswersTest, AddsToScript}
use Rattle.thread_lines.specs.Steps.{script_opened, text_added, unless_refused_at, lines_added, script_from, script_of}
use Rattle.thread_lines.proofs.ToldLemmas.{script_told}

-- ---- why a line is refused

pub not_added : (U : Type 0) (new : ThreadScript) (why : ScriptStop) (t : Told) (r : Result ThreadScript Told) → AddsToScript {U = U} new (Err why) r → why ≡ stop.Refused t → r ≡ Err t
not_added U new why t r adds is = subst (λ (x : ScriptStop). AddsToScript {U = U} new (Err x) r) is adds

pub not_answered : {A B : Type 0} (view : A → B) (why : ScriptStop) (t : Told) (r : Result B Told) → AnswersTest view (Err why) r → why ≡ stop.Refused t → r ≡ Err t
not_answered view why t r answers is = subst (λ (x : ScriptStop). AnswersTest view (Err x) r) is answers

-- ---- behind the settings line

module _ (s : ThreadScript) (n m : ℕ) (lines : List (List ℕ)) (line : List ℕ) (behind : List (List ℕ)) (all : Result ThreadScript RefusedLine) (cut : lines ≡ line ∷ behind) (next : m ≡ n + 1) (before : lines_added s n lines ≡ all) where
  cut_added : (b : Bool) → is_blank line ≡ b → (if b then lines_added s (n + 1) behind else unless_refused_at (n + 1) (text_added s line) (λ more. lines_added more (n + 1) behind)) ≡ all
  cut_added b is =
      sym (ap (λ (x : Bool). if x then lines_added s (n + 1) behind else unless_refused_at (n + 1) (text_added s line) (λ more. lines_added more (n + 1) behind)) is)
      ∙ sym (ap (λ (ls : List (List ℕ)). lines_added s n ls) cut) ∙ before

  pub blank_added : is_blank line ≡ true → lines_added s m behind ≡ all
  blank_added is = ap (λ (k : ℕ). lines_added s k behind) next ∙ cut_added true is

  pub more_added : (t : ThreadScript) → is_blank line ≡ false → text_added s line ≡ Ok t → lines_added t m behind ≡ all
  more_added t is added =
      ap (λ (k : ℕ). lines_added t k behind) next
      ∙ sym (ap (λ (r : Result ThreadScript Told). unless_refused_at (n + 1) r (λ more. lines_added more (n + 1) behind)) added) ∙ cut_added false is

  pub refused_there : (w : RefusedLine) → is_blank line ≡ false → text_added s line ≡ Err w.told → w.line ≡ m → Err w ≡ all
  refused_there w is refused at =
      let told_at : ℕ → Result ThreadScript RefusedLine = λ k. Err (record { line = k; told = w.told }) in
      ap told_at (at ∙ next)
      ∙ sym (ap (λ (r : Result ThreadScript Told). unless_refused_at (n + 1) r (λ more. lines_added more (n + 1) behind)) refused) ∙ cut_added false is

-- ---- the settings line

module _ (n m : ℕ) (lines : List (List ℕ)) (line : List ℕ) (behind : List (List ℕ)) (all : Result ThreadScript RefusedLine) (cut : lines ≡ line ∷ behind) (next : m ≡ n + 1) (before : script_from n lines ≡ all) where
  cut_from : (b : Bool) → is_blank line ≡ b → (if b then script_from (n + 1) behind else unless_refused_at (n + 1) (script_opened line) (λ s. lines_added s (n + 1) behind)) ≡ all
  cut_from b is =
      sym (ap (λ (x : Bool). if x then script_from (n + 1) behind else unless_refused_at (n + 1) (script_opened line) (λ s. lines_added s (n + 1) behind)) is)
      ∙ sym (ap (λ (ls : List (List ℕ)). script_from n ls) cut) ∙ before

  pub blank_from : is_blank line ≡ true → script_from m behind ≡ all
  blank_from is = ap (λ (k : ℕ). script_from k behind) next ∙ cut_from true is

  pub opened_from : (t : ThreadScript) → is_blank line ≡ false → script_opened line ≡ Ok t → lines_added t m behind ≡ all
  opened_from t is opened =
      ap (λ (k : ℕ). lines_added t k behind) next
      ∙ sym (ap (λ (r : Result ThreadScript Told). unless_refused_at (n + 1) r (λ s. lines_added s (n + 1) behind)) opened) ∙ cut_from false is

  pub unopened_there : (w : RefusedLine) → is_blank line ≡ false → script_opened line ≡ Err w.told → w.line ≡ m → Err w ≡ all
  unopened_there w is refused at =
      let told_at : ℕ → Result ThreadScript RefusedLine = λ k. Err (record { line = k; told = w.told }) in
      ap told_at (at ∙ next)
      ∙ sym (ap (λ (r : Result ThreadScript Told). unless_refused_at (n + 1) r (λ s. lines_added s (n + 1) behind)) refused) ∙ cut_from false is

-- ---- at the end

pub told_where : {E : Type 0} (lines : List (List ℕ)) (r : Result (Result ThreadScript RefusedLine) E) → IfOk r (λ x. x ≡ script_of lines) → IfOk r (λ x. IfErr x (λ w. HasRefusalLine w.told))
told_where lines (Ok (Ok s)) is = tt
told_where lines (Ok (Err w)) is = script_told lines w (sym is)
told_where lines (Err why) is = tt
