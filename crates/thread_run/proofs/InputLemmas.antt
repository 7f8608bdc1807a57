-- What is written for a script for threads, and for one that breaks off.
use Rattle.std.proofs.Common.{◌≡◌, ℕ, List, [], ◌++◌, Bool, true, false, refl, sym, ap, subst, ◌∙◌, inl, inr}
use Rattle.std.specs.Prelude.{Result, Ok, Err, is_ok, not, IfOk, IfErr}
use Rattle.trace_lines.specs.text.Texts.{refusal_text}
use Rattle.input_lines.specs.declared.refused_line.RefusedLine.{RefusedLine}
use Rattle.input_lines.specs.Refusals.{HasRefusalLine, are_blank, Refuses, NoneRefused}
use Rattle.thread_script.specs.declared.script.ThreadScript.{ThreadScript}
use Rattle.thread_handles.specs.declared.gather.Ended.{Ended}
use Rattle.thread_lines.specs.Runnable.{IsRunnable}
use Rattle.thread_lines.specs.Steps.{script_of}
use Rattle.thread_lines.proofs.StoppedLemmas.{script_stays}
use Rattle.thread_run.specs.Fits.{AllFit}
use Rattle.thread_run.specs.Texts.{ended_text}
use Rattle.thread_run.specs.Inputs.{accepts_threads, TellsOf, TellsEnded, TellsThreads}

-- what the lines come to, as it was read
abbrev Read : Type 0
Read = Result ThreadScript RefusedLine

-- ---- a script

pub runnable : (read : Read) (script : ThreadScript) → read ≡ Ok script → IfOk read IsRunnable → IsRunnable script
runnable read script is known = subst (λ (r : Read). IfOk r IsRunnable) is known

pub accepted : (lines : List (List ℕ)) (read : Read) (script : ThreadScript) → read ≡ script_of lines → read ≡ Ok script → accepts_threads lines ≡ true
accepted lines read script of_lines is = ap is_ok (sym of_lines ∙ is)

pub tells_ended : (lines : List (List ℕ)) (read : Read) (script : ThreadScript) (es slice : List Ended) (text : List ℕ) → read ≡ script_of lines → read ≡ Ok script → AllFit script es → slice ≡ es → text ≡ ended_text slice
    → TellsEnded lines es text
tells_ended lines read script es slice text of_lines is fits same text_is =
    subst (λ (r : Read). TellsOf r es text) (sym is ∙ of_lines) (fits, text_is ∙ ap ended_text same)

-- ---- a refused line

pub told_of : (read : Read) (refused : RefusedLine) → read ≡ Err refused → IfErr read (λ (w : RefusedLine). HasRefusalLine w.told) → HasRefusalLine refused.told
told_of read refused is known = subst (λ (r : Read). IfErr r (λ (w : RefusedLine). HasRefusalLine w.told)) is known

pub tells_refused : (lines : List (List ℕ)) (read : Read) (refused : RefusedLine) (es : List Ended) (text : List ℕ) → read ≡ script_of lines → read ≡ Err refused → es ≡ []
    → text ≡ refusal_text refused.line refused.told → TellsEnded lines es text
tells_refused lines read refused es text of_lines is none text_is = subst (λ (r : Read). TellsOf r es text) (sym is ∙ of_lines) (none, text_is)

pub not_accepted : (lines : List (List ℕ)) (read : Read) (refused : RefusedLine) (flag : Bool) → read ≡ script_of lines → read ≡ Err refused → flag ≡ true → accepts_threads lines ≡ not flag
not_accepted lines read refused flag of_lines is set = ap is_ok (sym of_lines ∙ is) ∙ sym (ap not set)

none_came : (read : Read) (es : List Ended) (text : List ℕ) → TellsOf read es text → is_ok read ≡ false → es ≡ []
none_came (Ok script) es text told is = cc
none_came (Err refused) es text told is = told.0

-- nothing comes of spans where a line is refused
pub none_refused : (lines : List (List ℕ)) (es : List Ended) (text : List ℕ) → TellsEnded lines es text → accepts_threads lines ≡ false → es ≡ []
none_refused lines es text told is = none_came (script_of lines) es text told is

-- ---- where the input breaks off

refuses_by : (lines : List (List ℕ)) (refused : RefusedLine) (text : List ℕ) → are_blank lines ≡ false → script_of lines ≡ Err refused → text ≡ refusal_text refused.line refused.told
    → Refuses accepts_threads TellsThreads lines text
refuses_by lines refused text some is text_is = record {
  some = some;
  refused = λ more. ap is_ok (script_stays lines more refused some is);
  whole = λ more. ([], tells_refused (lines ++ more) (Err refused) refused [] text (sym (script_stays lines more refused some is)) refl refl text_is);
}

pub refuses : (lines : List (List ℕ)) (blank : Bool) (read : Read) (refused : RefusedLine) (text : List ℕ) → blank ≡ are_blank lines → blank ≡ false → read ≡ script_of lines → read ≡ Err refused
    → text ≡ refusal_text refused.line refused.told → Refuses accepts_threads TellsThreads lines text
refuses lines blank read refused text of_lines some of_read is text_is = refuses_by lines refused text (sym of_lines ∙ some) (sym of_read ∙ is) text_is

pub none_accepted : (lines : List (List ℕ)) (read : Read) (script : ThreadScript) → read ≡ script_of lines → read ≡ Ok script → NoneRefused accepts_threads lines
none_accepted lines read script of_lines is = inr (accepted lines read script of_lines is)

pub none_blank : (lines : List (List ℕ)) (blank : Bool) → blank ≡ are_blank lines → blank ≡ true → NoneRefused accepts_threads lines
none_blank lines blank of_lines all = inl (sym of_lines ∙ all)
