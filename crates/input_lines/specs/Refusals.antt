-- Which lines are refused whatever lines follow, whichever lines are accepted, and whatever is written for them.
use Rattle.std.specs.Prelude.{◌≡◌, ◌≢◌, ℕ, List, ◌++◌, ◌⊎◌, Bool, true, false}
use Rattle.std.specs.List.{list_all}
use Rattle.span_script.specs.declared.reply.Refusal.TheVariants as refusal
use Rattle.trace_lines.specs.declared.told.Told.{Told}
use Rattle.trace_lines.specs.declared.told.Told.TheVariants as told
use Rattle.trace_lines.specs.Lines.{is_blank}

-- a refusal has a line that tells it
abbrev pub HasRefusalLine : Told → Type 0
HasRefusalLine why = why ≢ told.Step refusal.Memory

-- no settings line is among the lines
abbrev pub are_blank : List (List ℕ) → Bool
are_blank lines = list_all is_blank lines

-- A line is refused, and the text is all that is written, whatever lines follow.
pub record Refuses (accepts : List (List ℕ) → Bool) (Whole : List (List ℕ) → List ℕ → Type 0) (lines : List (List ℕ)) (text : List ℕ) : Type 0 where
  pub some : are_blank lines ≡ false
  pub refused : (more : List (List ℕ)) → accepts (lines ++ more) ≡ false
  pub whole : (more : List (List ℕ)) → Whole (lines ++ more) text

-- none of these lines is refused, whatever lines follow
abbrev pub NoneRefused : (List (List ℕ) → Bool) → List (List ℕ) → Type 0
NoneRefused accepts lines = (are_blank lines ≡ true) ⊎ (accepts lines ≡ true)
