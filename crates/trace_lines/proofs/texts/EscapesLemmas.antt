-- What stands for a text's bytes.
use Rattle.std.proofs.Math.ListN.{take-append-drop}
use Rattle.trace_lines.proofs.Common.{List, [], ap, append_assoc, arith, drop, drop_more, escape, escape_byte, get_or, length, refl, subst, sym, take, ℕ, ◌++◌, ◌+◌, ◌<◌, ◌∙◌, ◌∷◌, ◌≡◌, ◌≤◌}
use Rattle.std.proofs.lemmas.List.{take_all}
use Rattle.json.proofs.Printed.Strings.{escape_byte_plain}

pub plain_byte : (x : ℕ) → (x ≡ 34 → ⊥) → (x ≡ 92 → ⊥) → 32 ≤ x → escape_byte x ≡ x ∷ []
plain_byte x quote slash above = escape_byte_plain x quote slash above

pub escape_append : (xs ys : List ℕ) → escape (xs ++ ys) ≡ escape xs ++ escape ys
escape_append [] ys = refl
escape_append (x ∷ xs) ys = ap (λ (l : List ℕ). escape_byte x ++ l) (escape_append xs ys) ∙ sym (append_assoc (escape_byte x) (escape xs) (escape ys))

pub escape_step : (s : List ℕ) (x : ℕ) → escape s ≡ s → escape_byte x ≡ x ∷ [] → escape (s ++ x ∷ []) ≡ s ++ x ∷ []
escape_step s x done plain = escape_append s (x ∷ []) ∙ rw (done, plain) refl

-- where the run is all, the text stands for itself
pub plain_whole : (s : List ℕ) (run : ℕ) → run ≡ length s → escape (take run s) ≡ take run s → escape s ≡ s
plain_whole s run whole plain = subst (λ (l : List ℕ). escape l ≡ l) (take_all run s (omega (arith, whole))) plain

-- a run that stands for itself, and a byte that doesn't
pub run_added : (old mid new rest next all : List ℕ) (run : ℕ) → next ≡ drop (run + 1) rest → run < length rest → escape (take run rest) ≡ take run rest → mid ≡ old ++ take run rest → new ≡ mid ++ escape_byte (get_or rest run 0)
    → old ++ escape rest ≡ all → new ++ escape next ≡ all
run_added old mid new rest next all run left within plain a b is =
    let byte = get_or rest run 0 in
    let more = escape (drop (run + 1) rest) in
    let seen : escape rest ≡ take run rest ++ (escape_byte byte ++ more) =
    ap escape (sym (take-append-drop run rest)) ∙ escape_append (take run rest) (drop run rest)
    ∙ ap (λ (l : List ℕ). l ++ escape (drop run rest)) plain ∙ ap (λ (l : List ℕ). take run rest ++ escape l) (drop_more rest run 0 within) in
    ap (λ (l : List ℕ). new ++ escape l) left ∙ ap (λ (l : List ℕ). l ++ more) (b ∙ ap (λ (l : List ℕ). l ++ escape_byte byte) a)
    ∙ append_assoc (old ++ take run rest) (escape_byte byte) more ∙ append_assoc old (take run rest) (escape_byte byte ++ more)
    ∙ ap (λ (l : List ℕ). old ++ l) (sym seen) ∙ is

-- the last run
pub all_added : (old new rest all : List ℕ) (run : ℕ) → length rest ≤ run → escape (take run rest) ≡ take run rest → new ≡ old ++ rest → old ++ escape rest ≡ all → new ≡ all
all_added old new rest all run past plain a is = a ∙ ap (λ (l : List ℕ). old ++ l) (sym (ap escape (sym (take_all run rest past)) ∙ plain ∙ take_all run rest past)) ∙ is
