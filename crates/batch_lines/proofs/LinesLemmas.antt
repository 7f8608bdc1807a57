-- The next item of a batch, and the next batch.
use Rattle.std.proofs.Common.{◌≡◌, ℕ, ◌+◌, ◌<◌, ◌≤◌, List, [], ◌++◌, Bool, true, Vec, Global, map, length, get_or, drop, drop_of_length-le, ap, sym, ◌∙◌, append_assoc, append-nil}
use Rattle.std.proofs.lemmas.List.{drop_more}
use Rattle.serde_json.specs.Written.{comma_if}
use Rattle.trace_batch.specs.declared.item.Sent.{Sent}
use Rattle.batch_lines.specs.Texts.{listed_texts, batch_text, batch_lines}

pub listed_next : (xs : List Sent) (i : ℕ) (x : Sent) (later : Bool) (out new front all : List ℕ) → i < length xs → x ≡ get_or xs i x → front ≡ comma_if later → new ≡ out ++ (front ++ x.text)
    → out ++ listed_texts later (drop i xs) ≡ all → new ++ listed_texts true (drop (i + 1) xs) ≡ all
listed_next xs i x later out new front all within is comma added rest =
    ap (λ (l : List ℕ). l ++ listed_texts true (drop (i + 1) xs)) (added ∙ ap (λ (l : List ℕ). out ++ (l ++ x.text)) comma)
    ∙ append_assoc out (comma_if later ++ x.text) (listed_texts true (drop (i + 1) xs))
    ∙ ap (λ (l : List ℕ). out ++ l) (append_assoc (comma_if later) x.text (listed_texts true (drop (i + 1) xs)))
    ∙ ap (λ (y : Sent). out ++ (comma_if later ++ (y.text ++ listed_texts true (drop (i + 1) xs)))) is
    ∙ ap (λ (ys : List Sent). out ++ listed_texts later ys) (sym (drop_more xs i x within))
    ∙ rest

pub listed_all : (xs : List Sent) (i : ℕ) (later : Bool) (out all : List ℕ) → length xs ≤ i → out ++ listed_texts later (drop i xs) ≡ all → out ≡ all
listed_all xs i later out all past rest = sym (append-nil out) ∙ ap (λ (ys : List Sent). out ++ listed_texts later ys) (sym (drop_of_length-le xs past)) ∙ rest

abbrev items : List (Vec Sent Global) → List (List Sent)
items bs = map (λ (b : Vec Sent Global). b.items) bs

pub lines_next : (xs : List (Vec Sent Global)) (i number : ℕ) (x : Vec Sent Global) (out new all : List ℕ) → i < length xs → x ≡ get_or xs i x → number ≡ i + 1 → new ≡ out ++ batch_text number x.items
    → out ++ batch_lines i (items (drop i xs)) ≡ all → new ++ batch_lines (i + 1) (items (drop (i + 1) xs)) ≡ all
lines_next xs i number x out new all within is at added rest =
    ap (λ (l : List ℕ). l ++ batch_lines (i + 1) (items (drop (i + 1) xs))) (added ∙ ap (λ (n : ℕ). out ++ batch_text n x.items) at)
    ∙ append_assoc out (batch_text (i + 1) x.items) (batch_lines (i + 1) (items (drop (i + 1) xs)))
    ∙ ap (λ (y : Vec Sent Global). out ++ (batch_text (i + 1) y.items ++ batch_lines (i + 1) (items (drop (i + 1) xs)))) is
    ∙ ap (λ (ys : List (Vec Sent Global)). out ++ batch_lines i (items ys)) (sym (drop_more xs i x within))
    ∙ rest

pub lines_all : (xs : List (Vec Sent Global)) (i : ℕ) (out all : List ℕ) → length xs ≤ i → out ++ batch_lines i (items (drop i xs)) ≡ all → out ≡ all
lines_all xs i out all past rest = sym (append-nil out) ∙ ap (λ (ys : List (Vec Sent Global)). out ++ batch_lines i (items ys)) (sym (drop_of_length-le xs past)) ∙ rest
