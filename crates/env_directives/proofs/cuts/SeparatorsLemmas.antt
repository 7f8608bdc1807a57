-- What the cuts of a `str` give, in the words of the definitions.
use Rattle.env_directives.proofs.Common.{starts_with, FindsText, LacksTextAt, HasMatch, FindsTextSuffix, CutsSuffixes, IsTrimEndMatches, bytes_decides, take-append_seam, drop-append_seam, first_so, second_so, cut_once, is_closers, without_closers}
use Rattle.std.proofs.Common.{refl, sym, ◌∙◌, ap, arith, append_assoc, append-nil, length-append, ◌≡◌, ◌≢◌, ℕ, ◌+◌, ◌<◌, ◌≤◌, suc, zero, List, [], ◌∷◌, ◌++◌, length, take, drop, Bool, true, false, eqb, ◌&&◌, Option, None, Some, is_some, MatchBool, IfSome}
use borrow.Author.Tests.{eqb-true}
use Rattle.std.proofs.lemmas.Bool.{true≢false}
use Rattle.std.proofs.lemmas.List.{take-append-drop, length-drop}

-- a text begins with n exactly where it is n and something behind it
begins : (n s : List ℕ) → (rest : List ℕ) → s ≡ n ++ rest → starts_with eqb s n ≡ true
begins n s rest is = (bytes_decides n (take (length n) s)).1 (sym (ap (take (length n)) is ∙ take-append_seam n rest))

begun : (n s : List ℕ) → starts_with eqb s n ≡ true → s ≡ n ++ drop (length n) s
begun n s is = sym (take-append-drop (length n) s) ∙ ap (λ xs. xs ++ drop (length n) s) (sym ((bytes_decides n (take (length n) s)).0 is))

lacking : (n s : List ℕ) → LacksTextAt n s 0 → starts_with eqb s n ≡ false
lacking n s lacks = by (starts_with eqb s n) refl
  where
    by : (b : Bool) → starts_with eqb s n ≡ b → b ≡ false
    by true is = absurd (lacks (drop (length n) s) (begun n s is))
    by false is = refl

-- a text that isn't found cuts nothing
pub missed : (n s : List ℕ) → ((i : ℕ) → i ≤ length s → LacksTextAt n s i) → cut_once n s ≡ None
missed n [] lacks = refl
missed n (b ∷ bs) lacks =
    rw (lacking n (b ∷ bs) (lacks 0 (omega arith)), missed n bs (λ i within. lacks (suc i) (omega arith))) refl

-- one that is found first at i cuts there
pub cut : (a : ℕ) (n s : List ℕ) (i : ℕ) → ((k : ℕ) → k < i → LacksTextAt (a ∷ n) s k) → (rest : List ℕ) → drop i s ≡ (a ∷ n) ++ rest
    → cut_once (a ∷ n) s ≡ Some (take i s, rest)
cut a n [] i lacks rest at = absurd (omega (arith, ap length at, length-append (a ∷ n) rest, length-drop {A = ℕ} i []))
cut a n (b ∷ bs) zero lacks rest at =
    rw (begins (a ∷ n) (b ∷ bs) rest at) (ap (λ xs. Some ([], xs)) (ap (drop (suc (length n))) at ∙ drop-append_seam (a ∷ n) rest))
cut a n (b ∷ bs) (suc i) lacks rest at =
    rw (lacking (a ∷ n) (b ∷ bs) (lacks 0 (omega arith)), cut a n bs i (λ k below. lacks (suc k) (omega arith)) rest at) refl

-- the clause of `split_once`, where it cut
pub cut_some : (a : ℕ) (n s x y : List ℕ)
    → ((i : ℕ) × (j : ℕ) × FindsText (a ∷ n) s (Some (i, j)) × (x ≡ take i s) × (y ≡ drop j s) × (i ≤ j) × (length x ≡ i) × (length y + j ≡ length s))
    → cut_once (a ∷ n) s ≡ Some (x, y)
cut_some a n s x y h =
    cut a n s h.0 h.2.0 (drop h.1 s) h.2.1.split ∙ ap (λ xs. Some (xs, drop h.1 s)) (sym h.3) ∙ ap (λ ys. Some (x, ys)) (sym h.4)

-- the clause of `contains`
pub contained : (a : ℕ) (n s : List ℕ) (r : Bool) → MatchBool r (HasMatch (FindsText (a ∷ n)) s) (FindsText (a ∷ n) s None)
    → r ≡ is_some (cut_once (a ∷ n) s)
contained a n s true h = sym (ap is_some (cut a n s h.0 h.2.0 (drop h.1 s) h.2.1.split))
contained a n s false h = sym (ap is_some (missed (a ∷ n) s h))

-- `}]`
abbrev closer : List ℕ
closer = 125 ∷ 93 ∷ []

-- what was trimmed off is closers
trimmed_off : (ns s r : List ℕ) → CutsSuffixes (FindsTextSuffix closer) s ns r → (cs : List ℕ) × (is_closers cs ≡ true) × (s ≡ r ++ cs)
trimmed_off [] s r h = ([], refl, sym h ∙ sym (append-nil r))
trimmed_off (n ∷ ns) s r h =
    let off = trimmed_off ns s h.0 h.1 in
    let last : h.0 ≡ r ++ closer = h.2.1 ∙ ap (λ xs. xs ++ closer) (sym h.3) in
    (125 ∷ 93 ∷ off.0, off.1, off.2 ∙ ap (λ xs. xs ++ off.0) last ∙ append_assoc r closer off.0)

-- closers end in a closer
closers_end : (b : ℕ) (bs : List ℕ) → is_closers (b ∷ bs) ≡ true → (front : List ℕ) × (b ∷ bs ≡ front ++ closer)
closers_end b [] h = absurd (true≢false (sym h))
closers_end b (c ∷ []) h =
    let both = first_so (eqb b 125 && eqb c 93) true h in
    ([], ap (λ x. x ∷ c ∷ []) (eqb-true b 125 (first_so (eqb b 125) (eqb c 93) both)) ∙ ap (λ x. 125 ∷ x ∷ []) (eqb-true c 93 (second_so (eqb b 125) (eqb c 93) both)))
closers_end b (c ∷ d ∷ bs) h =
    let end = closers_end d bs (second_so (eqb b 125 && eqb c 93) (is_closers (d ∷ bs)) h) in
    (b ∷ c ∷ end.0, ap (λ xs. b ∷ c ∷ xs) end.1)

-- what stands before closers in closers is closers
front_closers : (r cs : List ℕ) → is_closers (r ++ cs) ≡ true → is_closers cs ≡ true → is_closers r ≡ true
front_closers [] cs h g = refl
front_closers (b ∷ []) [] h g = h
front_closers (b ∷ []) (c ∷ []) h g = absurd (true≢false (sym g))
front_closers (b ∷ []) (c ∷ d ∷ cs) h g =
    let is_last = eqb-true c 93 (second_so (eqb b 125) (eqb c 93) (first_so (eqb b 125 && eqb c 93) (is_closers (d ∷ cs)) h)) in
    let is_first = eqb-true c 125 (first_so (eqb c 125) (eqb d 93) (first_so (eqb c 125 && eqb d 93) (is_closers cs) g)) in
    absurd (omega arith)
front_closers (b ∷ c ∷ r) cs h g =
    rw (first_so (eqb b 125 && eqb c 93) (is_closers (r ++ cs)) h, front_closers r cs (second_so (eqb b 125 && eqb c 93) (is_closers (r ++ cs)) h) g) refl

only_closers : (cs : List ℕ) → is_closers cs ≡ true → without_closers cs ≡ []
only_closers [] g = refl
only_closers (c ∷ cs) g = rw g refl

trimmed_front : (r cs : List ℕ) → is_closers cs ≡ true → ((front : List ℕ) → r ≢ front ++ closer) → without_closers (r ++ cs) ≡ r
trimmed_front [] cs g whole = only_closers cs g
trimmed_front (b ∷ r) cs g whole =
    by (is_closers (b ∷ r ++ cs)) refl (trimmed_front r cs g (λ front is. whole (b ∷ front) (ap (λ xs. b ∷ xs) is)))
  where
    by : (t : Bool) → is_closers (b ∷ (r ++ cs)) ≡ t → without_closers (r ++ cs) ≡ r → without_closers (b ∷ (r ++ cs)) ≡ b ∷ r
    by true is rest = let end = closers_end b r (front_closers (b ∷ r) cs is g) in absurd (whole end.0 end.1)
    by false is rest = rw (is, rest) refl

-- the clause of `trim_end_matches`
pub trimmed : (s r : List ℕ) → IsTrimEndMatches (FindsTextSuffix closer) s r → without_closers s ≡ r
trimmed s r h = by h.1.0 h.1.1 h.1.2
  where
    by : (o : Option ℕ) → FindsTextSuffix closer r o → IfSome o (λ n. n ≡ 0) → without_closers s ≡ r
    by None whole zero_long = let off = trimmed_off h.0.0 s r h.0.1 in ap without_closers off.2 ∙ trimmed_front r off.0 off.1 whole
    by (Some n) ends zero_long = absurd (omega (arith, ends.0, zero_long))
