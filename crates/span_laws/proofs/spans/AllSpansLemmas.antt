-- The spans that are closed and those that are open are all that were made.
use Rattle.span_laws.proofs.Common.{History, IsHistory, List, Option, Scope, Setup, [], ap, arith, cases_Bool, cases_lt, cond, count_by, inl, inr, is_in, is_open, length, nat_lt, nat_tests, not, occurrences, open_spans, range_more, range_with_len, refl, starting_order, suc, sum_by, sum_by_push, tables, zero, ℕ, ◌&&◌, ◌+◌, ◌∙◌, ◌∷◌, ◌≡◌, ◌≤◌}
use Rattle.span_laws.proofs.spans.IdsLemmas.{started_once}
use Rattle.span_laws.proofs.spans.OccurrencesLemmas.{is_in_counted, occurs_cons}
use Rattle.span_laws.proofs.spans.PlacesLemmas.{present}
use Rattle.span_laws.proofs.records.HistoriesLemmas.{whole}

-- how often each of the first n numbers stands in a list, in sum
abbrev among : List ℕ → ℕ → ℕ
among xs n = sum_by (λ s. occurrences s xs) (range_with_len 0 n)

among_more : (xs : List ℕ) (n : ℕ) → among xs (suc n) ≡ among xs n + occurrences n xs
among_more xs n = ap (sum_by (λ s. occurrences s xs)) (range_more n) ∙ sum_by_push (λ s. occurrences s xs) (range_with_len 0 n) n

among_none : (n : ℕ) → among [] n ≡ 0
among_none zero = refl
among_none (suc n) = let next = among_more [] n in let rest = among_none n in omega (arith, next, rest)

among_cons : (x : ℕ) (xs : List ℕ) (n : ℕ) → among (x ∷ xs) n ≡ cond (nat_lt x n) 1 0 + among xs n
among_cons x xs zero = grind (arith, nat_tests)
among_cons x xs (suc n) =
    let with_x = among_more (x ∷ xs) n in
    let without = among_more xs n in
    let here = occurs_cons n x xs in
    let rest = among_cons x xs n in
    grind (arith, nat_tests, with_x, without, here, rest)

-- a list of some of the first n numbers
among_all : (xs : List ℕ) (n : ℕ) → ((s : ℕ) → n ≤ s → occurrences s xs ≡ 0) → among xs n ≡ length xs
among_all [] n others = among_none n
among_all (x ∷ xs) n others =
    let first = among_cons x xs n in
    let rest = among_all xs n (λ s above. (let all = occurs_cons s x xs in let none = others s above in omega (arith, all, none))) in
    elim (cases_lt x n) [
      | inl below ↦ grind (arith, nat_tests, first, rest, below)
      | inr above ↦ absurd (let all = occurs_cons x x xs in let none = others x above in grind (arith, nat_tests, all, none))
    ]

module _ (hs : List (Option Scope)) (n : ℕ) (cs : List ℕ) (ended : (s : ℕ) → occurrences s cs ≡ cond (nat_lt s n && not (is_open hs s)) 1 0) where
  either : (m : ℕ) → m ≤ n → among cs m + count_by (is_open hs) (range_with_len 0 m) ≡ m
  either zero within = refl
  either (suc m) within =
      let rest = either m (omega arith) in
      let next = among_more cs m in
      let open_next = ap (count_by (is_open hs)) (range_more m) ∙ sum_by_push (λ s. cond (is_open hs s) 1 0) (range_with_len 0 m) m in
      let here = ended m in
      grind (arith, nat_tests, rest, next, open_next, here)

  balanced : length cs + count_by (is_open hs) (range_with_len 0 n) ≡ n
  balanced =
      let all = among_all cs n (λ s above. (let here = ended s in grind (arith, nat_tests, here, above))) in
      let sum = either n (omega arith) in
      omega (arith, all, sum)

pub closed_and_open : (setup : Setup) (h : History) → IsHistory setup h → length (tables setup h).closed + open_spans (tables setup h) ≡ length (tables setup h).spans
closed_and_open setup h legal = let t = tables setup h in balanced t.handles (length t.spans) t.closed (whole setup h legal).stands.sound.ended

-- no more spans start than are made
few : (xs : List ℕ) (m : ℕ) → ((s : ℕ) → occurrences s xs ≤ 1) → among xs m ≤ m
few xs zero once = omega arith
few xs (suc m) once = let next = among_more xs m in let rest = few xs m once in let here = once m in omega (arith, next, rest, here)

pub started_few : (setup : Setup) (h : History) → IsHistory setup h → length (starting_order h) ≤ length (tables setup h).spans
started_few setup h legal =
    let n = length (tables setup h).spans in
    let all = among_all (starting_order h) n others in
    let most = few (starting_order h) n (started_once h) in
    omega (arith, all, most)
  where
    others : (s : ℕ) → length (tables setup h).spans ≤ s → occurrences s (starting_order h) ≡ 0
    others s above = elim (cases_Bool (is_in s (starting_order h))) [
      | inl there ↦ absurd (let place = present 1 (starting_order h) s there in let unplaced = ((whole setup h legal).unborn s above).0 in omega (arith, place, unplaced))
      | inr out ↦ (let counted = is_in_counted s (starting_order h) in grind (arith, nat_tests, counted, out))
    ]
