-- A child closes before its parent.
use Rattle.span_laws.proofs.Common.{BeginsWith, Bool, History, IsHistory, List, MadeSpan, None, Option, Scope, ScopeGuard, Setup, Tables, [], after_effect, ap, append_assoc, arith, cases_eq, false, fold_push, get_or_push, inl, inr, is_drop, is_in, is_open, length, made_span_at, more, nat_tests, no_made_span, no_tables, none, occurrences, or_right, refl, slice_set, spend, subst, suc, sym, tables, true, with_item, zero, ℕ, ◌++◌, ◌<◌, ◌==◌, ◌||◌, ◌∙◌, ◌∷◌, ◌≡◌, ◌≤◌}
use Rattle.std.proofs.lemmas.List.{append-nil}
use Rattle.std.proofs.lemmas.Bool.{eq-eqb, eqb-true}
use Rattle.span_laws.proofs.spans.ChainsLemmas.{chain_front, in_line, open_above}
use Rattle.span_laws.proofs.spans.ClosesLemmas.{AreMine, IsSound, known_open, named, step_stands}
use Rattle.span_laws.proofs.records.HistoriesLemmas.{fits, whole}
use Rattle.span_laws.proofs.spans.OccurrencesLemmas.{get_push_other, is_in_counted, occurs_append, occurs_cons}
use Rattle.span_laws.proofs.steps.PartsLemmas.{heads, parted, tails}
use Rattle.span_laws.proofs.steps.StepsLemmas.{Names, no_name, another, new_span, Spends, no_spending, one_spent, step_of}

the_rest : (a b : ℕ) (x y : Scope) → ◌≡◌ {A = Scope} (a ∷ x) (b ∷ y) → x ≡ y
the_rest a b x y e = cc e

first_in : (p : ℕ) (up : List ℕ) → is_in p (p ∷ up) ≡ true
first_in p up = ap (λ b. b || is_in p up) (eq-eqb p p refl)

-- in a line a parent stands behind its child
behind : (ms : List MadeSpan) (x : ℕ) (xs : Scope) (s p : ℕ) (up : Scope) → AreMine ms (x ∷ xs) → is_in s (x ∷ xs) ≡ true → (made_span_at ms s).scope ≡ s ∷ p ∷ up → is_in p xs ≡ true
behind ms x xs s p up mine there is = by_test (x == s) refl there
  where
    by_test : (b : Bool) → (x == s) ≡ b → (b || is_in s xs) ≡ true → is_in p xs ≡ true
    by_test true same there = ap (is_in p) (the_rest x s xs (p ∷ up) (sym mine.0 ∙ ap (λ (q : ℕ). (made_span_at ms q).scope) (eqb-true x s same) ∙ is)) ∙ first_in p up
    by_test false same there = in_line ms xs s p (p ∷ up) mine.1 there is (first_in p up)

before : (ms : List MadeSpan) (scope : Scope) (s p : ℕ) (up f rest : List ℕ) → AreMine ms scope → ((q : ℕ) → occurrences q scope ≤ 1) → is_in s scope ≡ true → (made_span_at ms s).scope ≡ s ∷ p ∷ up → scope ≡ f ++ p ∷ rest → is_in s f ≡ true
before ms [] s p up f rest mine once there is parts = absurd (cc there)
before ms (x ∷ xs) s p up [] rest mine once there is parts = absurd (
    let same : x ≡ p = heads x p xs rest parts in
    let again = behind ms x xs s p up mine there is in
    let counted = is_in_counted p xs in
    let all = occurs_cons p x xs in
    let one = once p in
    grind (arith, nat_tests, same, again, counted, all, one))
before ms (x ∷ xs) s p up (y ∷ f) rest mine once there is parts =
    by_test (before ms xs s p up f rest mine.1 (λ q. (let all = occurs_cons q x xs in let one = once q in omega (arith, all, one)))) (x == s) refl there
  where
    same : x ≡ y
    same = heads x y xs (f ++ p ∷ rest) parts

    by_test : (is_in s xs ≡ true → (made_span_at ms s).scope ≡ s ∷ p ∷ up → xs ≡ f ++ p ∷ rest → is_in s f ≡ true) → (b : Bool) → (x == s) ≡ b → (b || is_in s xs) ≡ true → is_in s (y ∷ f) ≡ true
    by_test later true here there = ap (λ b. b || is_in s f) (eq-eqb y s (sym same ∙ eqb-true x s here))
    by_test later false here there = or_right (y == s) (is_in s f) (later there is (tails x y xs (f ++ p ∷ rest) parts))

-- each child stands before its parent among what closed
abbrev pub AreFirst : List MadeSpan → List ℕ → Type 0
AreFirst ms cs = (s p : ℕ) (up fore rest : List ℕ) → (made_span_at ms s).scope ≡ s ∷ p ∷ up → cs ≡ fore ++ p ∷ rest → is_in s fore ≡ true

-- what has a scope was made
scoped : (ms : List MadeSpan) (s x : ℕ) (up : Scope) → (made_span_at ms s).scope ≡ x ∷ up → s < length ms
scoped [] s x up is = absurd (cc is)
scoped (m ∷ ms) zero x up is = omega arith
scoped (m ∷ ms) (suc s) x up is = let less = scoped ms s x up is in omega (arith, less)

in_left : (s : ℕ) (xs ys : List ℕ) → is_in s xs ≡ true → is_in s (xs ++ ys) ≡ true
in_left s xs ys there = let a = is_in_counted s xs in let b = is_in_counted s (xs ++ ys) in let c = occurs_append s xs ys in grind (arith, nat_tests, a, b, c, there)

in_right : (s : ℕ) (xs ys : List ℕ) → is_in s ys ≡ true → is_in s (xs ++ ys) ≡ true
in_right s xs ys there = let a = is_in_counted s ys in let b = is_in_counted s (xs ++ ys) in let c = occurs_append s xs ys in grind (arith, nat_tests, a, b, c, there)

-- a new span's parent is open
module _ (hs : List (Option Scope)) (ms : List MadeSpan) (cs : List ℕ) (sound : IsSound hs ms cs) where
  old_first : AreFirst ms cs → (o : Option Scope) (m : Option MadeSpan) → Names hs ms o m → (s p : ℕ) (up fore rest : List ℕ) → (made_span_at (with_item ms m) s).scope ≡ s ∷ p ∷ up → cs ≡ fore ++ p ∷ rest → is_in s fore ≡ true
  old_first first _ _ no_name s p up fore rest is parts = first s p up fore rest is parts
  old_first first _ _ (another scope known) s p up fore rest is parts = first s p up fore rest is parts
  old_first first _ _ (new_span m line known scope_is) s p up fore rest is parts = elim (cases_eq s (length ms)) [
    | inr other ↦ first s p up fore rest (sym (ap (λ (made : MadeSpan). made.scope) (get_push_other ms m no_made_span s other)) ∙ is) parts
    | inl new ↦ absurd (
        let mine = ap (λ (made : MadeSpan). made.scope) (get_or_push ms m no_made_span s (sym new)) in
        let is_line : line ≡ p ∷ up = the_rest (length ms) s line (p ∷ up) (sym scope_is ∙ sym mine ∙ is) in
        let some : 0 < occurrences p line = (let here = occurs_cons p p up in let same = ap (λ (l : Scope). occurrences p l) is_line in grind (arith, nat_tests, here, same)) in
        let held = known_open hs ms cs sound line known p some in
        let ended = sound.ended p in
        let inside = ap (λ (l : List ℕ). occurrences p l) parts ∙ occurs_append p fore (p ∷ rest) in
        let here = occurs_cons p p rest in
        grind (arith, nat_tests, held, ended, inside, here))
  ]

-- one effect more: with its handle `hs` are the handles, and `after_hs` the ones when that is spent
module _ (hs : List (Option Scope)) (gs : List (Option ScopeGuard)) (ms : List MadeSpan) (cs : List ℕ) (sound : IsSound hs ms cs) (old : AreFirst ms cs) where
  new_first : (o : Option ℕ) (closes : List ℕ) → Spends hs gs o closes → IsSound (spend hs o) ms (cs ++ closes)
      → (s p : ℕ) (up fore rest : List ℕ) → (made_span_at ms s).scope ≡ s ∷ p ∷ up → cs ++ closes ≡ fore ++ p ∷ rest → is_in s fore ≡ true
  new_first _ _ no_spending later s p up fore rest is parts = old s p up fore rest is (sym (append-nil cs) ∙ parts)
  new_first _ _ (one_spent k scope closes at free closes_are) later s p up fore rest is parts = elim (parted p rest cs closes fore parts) [
    | inl found ↦ old s p up fore found.0 is found.1
    | inr found ↦ subst (λ (l : List ℕ). is_in s l ≡ true) (sym found.1) (by_place found.0 found.2 (is_in s cs) refl)
  ]
    where
      shut : (f : List ℕ) → closes ≡ f ++ p ∷ rest → is_open (slice_set hs k None) s ≡ false
      shut f there = by_open (is_open (slice_set hs k None) s) refl
        where
          by_open : (b : Bool) → is_open (slice_set hs k None) s ≡ b → is_open (slice_set hs k None) s ≡ false
          by_open false b = b
          by_open true b = absurd (
              let held = open_above (slice_set hs k None) ms (cs ++ closes) later s p (p ∷ up) is (first_in p up) b in
              let ended = later.ended p in
              let both = occurs_append p cs closes in
              let inside = ap (λ (l : List ℕ). occurrences p l) there ∙ occurs_append p f (p ∷ rest) in
              let here = occurs_cons p p rest in
              grind (arith, nat_tests, held, ended, both, inside, here))

      by_place : (f : List ℕ) → closes ≡ f ++ p ∷ rest → (b : Bool) → is_in s cs ≡ b → is_in s (cs ++ f) ≡ true
      by_place f there true b = in_left s cs f b
      by_place f there false b =
          let chain = subst (λ (l : List ℕ). BeginsWith l scope) (sym closes_are) (chain_front (slice_set hs k None) ms (cs ++ closes) later scope (sound.lines k scope at).mine) in
          let ended = later.ended s in
          let made = scoped ms s s (p ∷ up) is in
          let both = occurs_append s cs closes in
          let counted = is_in_counted s cs in
          let counted_now = is_in_counted s closes in
          let off = shut f there in
          let closing : is_in s closes ≡ true = grind (arith, nat_tests, ended, made, both, counted, counted_now, off, b) in
          let inside : is_in s scope ≡ true = ap (is_in s) chain.is ∙ in_left s closes chain.rest closing in
          let split : scope ≡ f ++ p ∷ (rest ++ chain.rest) = chain.is ∙ ap (λ (l : List ℕ). l ++ chain.rest) there ∙ append_assoc f (p ∷ rest) chain.rest in
          in_right s cs f (before ms scope s p up f (rest ++ chain.rest) (sound.lines k scope at).mine (λ q. (let one = (sound.lines k scope at).once q in grind (arith, nat_tests, one))) inside is split)

first_on : (setup : Setup) (h : History) → IsHistory setup h → AreFirst (tables setup h).spans (tables setup h).closed
first_on setup _ none = λ s p up fore rest is parts. absurd (cc is)
first_on setup _ (more h request e legal is_effect) =
    let t = tables setup h in
    let now = whole setup h legal in
    let step = (step_of setup t (fits setup h now) request e is_effect).1 in
    let stands = now.stands in
    let named_now = named setup t request.at (is_drop request.call) e stands step in
    let later = step_stands setup t request.at (is_drop request.call) e stands step in
    subst (λ (x : Tables). AreFirst x.spans x.closed) (sym (fold_push after_effect (no_tables setup) h e))
    (new_first _ _ (with_item t.spans e.new_span) t.closed named_now
    (old_first t.handles t.spans t.closed stands.sound (first_on setup h legal) e.new_handle e.new_span step.names)
    e.spent_handle e.closes step.spends later.sound)

pub children_first : (setup : Setup) (h : History) (s p : ℕ) (up fore rest : List ℕ) → IsHistory setup h → (made_span_at (tables setup h).spans s).scope ≡ s ∷ p ∷ up → (tables setup h).closed ≡ fore ++ p ∷ rest → is_in s fore ≡ true
children_first setup h s p up fore rest legal is parts = first_on setup h legal s p up fore rest is parts
