-- An entry and its exit leave a lane the contexts that it had.
use Rattle.std.proofs.Common.{◌≡◌, ◌<◌, ◌≤◌, ◌+◌, ℕ, List, [], ◌∷◌, ◌++◌, length, count_by, Bool, cond, eqb, refl, sym, ap, ◌∙◌, arith, inl, inr}
use Rattle.std.proofs.lemmas.Bool.{eq-eqb, cond-false}
use Rattle.std.proofs.lemmas.Bool.Decides.{eqb_tells}
use Rattle.std.proofs.lemmas.List.Sums.{sum_by-append}
use Rattle.trace_tasks.proofs.Common.{cond-true, count_cons, Lane, SubscriberCall, Enter, Exit, CallKeepsLanes, attached_count, WorldValue, Spans, entries_on, Replaced, spans_in, kept_in, no_spans, now_there, seen_before, seen_later, HasAll, SameAttached}

-- ---- as many of each number are as many

module _ {X : Type 0} where
  -- how many items have a number
  abbrev count_of : ℕ → List (ℕ × X) → ℕ
  count_of n items = count_by (λ item. eqb item.0 n) items

  abbrev one_if : ℕ → ℕ × X → ℕ
  one_if n item = cond {A = ℕ} (eqb item.0 n) 1 0

  record Parted (n : ℕ) (items : List (ℕ × X)) : Type 0 where
    front : List (ℕ × X)
    item : ℕ × X
    rest : List (ℕ × X)
    is : items ≡ front ++ item ∷ rest
    number : item.0 ≡ n

  parted : (n : ℕ) (items : List (ℕ × X)) → 0 < count_of n items → Parted n items
  parted n [] some = absurd (omega (arith, some))
  parted n (x ∷ items) some = elim (eqb_tells x.0 n) [
    | inl here ↦ record { front = []; item = x; rest = items; is = refl; number = here.1 }
    | inr other ↦ (
        let more = parted n items (let c = count_cons (λ (item : ℕ × X). eqb item.0 n) x items in let none = cond-false {A = ℕ} (eqb x.0 n) 1 0 other.0 in omega (arith, some, c, none)) in
        record { front = x ∷ more.front; item = more.item; rest = more.rest; is = ap (λ (xs : List (ℕ × X)). x ∷ xs) more.is; number = more.number })
  ]

  one_out : (front : List (ℕ × X)) (item : ℕ × X) (rest : List (ℕ × X)) → length (front ++ item ∷ rest) ≡ length (front ++ rest) + 1
  one_out [] item rest = omega arith
  one_out (x ∷ front) item rest = (let r = one_out front item rest in omega (arith, r))

  at_most : (items others : List (ℕ × X)) → ((n : ℕ) → count_of n items ≤ count_of n others) → length items ≤ length others
  at_most [] others fewer = omega arith
  at_most (x ∷ items) others fewer = (
      let own = count_cons (λ (item : ℕ × X). eqb item.0 x.0) x items in
      let one = cond-true {A = ℕ} (eqb x.0 x.0) 1 0 (eq-eqb x.0 x.0 refl) in
      let p = parted x.0 others (let f = fewer x.0 in omega (arith, own, one, f)) in
      let r = at_most items (p.front ++ p.rest) (λ n. (
      let a = count_cons (λ (item : ℕ × X). eqb item.0 n) x items in
      let b = fewer n in
      let c = ap (λ (xs : List (ℕ × X)). count_of n xs) p.is in
      let d = sum_by-append (one_if n) p.front (p.item ∷ p.rest) in
      let e = count_cons (λ (item : ℕ × X). eqb item.0 n) p.item p.rest in
      let f = sum_by-append (one_if n) p.front p.rest in
      let h = ap (λ (m : ℕ). cond {A = ℕ} (eqb m n) 1 0) p.number in
      omega (arith, a, b, c, d, e, f, h))) in
      let l = one_out p.front p.item p.rest in
      let is = ap (λ (xs : List (ℕ × X)). length xs) p.is in
      omega (arith, r, l, is))

-- a lane has as many live contexts as before
pub as_many_live : (before later : Lane) → SameAttached before later → length later.contexts.live ≡ length before.contexts.live
as_many_live before later same = (
    let fewer = at_most later.contexts.live before.contexts.live (λ n. (let e = same n in omega (arith, e))) in
    let more = at_most before.contexts.live later.contexts.live (λ n. (let e = same n in omega (arith, e))) in
    omega (arith, fewer, more))

-- ---- an entry and its exit

module _ {S : Type 0} (spans : S → Spans) (attaches : S → Bool) (kept : S → ℕ → ℕ → ℕ) (is_whole : S → Type 0) (does : S → SubscriberCall → S → Type 0) (lanes : (s : S) (call : SubscriberCall) (t : S) → does s call t → CallKeepsLanes (attaches s) (kept s) call (kept t))
    (none_kept : (s : S) (lane number : ℕ) → is_whole s → entries_on lane (spans s).lanes ≡ [] → kept s lane number ≡ 0) (d id at : ℕ) where
  -- where no entry is open before and behind them
  pub entered_and_left : (old world left new : WorldValue S) (before lane later : Lane) (e : Replaced (λ s t. does s (Enter id at before lane) t) old world d) → kept_in kept left d ≡ kept_in kept world d → (q : Replaced (λ s t. does s (Exit id at lane later) t) left new d)
      → HasAll is_whole old → HasAll is_whole new → entries_on before.id (spans_in spans old d).lanes ≡ [] → entries_on later.id (spans_in spans new d).lanes ≡ [] → SameAttached before later
  entered_and_left old world left new before lane later e same q whole whole_after none_open none_left = λ number. (
      let In : S → S → Type 0 = λ s t. does s (Enter id at before lane) t in
      let Out : S → S → Type 0 = λ s t. does s (Exit id at lane later) t in
      let el = lanes e.before (Enter id at before lane) e.later e.did in
      let ql = lanes q.before (Exit id at lane later) q.later q.did in
      let id_is : later.id ≡ before.id = ql.0.id ∙ el.0.id in
      let first = none_kept e.before before.id number (whole d e.before e.there) (ap (λ (x : Spans). entries_on before.id x.lanes) (sym (seen_before In old world d e spans no_spans)) ∙ none_open) in
      let last = none_kept q.later later.id number (whole_after d q.later (now_there Out left new d q)) (ap (λ (x : Spans). entries_on later.id x.lanes) (sym (seen_later Out left new d q spans no_spans)) ∙ none_left) in
      let last_is = ap (λ (n : ℕ). kept q.later n number) id_is in
      let kept_is : kept q.before ≡ kept e.later = sym (seen_before Out left new d q kept _) ∙ same ∙ seen_later In old world d e kept _ in
      let between = ap (λ (k : ℕ → ℕ → ℕ). k before.id number) kept_is in
      let a = el.1 before.id number in
      let c = ql.1 before.id number in
      let on_first = cond-true {A = ℕ} (eqb before.id before.id) (attached_count number before) 0 (eq-eqb before.id before.id refl) in
      let on_last = cond-true {A = ℕ} (eqb later.id before.id) (attached_count number later) 0 (eq-eqb later.id before.id id_is) in
      omega (arith, a, c, first, last, last_is, between, on_first, on_last))
