-- What a history of more entries leaves of what was asked.
use Rattle.std.proofs.Common.{◌≡◌, ℕ, ◌==◌, Bool, true, false, max, List, [], ◌∷◌, ◌++◌, length, refl, ap, sym, ◌∙◌, subst, arith, length-append}
use Rattle.std.proofs.lemmas.Bool.Decides.{nat_tests}
use Rattle.trace_threads.specs.declared.history.Entry.{Entry}
use Rattle.trace_threads.specs.declared.history.HandleAct.{HandleAct}
use Rattle.trace_threads.specs.declared.turns.View.{View}
use Rattle.trace_threads.specs.History.{HistoryState, start, entry, state_from, state_after, written_entry, entries_by}
use Rattle.trace_threads.specs.Turns.{entries}
use Rattle.trace_threads.specs.Calls.{MakesEntry}
use Rattle.trace_threads.proofs.queue.FrontsLemmas.{entries_append}
use Rattle.trace_threads.proofs.queue.PassesLemmas.{entries_some}
use Rattle.thread_script.specs.Asks.{Ask, FollowsAsks}

-- ---- lists of turns and entries

by_case : (k : ℕ) (x : Entry) (xs ys : List Entry) (b : Bool) → (x.caller == k) ≡ b → entries_by k (xs ++ ys) ≡ entries_by k xs ++ entries_by k ys → entries_by k (x ∷ (xs ++ ys)) ≡ entries_by k (x ∷ xs) ++ entries_by k ys
by_case k x xs ys true is ih = rw is (ap (λ l. x ∷ l) ih)
by_case k x xs ys false is ih = rw is ih

pub by_append : (k : ℕ) (xs ys : List Entry) → entries_by k (xs ++ ys) ≡ entries_by k xs ++ entries_by k ys
by_append k [] ys = refl
by_append k (x ∷ xs) ys = by_case k x xs ys (x.caller == k) refl (by_append k xs ys)

pub no_items : {A : Type 0} (xs : List A) → length xs ≡ 0 → xs ≡ []
no_items [] e = refl
no_items (x ∷ xs) e = absurd (omega (arith, e))

-- ---- the greatest moment

abbrev pub last_from : ℕ → List Entry → ℕ
last_from l [] = l
last_from l (e ∷ es) = last_from e.at es

pub sum_last : (s : HistoryState) (log : List Entry) → (state_from s log).last ≡ last_from s.last log
sum_last s [] = refl
sum_last s (e ∷ log) = sum_last (state_after s e) log

-- ---- a handle that makes no entry

abbrev pub NextIs : ℕ → ℕ → List Ask → Entry → List Entry → Type 0
NextIs k last asks e es = (a : Ask) × (rest : List Ask) × (asks ≡ a ∷ rest) × (e.what ≡ a.what) × (e.at ≡ max a.at last) × FollowsAsks k e.at rest es

none_case : (k last : ℕ) (e : Entry) (es : List Entry) (b : Bool) → (e.caller == k) ≡ b → entries_by k (e ∷ es) ≡ [] → (entries_by k es ≡ [] → FollowsAsks k e.at [] es) → FollowsAsks k last [] (e ∷ es)
none_case k last e es true is none ih = absurd (let bad : e ∷ entries_by k es ≡ [] = rw is at none in cc)
none_case k last e es false is none ih = rw is (ih (rw is at none))

pub follows_none : (k last : ℕ) (log : List Entry) → entries_by k log ≡ [] → FollowsAsks k last [] log
follows_none k last [] none = refl
follows_none k last (e ∷ es) none = none_case k last e es (e.caller == k) refl none (λ n. follows_none k e.at es n)

more_case : (k last : ℕ) (asks : List Ask) (e : Entry) (es ys : List Entry) (b : Bool) → (e.caller == k) ≡ b → FollowsAsks k last asks (e ∷ es) → ((rest : List Ask) → FollowsAsks k e.at rest es → FollowsAsks k e.at rest (es ++ ys)) → FollowsAsks k last asks (e ∷ (es ++ ys))
more_case k last asks e es ys true is f ih =
    let g : NextIs k last asks e es = rw is at f in
    let h : NextIs k last asks e (es ++ ys) = (g.0, g.1, g.2, g.3, g.4, ih g.1 g.5) in
    rw is h
more_case k last asks e es ys false is f ih = rw is (ih asks (rw is at f))

-- entries of others change nothing
pub follows_more : (k last : ℕ) (asks : List Ask) (xs ys : List Entry) → entries_by k ys ≡ [] → FollowsAsks k last asks xs → FollowsAsks k last asks (xs ++ ys)
follows_more k last asks [] ys none f = subst (λ (l : List Ask). FollowsAsks k last l ys) (sym f) (follows_none k last ys none)
follows_more k last asks (e ∷ es) ys none f = more_case k last asks e es ys (e.caller == k) refl f (λ rest g. follows_more k e.at rest es ys none g)

push_case : (k last : ℕ) (asks : List Ask) (a : Ask) (e : Entry) (es : List Entry) (b : Bool) → (e.caller == k) ≡ b → FollowsAsks k last asks (e ∷ es)
    → ((rest : List Ask) → FollowsAsks k e.at rest es → FollowsAsks k e.at (rest ++ a ∷ []) (es ++ entry k (max a.at (last_from e.at es)) a.what ∷ []))
    → FollowsAsks k last (asks ++ a ∷ []) (e ∷ (es ++ entry k (max a.at (last_from e.at es)) a.what ∷ []))
push_case k last asks a e es true is f ih =
    let g : NextIs k last asks e es = rw is at f in
    let h : NextIs k last (asks ++ a ∷ []) e (es ++ entry k (max a.at (last_from e.at es)) a.what ∷ []) = (g.0, g.1 ++ a ∷ [], ap (λ (l : List Ask). l ++ a ∷ []) g.2, g.3, g.4, ih g.1 g.5) in
    rw is h
push_case k last asks a e es false is f ih = rw is (ih asks (rw is at f))

-- one entry more, as asked
pub follows_push : (k last : ℕ) (asks : List Ask) (a : Ask) (log : List Entry) → FollowsAsks k last asks log → FollowsAsks k last (asks ++ a ∷ []) (log ++ entry k (max a.at (last_from last log)) a.what ∷ [])
follows_push k last asks a [] f =
    let hit : (k == k) ≡ true = grind (arith, nat_tests) in
    let h : NextIs k last (asks ++ a ∷ []) (entry k (max a.at last) a.what) [] = (a, [], ap (λ (l : List Ask). l ++ a ∷ []) f, refl, refl, refl) in
    rw hit h
follows_push k last asks a (e ∷ es) f = push_case k last asks a e es (e.caller == k) refl f (λ rest g. follows_push k e.at rest a es g)

-- ---- a turn of a handle

-- nobody else makes its entries
between_none : (v w : View) (k at : ℕ) (what : HandleAct) (m : MakesEntry v w k at what) → entries_by k (entries v.seen) ≡ v.mine → entries_by k (entries m.between) ≡ []
between_none v w k at what m own =
    let x : Entry = written_entry v.origin.made_at (entries (v.seen ++ m.between)) k at what in
    let whole : entries w.seen ≡ entries (v.seen ++ m.between) ++ x ∷ [] = ap entries m.ends ∙ entries_some (v.seen ++ m.between) x in
    let hit : (k == k) ≡ true = grind (arith, nat_tests) in
    let one : entries_by k (x ∷ []) ≡ x ∷ [] = rw hit refl in
    let parts : entries_by k (entries w.seen) ≡ (v.mine ++ entries_by k (entries m.between)) ++ x ∷ [] = ap (entries_by k) whole ∙ by_append k (entries (v.seen ++ m.between)) (x ∷ []) ∙ (λ i. (ap (entries_by k) (entries_append v.seen m.between) ∙ by_append k (entries v.seen) (entries m.between) ∙ ap (λ (l : List Entry). l ++ entries_by k (entries m.between)) own) i ++ one i) in
    let all : (v.mine ++ entries_by k (entries m.between)) ++ x ∷ [] ≡ v.mine ++ x ∷ [] = sym parts ∙ m.own_entries ∙ m.mine in
    let lens = ap length all in
    let a = length-append (v.mine ++ entries_by k (entries m.between)) (x ∷ []) in
    let b = length-append v.mine (entries_by k (entries m.between)) in
    let c = length-append v.mine (x ∷ []) in
    no_items (entries_by k (entries m.between)) (omega (arith, lens, a, b, c))

pub follows_made : (v w : View) (k : ℕ) (asks : List Ask) (a : Ask) → MakesEntry v w k a.at a.what → entries_by k (entries v.seen) ≡ v.mine → FollowsAsks k v.origin.made_at asks (entries v.seen) → FollowsAsks k v.origin.made_at (asks ++ a ∷ []) (entries w.seen)
follows_made v w k asks a m own f =
    let log = entries (v.seen ++ m.between) in
    let more : FollowsAsks k v.origin.made_at asks log = subst (FollowsAsks k v.origin.made_at asks) (sym (entries_append v.seen m.between)) (follows_more k v.origin.made_at asks (entries v.seen) (entries m.between) (between_none v w k a.at a.what m own) f) in
    let same : written_entry v.origin.made_at log k a.at a.what ≡ entry k (max a.at (last_from v.origin.made_at log)) a.what = ap (λ (n : ℕ). entry k (max a.at n) a.what) (sum_last (start v.origin.made_at) log) in
    let whole : entries w.seen ≡ log ++ entry k (max a.at (last_from v.origin.made_at log)) a.what ∷ [] = ap entries m.ends ∙ entries_some (v.seen ++ m.between) (written_entry v.origin.made_at log k a.at a.what) ∙ ap (λ (x : Entry). log ++ x ∷ []) same in
    subst (FollowsAsks k v.origin.made_at (asks ++ a ∷ [])) (sym whole) (follows_push k v.origin.made_at asks a log more)
