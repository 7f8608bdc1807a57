-- The releases of a span's handles, joined, tell the whole history.
use Rattle.std.proofs.Common.{◌≡◌, ◌≢◌, ⊎_elim, ℕ, zero, suc, ◌+◌, ◌<◌, ◌≤◌, ◌==◌, Bool, true, false, ◌&&◌, ◌||◌, List, [], ◌∷◌, ◌++◌, refl, ap, sym, ◌∙◌, subst, arith, Some, None, append_assoc, true≢false}
use Rattle.std.specs.Prelude.{Option}
use Rattle.std.proofs.lemmas.Bool.Decides.{nat_tests}
use Rattle.std.proofs.lemmas.List.{append-nil}
use mathlib.Core.List.{IsPrefix}
use mathlib.Core.Logic.{dite}
use native.Mathlib.Decide.{ℕ_discrete}
use Rattle.atomic_table.specs.Seated.{TableId}
use Rattle.otel_base.specs.declared.record.Record.{Record}
use Rattle.trace_threads.specs.declared.making.Making.{Making}
use Rattle.trace_threads.specs.declared.history.Entry.{Entry}
use Rattle.trace_threads.specs.declared.history.HandleAct.{HandleAct}
use Rattle.trace_threads.specs.declared.history.HandleAct.TheVariants.{Clone, Call, Join, Release}
use Rattle.trace_threads.specs.declared.handle.Released.{Released}
use Rattle.trace_threads.specs.History.{HistoryState, start, entry, state_after, may, is_legal, state_from, state_of_history, clone_count_after, IsLegal, is_closed, entries_by, ends_handle, has_end}
use Rattle.trace_threads.specs.Shared.{content_of}
use Rattle.trace_threads.specs.Turns.{entries}
use Rattle.trace_threads.specs.Handles.{ReleasedHandle, ClosedAs}
use Rattle.trace_threads.proofs.queue.FrontsLemmas.{prefix_trans, prefix_entries, comparable}
use Rattle.trace_threads.proofs.histories.HoldersLemmas.{both}
use Rattle.trace_threads.proofs.histories.HistoriesLemmas.{Numbered, numbered, numbered_start, numbered_step, none_above, legal_first, legal_rest, tested, nothing_follows, whole_is_seen, ended_is_done}
use Rattle.thread_script.specs.Asks.{Ask, FollowsAsks, clone_entries, clone_entries_from, DoesAll}
use Rattle.thread_handles.specs.declared.gather.Ended.{Ended}
use Rattle.thread_handles.specs.Works.{IsLeft}
use Rattle.thread_handles.specs.Gathers.{first_some, GathersReleases, IsEnded}
use Rattle.thread_handles.proofs.AsksLemmas.{NextIs, by_append, follows_more}

-- ---- ends

end_case : (k : ℕ) (e : Entry) (xs ys : List Entry) (b : Bool) → (b || has_end k xs) ≡ true → (has_end k xs ≡ true → has_end k (xs ++ ys) ≡ true) → (b || has_end k (xs ++ ys)) ≡ true
end_case k e xs ys true h ih = refl
end_case k e xs ys false h ih = ih h

end_more : (k : ℕ) (xs ys : List Entry) → has_end k xs ≡ true → has_end k (xs ++ ys) ≡ true
end_more k [] ys h = absurd cc
end_more k (e ∷ xs) ys h = end_case k e xs ys (ends_handle k e.caller e.what) h (λ i. end_more k xs ys i)

pub end_within : (k : ℕ) (xs ys : List Entry) → IsPrefix xs ys → has_end k xs ≡ true → has_end k ys ≡ true
end_within k xs ys p h = subst (λ (l : List Entry). has_end k l ≡ true) p.1 (end_more k xs p.0 h)

-- what a handle that was ended was asked is in every later history
follows_within : (k made : ℕ) (asks : List Ask) (xs ys : List Entry) → IsPrefix xs ys → IsLegal made ys → has_end k xs ≡ true → FollowsAsks k made asks xs → FollowsAsks k made asks ys
follows_within k made asks xs ys p l h f =
    let legal : IsLegal made (xs ++ p.0) = subst (IsLegal made) (sym p.1) l in
    subst (FollowsAsks k made asks) p.1 (follows_more k made asks xs p.0 (ended_is_done made k xs p.0 legal h) f)

-- ---- which release closed the span

abbrev Closing : Type 0
Closing = Option (List Entry × Record)

-- nothing follows a closed history
same_whole : (made : ℕ) (p q : List Entry) → IsPrefix p q → IsLegal made q → is_closed made p ≡ true → p ≡ q
same_whole made p q r l c =
    let none : r.0 ≡ [] = nothing_follows made p r.0 (subst (IsLegal made) (sym r.1) l) c in
    sym (append-nil p) ∙ ap (λ (l : List Entry). p ++ l) (sym none) ∙ r.1

later_closes : (making : Making) (p q : List Entry) (c d : Closing) → IsPrefix p q → IsLegal making.made_at q → ClosedAs making p c → ClosedAs making q d → ClosedAs making q (first_some c d)
later_closes making p q None d r l x y = y
later_closes making p q (Some last) d r l x y = subst (λ (log : List Entry). ClosedAs making log (Some last)) (same_whole making.made_at p q r l x.2) x

earlier_closes : (making : Making) (p q : List Entry) (c d : Closing) → IsPrefix q p → IsLegal making.made_at p → ClosedAs making p c → ClosedAs making q d → ClosedAs making p (first_some c d)
earlier_closes making p q (Some last) d r l x y = x
earlier_closes making p q None None r l x y = x
earlier_closes making p q None (Some last) r l x y =
    let same : q ≡ p = same_whole making.made_at q p r l y.2 in
    absurd (true≢false (sym (subst (λ (log : List Entry). is_closed making.made_at log ≡ true) same y.2) ∙ x))

-- ---- one release more

module _ (span : TableId) (making : Making) (count n : ℕ) (parts : ℕ → List Ask) (r o u : Released) (g : GathersReleases span making count n parts r) (left : IsLeft (n + 1) (parts n) span making o) (same_span : u.pass.span ≡ span) (same_origin : u.pass.view.origin ≡ making)
    (legal : IsLegal making.made_at (entries u.pass.view.seen)) (ours : IsPrefix r.pass.view.seen u.pass.view.seen) (theirs : IsPrefix o.pass.view.seen u.pass.view.seen) (closes : u.closed ≡ first_some r.closed o.closed) where
  our_log : IsPrefix (entries r.pass.view.seen) (entries u.pass.view.seen)
  our_log = prefix_entries r.pass.view.seen u.pass.view.seen ours

  their_log : IsPrefix (entries o.pass.view.seen) (entries u.pass.view.seen)
  their_log = prefix_entries o.pass.view.seen u.pass.view.seen theirs

  our_longest : IsPrefix g.longest (entries u.pass.view.seen)
  our_longest = prefix_trans g.longest (entries r.pass.view.seen) (entries u.pass.view.seen) g.within our_log

  follows_each : (w : ℕ) → w < n + 1 → FollowsAsks (w + 1) making.made_at (parts w) (entries u.pass.view.seen)
  follows_each w low =
      dite (ℕ_discrete w n)
      (λ (e : w ≡ n). subst (λ (v : ℕ). FollowsAsks (v + 1) making.made_at (parts v) (entries u.pass.view.seen)) (sym e) (follows_within (n + 1) making.made_at (parts n) (entries o.pass.view.seen) (entries u.pass.view.seen) their_log legal left.ended left.follows))
      (λ (apart : w ≢ n). let old = g.each w (grind (arith, low, apart)) in follows_within (w + 1) making.made_at (parts w) (entries r.pass.view.seen) (entries u.pass.view.seen) our_log legal (end_within (w + 1) g.longest (entries r.pass.view.seen) g.within old.1) old.0)

  end_each : (list : List Entry) → ((w : ℕ) → w < n → has_end (w + 1) list ≡ true) → has_end (n + 1) list ≡ true → (w : ℕ) → w < n + 1 → has_end (w + 1) list ≡ true
  end_each list old new w low =
      dite (ℕ_discrete w n)
      (λ (e : w ≡ n). subst (λ (v : ℕ). has_end (v + 1) list ≡ true) (sym e) new)
      (λ (apart : w ≢ n). old w (grind (arith, low, apart)))

  closed_by : (list : List Entry) → ClosedAs making list (first_some r.closed o.closed) → ClosedAs making list u.closed
  closed_by list c = subst (ClosedAs making list) (sym closes) c

  theirs_longer : IsPrefix g.longest (entries o.pass.view.seen) → GathersReleases span making count (n + 1) parts u
  theirs_longer p =
      let list = entries o.pass.view.seen in record {
        span = same_span;
        origin = same_origin;
        legal = legal;
        longest = list;
        within = their_log;
        begins = prefix_trans (clone_entries making.made_at count) g.longest list g.begins p;
        closed = closed_by list (later_closes making g.longest list r.closed o.closed p left.legal g.closed left.closed);
        each = λ w low. (follows_each w low, end_each list (λ v old. end_within (v + 1) g.longest list p (g.each v old).1) left.ended w low);
      }

  ours_longer : IsPrefix (entries o.pass.view.seen) g.longest → GathersReleases span making count (n + 1) parts u
  ours_longer p =
      let list = g.longest in record {
        span = same_span;
        origin = same_origin;
        legal = legal;
        longest = list;
        within = our_longest;
        begins = g.begins;
        closed = closed_by list (earlier_closes making list (entries o.pass.view.seen) r.closed o.closed p (legal_first (start making.made_at) list our_longest.0 (subst (IsLegal making.made_at) (sym our_longest.1) legal)) g.closed left.closed);
        each = λ w low. (follows_each w low, end_each list (λ v old. (g.each v old).1) (end_within (n + 1) (entries o.pass.view.seen) list p left.ended) w low);
      }

  pub gathered_more : GathersReleases span making count (n + 1) parts u
  gathered_more = ⊎_elim theirs_longer ours_longer (comparable g.longest (entries o.pass.view.seen) (entries u.pass.view.seen) our_longest their_log)

-- ---- the whole history

-- no entry makes a handle
abbrev pub is_plain : HandleAct → Bool
is_plain (Clone n) = false
is_plain (Call op) = true
is_plain (Join m) = true
is_plain Release = true

abbrev pub plain : List Entry → Bool
plain [] = true
plain (e ∷ es) = is_plain e.what && plain es

abbrev pub asks_plain : List Ask → Bool
asks_plain [] = true
asks_plain (a ∷ asks) = is_plain a.what && asks_plain asks

plain_case : (k last : ℕ) (asks : List Ask) (e : Entry) (es : List Entry) (b : Bool) → (e.caller == k) ≡ b → asks_plain asks ≡ true → FollowsAsks k last asks (e ∷ es) → ((rest : List Ask) → asks_plain rest ≡ true → FollowsAsks k e.at rest es → plain (entries_by k es) ≡ true) → plain (entries_by k (e ∷ es)) ≡ true
plain_case k last asks e es true is p f ih =
    let g : NextIs k last asks e es = rw is at f in
    let q = both (is_plain g.0.what) (asks_plain g.1) (ap asks_plain (sym g.2) ∙ p) in
    rw is (rw (ap is_plain g.3 ∙ q.0) (ih g.1 q.1 g.5))
plain_case k last asks e es false is p f ih = rw is (ih asks p (rw is at f))

plain_by : (k last : ℕ) (asks : List Ask) (log : List Entry) → asks_plain asks ≡ true → FollowsAsks k last asks log → plain (entries_by k log) ≡ true
plain_by k last asks [] p f = refl
plain_by k last asks (e ∷ es) p f = plain_case k last asks e es (e.caller == k) refl p f (λ rest q g. plain_by k e.at rest es q g)

plain_rest : (xs ys : List Entry) → plain (xs ++ ys) ≡ true → plain ys ≡ true
plain_rest [] ys p = p
plain_rest (x ∷ xs) ys p = plain_rest xs ys (both _ _ p).1

own_plain_case : (e : Entry) (es : List Entry) (b : Bool) → (e.caller == e.caller) ≡ b → b ≡ true → plain (entries_by e.caller (e ∷ es)) ≡ true → is_plain e.what ≡ true
own_plain_case e es true is hit p = let q : (is_plain e.what && plain (entries_by e.caller es)) ≡ true = rw is at p in (both _ _ q).0
own_plain_case e es false is hit p = absurd cc

own_plain : (e : Entry) (es : List Entry) → plain (entries_by e.caller (e ∷ es)) ≡ true → is_plain e.what ≡ true
own_plain e es p = own_plain_case e es (e.caller == e.caller) refl (grind (arith, nat_tests)) p

plain_tail_case : (k : ℕ) (e : Entry) (es : List Entry) (b : Bool) → (e.caller == k) ≡ b → plain (entries_by k (e ∷ es)) ≡ true → plain (entries_by k es) ≡ true
plain_tail_case k e es true is p = let q : (is_plain e.what && plain (entries_by k es)) ≡ true = rw is at p in (both _ _ q).1
plain_tail_case k e es false is p = rw is at p

no_clone : (n : ℕ) (w : HandleAct) → is_plain w ≡ true → clone_count_after n w ≡ n
no_clone n (Clone m) p = absurd cc
no_clone n (Call op) p = refl
no_clone n (Join m) p = refl
no_clone n Release p = refl

-- where nobody who has a number makes a handle, there are no more
clones_stay : (s : HistoryState) (log : List Entry) → Numbered s → is_legal s log ≡ true → ((k : ℕ) → k ≤ s.clones → plain (entries_by k log) ≡ true) → (state_from s log).clones ≡ s.clones
clones_stay s [] i l p = refl
clones_stay s (e ∷ es) i l p =
    let q = both (may s e) _ l in
    let t = tested s e q.0 in
    let still = no_clone s.clones e.what (own_plain e es (p e.caller (i.within e.caller t.held))) in
    clones_stay (state_after s e) es (numbered_step s e.caller e.at e.what i t.done) q.1 (λ k low. plain_tail_case k e es (e.caller == k) refl (p k (omega (arith, still, low)))) ∙ still

sum_append : (s : HistoryState) (xs ys : List Entry) → state_from s (xs ++ ys) ≡ state_from (state_from s xs) ys
sum_append s [] ys = refl
sum_append s (x ∷ xs) ys = sum_append (state_after s x) xs ys

opening_clones : (s : HistoryState) (made n count : ℕ) → (state_from s (clone_entries_from made n count)).clones ≡ s.clones + count
opening_clones s made n zero = omega arith
opening_clones s made n (suc count) = let ih = opening_clones (state_after s (entry 0 made (Clone n))) made (n + 1) count in omega (arith, ih)

opening_ends : (made n count : ℕ) → has_end 0 (clone_entries_from made n count) ≡ true
opening_ends made n zero = refl
opening_ends made n (suc count) = opening_ends made (n + 1) count

opening_by : (made n count : ℕ) → entries_by 0 (clone_entries_from made n count) ≡ clone_entries_from made n count
opening_by made n zero = refl
opening_by made n (suc count) = ap (λ l. entry 0 made (Clone n) ∷ l) (opening_by made (n + 1) count)

module _ (of_span : TableId) (making : Making) (count : ℕ) (parts : ℕ → List Ask) (are_plain : (w : ℕ) → w < count → asks_plain (parts w) ≡ true) (r : Released) (g : GathersReleases of_span making count count parts r) where
  log : List Entry
  log = entries r.pass.view.seen

  first : List Entry
  first = clone_entries making.made_at count

  more_is : clone_entries making.made_at count ++ (g.begins.0 ++ g.within.0) ≡ entries r.pass.view.seen
  more_is = sym (append_assoc (clone_entries making.made_at count) g.begins.0 g.within.0) ∙ ap (λ l. l ++ g.within.0) g.begins.1 ∙ g.within.1

  -- after the opening
  abbrev more : IsPrefix (clone_entries making.made_at count) (entries r.pass.view.seen)
  more = (g.begins.0 ++ g.within.0, more_is)

  legal_more : IsLegal making.made_at (clone_entries making.made_at count ++ more.0)
  legal_more = subst (IsLegal making.made_at) (sym more.1) g.legal

  clones_first : (state_of_history making.made_at (clone_entries making.made_at count)).clones ≡ count
  clones_first = let c = opening_clones (start making.made_at) making.made_at 1 count in omega (arith, c)

  none_of_first : entries_by 0 more.0 ≡ []
  none_of_first = ended_is_done making.made_at 0 (clone_entries making.made_at count) more.0 legal_more (opening_ends making.made_at 1 count)

  plain_each : (k : ℕ) → k ≤ count → plain (entries_by k more.0) ≡ true
  plain_each zero low = ap plain none_of_first
  plain_each (suc w) low =
      let here : w < count = omega (arith, low) in
      let next : w + 1 ≡ suc w = omega arith in
      let all : plain (entries_by (suc w) (entries r.pass.view.seen)) ≡ true = subst (λ (k : ℕ). plain (entries_by k (entries r.pass.view.seen)) ≡ true) next (plain_by (w + 1) making.made_at (parts w) (entries r.pass.view.seen) (are_plain w here) (g.each w here).0) in
      plain_rest (entries_by (suc w) (clone_entries making.made_at count)) (entries_by (suc w) more.0) (ap plain (sym (by_append (suc w) (clone_entries making.made_at count) more.0) ∙ ap (entries_by (suc w)) more.1) ∙ all)

  clones_all : (rest : List Entry) → IsPrefix rest more.0 → (state_of_history making.made_at (clone_entries making.made_at count ++ rest)).clones ≡ count
  clones_all rest p =
      let legal : IsLegal making.made_at ((clone_entries making.made_at count ++ rest) ++ p.0) = subst (IsLegal making.made_at) (ap (λ l. clone_entries making.made_at count ++ l) (sym p.1) ∙ sym (append_assoc (clone_entries making.made_at count) rest p.0)) legal_more in
      let legal' = legal_first (start making.made_at) (clone_entries making.made_at count ++ rest) p.0 legal in
      let i = numbered making.made_at (clone_entries making.made_at count) (legal_first (start making.made_at) (clone_entries making.made_at count) rest legal') in
      ap (λ (s : HistoryState). s.clones) (sum_append (start making.made_at) (clone_entries making.made_at count) rest)
      ∙ clones_stay (state_of_history making.made_at (clone_entries making.made_at count)) rest i (legal_rest (start making.made_at) (clone_entries making.made_at count) rest legal') (λ k low. plain_first (entries_by k rest) (entries_by k p.0) (ap plain (sym (by_append k rest p.0) ∙ ap (entries_by k) p.1) ∙ plain_each k (omega (arith, low, clones_first)))) ∙ clones_first
    where
      plain_first : (xs ys : List Entry) → plain (xs ++ ys) ≡ true → plain xs ≡ true
      plain_first [] ys p = refl
      plain_first (x ∷ xs) ys p = let q = both (is_plain x.what) (plain (xs ++ ys)) p in rw q.0 (plain_first xs ys q.1)

  -- the longest list is the whole
  ended_each : (k : ℕ) → k ≤ count → has_end k g.longest ≡ true
  ended_each zero low = end_within 0 (clone_entries making.made_at count) g.longest g.begins (opening_ends making.made_at 1 count)
  ended_each (suc w) low = let next : w + 1 ≡ suc w = omega arith in subst (λ (k : ℕ). has_end k g.longest ≡ true) next (g.each w (omega (arith, low))).1

  clones_longest : (state_of_history making.made_at g.longest).clones ≡ count
  clones_longest =
      let inside : IsPrefix g.begins.0 more.0 = (g.within.0, refl) in
      ap (λ (l : List Entry). (state_of_history making.made_at l).clones) (sym g.begins.1) ∙ clones_all g.begins.0 inside

  is_whole : (is_closed making.made_at g.longest ≡ true) × (g.within.0 ≡ [])
  is_whole = whole_is_seen making.made_at g.longest g.within.0 (subst (IsLegal making.made_at) (sym g.within.1) g.legal) (λ k low. ended_each k (omega (arith, low, clones_longest)))

  pub whole_log : g.longest ≡ entries r.pass.view.seen
  whole_log = sym (append-nil g.longest) ∙ ap (λ (l : List Entry). g.longest ++ l) (sym is_whole.1) ∙ g.within.1

  pub does_all : DoesAll making.made_at count parts (entries r.pass.view.seen)
  does_all = record {
    legal = g.legal;
    closed = subst (λ (l : List Entry). is_closed making.made_at l ≡ true) whole_log is_whole.0;
    begins = more;
    first = ap (entries_by 0) (sym more.1) ∙ by_append 0 (clone_entries making.made_at count) more.0 ∙ (λ i. opening_by making.made_at 1 count i ++ none_of_first i) ∙ append-nil (clone_entries making.made_at count);
    each = λ w low. (g.each w low).0;
    others = λ k high. none_above (start making.made_at) (entries r.pass.view.seen) k (numbered_start making.made_at) g.legal (let c = ap (λ (l : List Entry). (state_of_history making.made_at l).clones) (sym whole_log) ∙ clones_longest in omega (arith, c, high));
  }

  -- so some release closed the span
  pub closed_whole : ClosedAs making (entries r.pass.view.seen) r.closed
  closed_whole = subst (λ (l : List Entry). ClosedAs making l r.closed) whole_log g.closed

  pub not_open : r.closed ≡ None → ⊥
  not_open e = true≢false (sym does_all.closed ∙ subst (ClosedAs making (entries r.pass.view.seen)) e closed_whole)

  pub is_ended : (e : Ended) → e.pass ≡ r.pass → r.closed ≡ Some (e.history, e.finished) → IsEnded of_span making count parts e
  is_ended e p c =
      let last : ClosedAs making (entries r.pass.view.seen) (Some (e.history, e.finished)) = subst (ClosedAs making (entries r.pass.view.seen)) c closed_whole in
      record {
        span = ap (λ (s : ReleasedHandle). s.span) p ∙ g.span;
        origin = ap (λ (s : ReleasedHandle). s.view.origin) p ∙ g.origin;
        seen = ap (λ (s : ReleasedHandle). entries s.view.seen) p ∙ sym last.0;
        content = last.1 ∙ ap (content_of making) (sym last.0);
        does = subst (DoesAll making.made_at count parts) (sym last.0) does_all;
      }
