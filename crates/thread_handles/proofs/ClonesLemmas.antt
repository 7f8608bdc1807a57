-- What the making of a handle for each worker leaves.
use Rattle.std.proofs.Common.{◌≡◌, ◌≢◌, ℕ, zero, suc, ◌+◌, ◌<◌, ◌≤◌, ◌==◌, Bool, true, false, ◌||◌, List, [], ◌∷◌, ◌++◌, length, refl, ap, sym, ◌∙◌, subst, arith, length-append, length-set, set, take, get_or-set_same, get_or-set_other}
use Rattle.std.specs.Prelude.{slice_index_or}
use Rattle.std.proofs.lemmas.Bool.Decides.{nat_tests}
use mathlib.Core.List.{IsPrefix}
use mathlib.Core.Logic.{dite}
use native.Mathlib.Decide.{ℕ_discrete}
use Rattle.trace_threads.specs.declared.making.Making.{Making}
use Rattle.trace_threads.specs.declared.history.Entry.{Entry}
use Rattle.trace_threads.specs.declared.history.HandleAct.TheVariants.{Clone, Release}
use Rattle.trace_threads.specs.declared.handle.Released.{Released}
use Rattle.trace_threads.specs.History.{IsLegal, has, entries_by}
use Rattle.trace_threads.specs.Turns.{Turn, entries}
use Rattle.trace_threads.specs.Calls.{MakesEntry, IsCloneOf}
use Rattle.trace_threads.specs.Handles.{SharedHandle, ReleasedHandle, open_count_of, AddsNoEntry, ClosedAs, IsSameHandle}
use Rattle.trace_threads.proofs.queue.FrontsLemmas.{prefix_entries}
use Rattle.thread_script.specs.Asks.{Ask, ask, FollowsAsks, clones_asked, numbers_from, clone_entries}
use Rattle.thread_handles.specs.Works.{WasReleased}
use Rattle.thread_handles.specs.Shares.{numbers_of, AreCloned, HasLearnt, HaveLearnt, IsFresh, IsShared}
use Rattle.thread_handles.proofs.AsksLemmas.{follows_made, by_append, no_items}
use Rattle.thread_handles.proofs.FirstEntriesLemmas.{opened}
use Rattle.thread_handles.proofs.WorkLemmas.{same_get}

pub get_push : {A : Type 0} (P : A → Type 0) (xs : List A) (y : A) (i : ℕ) (d : A) → ((j : ℕ) → j < length xs → P (slice_index_or xs j d)) → P y → i < length (xs ++ y ∷ []) → P (slice_index_or (xs ++ y ∷ []) i d)
get_push P [] y zero d f p low = p
get_push P [] y (suc i) d f p low = absurd (omega (arith, low))
get_push P (x ∷ xs) y zero d f p low = f 0 (omega arith)
get_push P (x ∷ xs) y (suc i) d f p low = get_push P xs y i d (λ j l. f (suc j) (omega (arith, l))) p (omega (arith, low))

-- ---- clones

asked_push : (made : ℕ) (hs : List SharedHandle) (x : SharedHandle) → clones_asked made (numbers_of (hs ++ x ∷ [])) ≡ clones_asked made (numbers_of hs) ++ ask made (Clone x.number) ∷ []
asked_push made [] x = refl
asked_push made (h ∷ hs) x = ap (λ (l : List Ask). ask made (Clone h.number) ∷ l) (asked_push made hs x)

pub cloned_more : (at : ℕ) (h g f x : SharedHandle) (hs : List SharedHandle) → h.view.origin.made_at ≡ at → AreCloned h g hs → IsSameHandle g f → x.span ≡ g.span → IsCloneOf f.view x.view → MakesEntry g.view f.view g.number at (Clone x.number) → open_count_of f ≡ open_count_of g → AreCloned h f (hs ++ x ∷ [])
cloned_more at h g f x hs moment c same span clone made opn =
    let m : MakesEntry g.view f.view 0 h.view.origin.made_at (Clone x.number) = subst (λ (p : ℕ × ℕ). MakesEntry g.view f.view p.0 p.1 (Clone x.number)) (λ i. (c.number i, sym moment i)) made in
    let asked = clones_asked h.view.origin.made_at (numbers_of hs) in
    let before : FollowsAsks 0 g.view.origin.made_at asked (entries g.view.seen) = subst (λ (o : Making). FollowsAsks 0 o.made_at asked (entries g.view.seen)) (sym c.origin) c.follows in
    let after : FollowsAsks 0 g.view.origin.made_at (asked ++ ask h.view.origin.made_at (Clone x.number) ∷ []) (entries f.view.seen) = follows_made g.view f.view 0 asked (ask h.view.origin.made_at (Clone x.number)) m c.own_entries before in
    let here : FollowsAsks 0 h.view.origin.made_at (asked ++ ask h.view.origin.made_at (Clone x.number) ∷ []) (entries f.view.seen) = subst (λ (o : Making). FollowsAsks 0 o.made_at (asked ++ ask h.view.origin.made_at (Clone x.number) ∷ []) (entries f.view.seen)) c.origin after in
    record {
      span = same.0 ∙ c.span;
      number = same.1 ∙ c.number;
      origin = made.same ∙ c.origin;
      out = opn ∙ c.out;
      follows = subst (λ (l : List Ask). FollowsAsks 0 h.view.origin.made_at l (entries f.view.seen)) (sym (asked_push h.view.origin.made_at hs x)) here;
      own_entries = m.own_entries;
      each = λ i d low. get_push (λ (y : SharedHandle). (y.span ≡ h.span) × (y.view.origin ≡ h.view.origin) × (y.view.mine ≡ [])) hs x i d (λ j l. c.each j d l) (span ∙ c.span, clone.2 ∙ made.same ∙ c.origin, clone.1) low;
    }

-- ---- the release of the first handle

lengths : (hs : List SharedHandle) → length (numbers_of hs) ≡ length hs
lengths [] = refl
lengths (h ∷ hs) = let l = lengths hs in omega (arith, l)

abbrev head_number : List ℕ → ℕ
head_number [] = 0
head_number (n ∷ ns) = n

abbrev tail_numbers : List ℕ → List ℕ
tail_numbers [] = []
tail_numbers (n ∷ ns) = ns

number_at : (hs : List SharedHandle) (n i : ℕ) (d : SharedHandle) → numbers_of hs ≡ numbers_from n (length (numbers_of hs)) → i < length hs → (slice_index_or hs i d).number ≡ n + i
number_at [] n i d e low = absurd (omega (arith, low))
number_at (h ∷ hs) n zero d e low = ap head_number e ∙ omega arith
number_at (h ∷ hs) n (suc i) d e low = number_at hs (n + 1) i d (ap tail_numbers e) (omega (arith, low)) ∙ omega arith

abbrev HasAt : ℕ → List SharedHandle → SharedHandle → Type 0
HasAt n hs d = (i : ℕ) × (i < length hs) × ((slice_index_or hs i d).number ≡ n)

index_case : (n : ℕ) (h : SharedHandle) (hs : List SharedHandle) (d : SharedHandle) (b : Bool) → (h.number == n) ≡ b → (b || has n (numbers_of hs)) ≡ true → (has n (numbers_of hs) ≡ true → HasAt n hs d) → HasAt n (h ∷ hs) d
index_case n h hs d true is at ih = (0, omega arith, grind (arith, nat_tests))
index_case n h hs d false is at ih = let r = ih at in let low = r.1 in (suc r.0, omega (arith, low), r.2)

has_index : (n : ℕ) (hs : List SharedHandle) (d : SharedHandle) → has n (numbers_of hs) ≡ true → HasAt n hs d
has_index n [] d at = absurd cc
has_index n (h ∷ hs) d at = index_case n h hs d (h.number == n) refl at (λ a. has_index n hs d a)

none_before : (k : ℕ) (xs ys : List Entry) → IsPrefix xs ys → entries_by k ys ≡ [] → entries_by k xs ≡ []
none_before k xs ys p none =
    let all : entries_by k xs ++ entries_by k p.0 ≡ [] = sym (by_append k xs p.0) ∙ ap (entries_by k) p.1 ∙ none in
    let l = ap length all in
    let a = length-append (entries_by k xs) (entries_by k p.0) in
    no_items (entries_by k xs) (omega (arith, l, a))

module _ (at : ℕ) (h g : SharedHandle) (hs gs : List SharedHandle) (r : Released) (moment : h.view.origin.made_at ≡ at) (c : AreCloned h g hs) (d : WasReleased g r at) (len : length gs ≡ length hs) (learnt : HaveLearnt (record { span = r.pass.span; view = r.pass.view }) hs gs) where
  m : MakesEntry g.view r.pass.view 0 h.view.origin.made_at Release
  m = subst (λ (p : ℕ × ℕ). MakesEntry g.view r.pass.view p.0 p.1 Release) (λ i. (c.number i, sym moment i)) d.made

  abbrev asked : List Ask
  asked = clones_asked h.view.origin.made_at (numbers_of hs)

  origin : r.pass.view.origin ≡ h.view.origin
  origin = d.made.same ∙ c.origin

  follows : FollowsAsks 0 h.view.origin.made_at (clones_asked h.view.origin.made_at (numbers_of hs) ++ ask h.view.origin.made_at Release ∷ []) (entries r.pass.view.seen)
  follows =
      let before : FollowsAsks 0 g.view.origin.made_at asked (entries g.view.seen) = subst (λ (o : Making). FollowsAsks 0 o.made_at asked (entries g.view.seen)) (sym c.origin) c.follows in
      let after : FollowsAsks 0 g.view.origin.made_at (asked ++ ask h.view.origin.made_at Release ∷ []) (entries r.pass.view.seen) = follows_made g.view r.pass.view 0 asked (ask h.view.origin.made_at Release) m c.own_entries before in
      subst (λ (o : Making). FollowsAsks 0 o.made_at (asked ++ ask h.view.origin.made_at Release ∷ []) (entries r.pass.view.seen)) c.origin after

  legal : IsLegal h.view.origin.made_at (entries r.pass.view.seen)
  legal = subst (λ (o : Making). IsLegal o.made_at (entries r.pass.view.seen)) c.origin d.made.legal

  -- the clones have made no entry
  none_of : (i : ℕ) (x : SharedHandle) → i < length hs → entries_by (slice_index_or hs i x).number (entries (slice_index_or gs i x).view.seen) ≡ []
  none_of i x low = let l = learnt i x low in l.own_entries ∙ l.mine ∙ (c.each i x low).2

  quiets : (n : ℕ) → has n (numbers_of hs) ≡ true → entries_by n (entries r.pass.view.seen) ≡ []
  quiets n at =
      let i = has_index n hs h at in
      let l = learnt i.0 h i.1 in
      none_before n (entries r.pass.view.seen) (entries (slice_index_or gs i.0 h).view.seen) (prefix_entries r.pass.view.seen (slice_index_or gs i.0 h).view.seen l.seen) (ap (λ (k : ℕ). entries_by k (entries (slice_index_or gs i.0 h).view.seen)) (sym i.2) ∙ none_of i.0 h i.1)

  whole : (entries r.pass.view.seen ≡ clone_entries h.view.origin.made_at (length (numbers_of hs))) × (numbers_of hs ≡ numbers_from 1 (length (numbers_of hs)))
  whole = opened h.view.origin.made_at (numbers_of hs) (entries r.pass.view.seen) legal quiets follows

  fresh : (i : ℕ) (x : SharedHandle) → i < length gs → IsFresh h (i + 1) (slice_index_or gs i x)
  fresh i x low =
      let here : i < length hs = omega (arith, len, low) in
      let l = learnt i x here in
      let e = c.each i x here in
      let n : (slice_index_or hs i x).number ≡ i + 1 = number_at hs 1 i x whole.1 here ∙ omega arith in
      record {
        span = l.span ∙ e.0;
        number = l.number ∙ n;
        origin = l.origin ∙ e.1;
        mine = l.mine ∙ e.2;
        none = ap (λ (k : ℕ). entries_by k (entries (slice_index_or gs i x).view.seen)) (sym n) ∙ none_of i x here;
      }

  pub is_shared : (q : Released) → q.pass.span ≡ r.pass.span → q.pass.view.seen ≡ r.pass.view.seen → q.pass.view.origin ≡ r.pass.view.origin → q.closed ≡ r.closed → IsShared h gs q
  is_shared q s v o e =
      let closed : ClosedAs h.view.origin (entries r.pass.view.seen) r.closed = subst (λ (x : Making). ClosedAs x (entries r.pass.view.seen) r.closed) c.origin d.closed in
      record {
        span = s ∙ d.span ∙ c.span;
        origin = o ∙ origin;
        log = ap entries v ∙ whole.0 ∙ ap (clone_entries h.view.origin.made_at) (lengths hs ∙ sym len);
        legal = subst (λ l. IsLegal h.view.origin.made_at (entries l)) (sym v) legal;
        closed = subst (λ (x : _ × _). ClosedAs h.view.origin (entries x.0) x.1) (λ i. (sym v i, sym e i)) closed;
        each = fresh;
      }

-- ---- lists that are gone through

pub take_front : {A : Type 0} (n : ℕ) (xs ys : List A) → length xs ≡ n → take n (xs ++ ys) ≡ xs
take_front zero [] ys e = refl
take_front zero (x ∷ xs) ys e = absurd (omega (arith, e))
take_front (suc n) [] ys e = absurd (omega (arith, e))
take_front (suc n) (x ∷ xs) ys e = ap (λ l. x ∷ l) (take_front n xs ys (omega (arith, e)))

pub set_len : {A : Type 0} (xs : List A) (i : ℕ) (x : A) → length (set xs i x) ≡ length xs
set_len xs i x = length-set xs i x

pub learnt_more : (p q : ReleasedHandle) (olds hs : List SharedHandle) (i : ℕ) (h f : SharedHandle) → length hs ≡ length olds → i < length olds → h ≡ slice_index_or hs i h → q.view.seen ≡ p.view.seen
    → IsSameHandle h f → AddsNoEntry h f → IsPrefix q.view.seen f.view.seen
    → ((j : ℕ) (d : SharedHandle) → j < i → HasLearnt p (slice_index_or olds j d) (slice_index_or hs j d))
    → ((j : ℕ) (d : SharedHandle) → i ≤ j → j < length olds → slice_index_or hs j d ≡ slice_index_or olds j d)
    → (j : ℕ) (d : SharedHandle) → j < i + 1 → HasLearnt p (slice_index_or olds j d) (slice_index_or (set hs i f) j d)
learnt_more p q olds hs i h f len low is seen same sees theirs learnt rest j d less =
    dite (ℕ_discrete j i)
    (λ (here : j ≡ i).
    let in_hs : i < length hs = omega (arith, len, low) in
    let at_i : slice_index_or olds j d ≡ h = ap (λ (k : ℕ). slice_index_or olds k d) here ∙ sym (rest i d (omega arith) low) ∙ same_get hs i d h in_hs ∙ sym is in
    let to_f : slice_index_or (set hs i f) j d ≡ f = ap (λ (k : ℕ). slice_index_or (set hs i f) k d) here ∙ get_or-set_same hs i f d in_hs in
    let now : HasLearnt p h f = record { span = same.0; number = same.1; origin = sees.same; mine = sees.mine; seen = subst (λ (l : List Turn). IsPrefix l f.view.seen) seen theirs; own_entries = sees.own_entries } in
    subst (λ (x : SharedHandle). HasLearnt p x (slice_index_or (set hs i f) j d)) (sym at_i) (subst (HasLearnt p h) (sym to_f) now))
    (λ (apart : j ≢ i).
    let before : j < i = grind (arith, less, apart) in
    subst (HasLearnt p (slice_index_or olds j d)) (sym (get_or-set_other hs i j f d apart)) (learnt j d before))

pub learnt_rest : (olds hs : List SharedHandle) (i : ℕ) (f : SharedHandle) → ((j : ℕ) (d : SharedHandle) → i ≤ j → j < length olds → slice_index_or hs j d ≡ slice_index_or olds j d)
    → (j : ℕ) (d : SharedHandle) → i + 1 ≤ j → j < length olds → slice_index_or (set hs i f) j d ≡ slice_index_or olds j d
learnt_rest olds hs i f rest j d high low = get_or-set_other hs i j f d (λ e. omega (arith, e, high)) ∙ rest j d (omega (arith, high)) low
