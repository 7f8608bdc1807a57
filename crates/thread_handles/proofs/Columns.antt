-- Several shared spans: the releases of each, joined.
use Rattle.std.proofs.Common.{◌≡◌, ◌≢◌, ℕ, zero, suc, ◌+◌, ◌<◌, ◌≤◌, true, List, [], ◌∷◌, ◌++◌, length, refl, ap, sym, ◌∙◌, subst, arith, Some, None, drop, set, slice_index_or, get_or-set_same, get_or-set_other}
use mathlib.Core.Logic.{dite}
use native.Mathlib.Decide.{ℕ_discrete}
use Rattle.atomic_table.specs.Seated.{TableId}
use Rattle.trace_threads.specs.declared.handle.Released.{Released}
use Rattle.trace_threads.specs.Handles.{SharedHandle}
use Rattle.thread_script.specs.Asks.{Ask}
use Rattle.thread_handles.specs.declared.job.Job.{Job}
use Rattle.thread_handles.specs.declared.gather.Ended.{Ended}
use Rattle.thread_handles.specs.Shares.{IsShared}
use Rattle.thread_handles.specs.Gathers.{IsMet, MetAll, GathersReleases, IsEnded}
use Rattle.thread_handles.specs.Columns.{column, HaveLeft, WereTaken, IsJoined}
use Rattle.thread_handles.proofs.GatheredLemmas.{asks_plain, is_ended, not_open}
use Rattle.thread_handles.proofs.JoinsLemmas.{LeftFrom, met_all, gathered_first}
use Rattle.thread_handles.proofs.WorkLemmas.{same_get, get_drop, get_before, get_last, drop_more}

-- ---- one span: the releases of its handles, whatever held them

module _ (first : SharedHandle) (hs : List SharedHandle) (r : Released) (parts : ℕ → List Ask) (os : List Released) (count : ℕ) (plain : (w : ℕ) → w < count → asks_plain (parts w) ≡ true) (len : length hs ≡ count) (olen : length os ≡ count) (s : IsShared first hs r) (l : LeftFrom first.span first.view.origin parts 0 os) where
  span_whole : (u : Released) → MetAll r os u → GathersReleases first.span first.view.origin count count parts u
  span_whole u met = met_all first.span first.view.origin count 0 count parts os r u (omega (arith, olen)) (gathered_first first hs r count parts len s) l met

  pub span_closed : (u : Released) → MetAll r os u → u.closed ≡ None → ⊥
  span_closed u met = not_open first.span first.view.origin count parts plain u (span_whole u met)

  pub span_ended : (u : Released) (e : Ended) → MetAll r os u → e.pass ≡ u.pass → u.closed ≡ Some (e.history, e.finished) → IsEnded first.span first.view.origin count parts e
  span_ended u e met p c = is_ended first.span first.view.origin count parts plain u (span_whole u met) e p c

-- ---- columns

drop_column : {G : Type 0} (e : Released) (s : ℕ) (jobs : List (Job G)) (w n : ℕ) (d : Job G) → n ≡ suc w → w < length jobs → drop w (column e s jobs) ≡ slice_index_or (slice_index_or jobs w d).left.items s e ∷ drop n (column e s jobs)
drop_column e s [] w n d is low = absurd (omega (arith, low))
drop_column e s (job ∷ jobs) zero n d is low = ap (λ (k : ℕ). slice_index_or job.left.items s e ∷ drop k (column e s (job ∷ jobs))) (sym is)
drop_column e s (job ∷ jobs) (suc w) n d is low = drop_column e s jobs w (suc w) d refl (omega (arith, low)) ∙ ap (λ (k : ℕ). slice_index_or (slice_index_or jobs w d).left.items s e ∷ drop k (column e s (job ∷ jobs))) (sym is)

no_column : {G : Type 0} (e : Released) (s : ℕ) (jobs : List (Job G)) (w : ℕ) → length jobs ≤ w → drop w (column e s jobs) ≡ []
no_column e s [] zero low = refl
no_column e s [] (suc w) low = refl
no_column e s (job ∷ jobs) zero low = absurd (omega (arith, low))
no_column e s (job ∷ jobs) (suc w) low = no_column e s jobs w (omega (arith, low))

pub same_column : {G : Type 0} (e : Released) (s : ℕ) (jobs news : List (Job G)) → length news ≡ length jobs → WereTaken s jobs news → column e 0 news ≡ column e s jobs
same_column e s [] [] len t = refl
same_column e s [] (x ∷ xs) len t = absurd (omega (arith, len))
same_column e s (j ∷ js) [] len t = absurd (omega (arith, len))
same_column {G} e s (j ∷ js) (x ∷ xs) len t =
    let head = ap (λ (l : List Released). slice_index_or l 0 e) (t 0 j (omega arith)) ∙ get_drop j.left.items s e in
    let tail = same_column e s js xs (omega (arith, len)) (λ w d low. t (suc w) d (omega (arith, low))) in
    λ i. head i ∷ tail i

-- one worker more
pub joined_more : {G : Type 0} (e r m o n : Released) (jobs : List (Job G)) (w : ℕ) (d : Job G) → w < length jobs → o ≡ slice_index_or (slice_index_or jobs w d).left.items 0 e → IsMet m o n
    → ((u : Released) → MetAll m (drop w (column e 0 jobs)) u → MetAll r (column e 0 jobs) u)
    → (u : Released) → MetAll n (drop (w + 1) (column e 0 jobs)) u → MetAll r (column e 0 jobs) u
joined_more e r m o n jobs w d low is met f u rest =
    let next : w + 1 ≡ suc w = omega arith in
    f u (subst (λ (l : List Released). MetAll m l u) (sym (drop_column e 0 jobs w (w + 1) d next low)) (n, subst (λ (x : Released). IsMet m x n) is met, rest))

pub joined_end : {G : Type 0} (e r m : Released) (jobs : List (Job G)) (w : ℕ) → length jobs ≤ w → ((u : Released) → MetAll m (drop w (column e 0 jobs)) u → MetAll r (column e 0 jobs) u) → MetAll r (column e 0 jobs) m
joined_end e r m jobs w high f = f m (subst (λ (l : List Released). MetAll m l m) (sym (no_column e 0 jobs w high)) refl)

pub taken_more : {G : Type 0} (olds xs : List (Job G)) (w : ℕ) (y new : Job G) → length xs ≡ length olds → w < length olds → new.left.items ≡ drop 1 (slice_index_or xs w y).left.items
    → ((j : ℕ) (d : Job G) → j < w → (slice_index_or xs j d).left.items ≡ drop 1 (slice_index_or olds j d).left.items)
    → ((j : ℕ) (d : Job G) → w ≤ j → j < length olds → slice_index_or xs j d ≡ slice_index_or olds j d)
    → (j : ℕ) (d : Job G) → j < w + 1 → (slice_index_or (set xs w new) j d).left.items ≡ drop 1 (slice_index_or olds j d).left.items
taken_more {G} olds xs w y new len low is taken rest j d less =
    dite (ℕ_discrete j w)
    (λ (here : j ≡ w).
    let in_xs : w < length xs = omega (arith, len, low) in
    let to_new : slice_index_or (set xs w new) j d ≡ new = ap (λ (k : ℕ). slice_index_or (set xs w new) k d) here ∙ get_or-set_same xs w new d in_xs in
    let to_old : slice_index_or xs w y ≡ slice_index_or olds j d = rest w y (omega arith) low ∙ same_get olds w y d low ∙ ap (λ (k : ℕ). slice_index_or olds k d) (sym here) in
    ap (λ (x : Job G). x.left.items) to_new ∙ is ∙ ap (λ (x : Job G). drop 1 x.left.items) to_old)
    (λ (apart : j ≢ w).
    let before : j < w = grind (arith, less, apart) in
    ap (λ (x : Job G). x.left.items) (get_or-set_other xs w j new d apart) ∙ taken j d before)

pub taken_rest : {G : Type 0} (olds xs : List (Job G)) (w : ℕ) (new : Job G) → ((j : ℕ) (d : Job G) → w ≤ j → j < length olds → slice_index_or xs j d ≡ slice_index_or olds j d)
    → (j : ℕ) (d : Job G) → w + 1 ≤ j → j < length olds → slice_index_or (set xs w new) j d ≡ slice_index_or olds j d
taken_rest olds xs w new rest j d high low = get_or-set_other xs w j new d (λ e. omega (arith, e, high)) ∙ rest j d (omega (arith, high)) low

-- ---- one span more

drop_some : {A : Type 0} (k : ℕ) (xs : List A) → k < length xs → 0 < length (drop k xs)
drop_some zero xs low = low
drop_some (suc k) [] low = absurd (omega (arith, low))
drop_some (suc k) (x ∷ xs) low = drop_some k xs (omega (arith, low))

pub left_now : {G : Type 0} (t : TableId) (s : ℕ) (jobs news : List (Job G)) → length news ≡ length jobs → WereTaken s jobs news → HaveLeft t s jobs → HaveLeft t 0 news
left_now {G} t s jobs news len taken h w d low =
    let here : w < length jobs = omega (arith, len, low) in
    let x = h w d here in
    let left = (slice_index_or jobs w d).left.items in
    let is = taken w d here in
    let n = ap length is in
    let m = drop_some s left x.0 in
    (omega (arith, n, m), λ e. ap (λ (l : List Released). (slice_index_or l 0 e).pass.span) is ∙ ap (λ (r : Released). r.pass.span) (get_drop left s e) ∙ x.1 e)

pub taken_next : {G : Type 0} (n : ℕ) (jobs news lasts : List (Job G)) → length news ≡ length jobs → WereTaken n jobs news → WereTaken 1 news lasts → WereTaken (n + 1) jobs lasts
taken_next n jobs news lasts len a b w d low =
    let next : n + 1 ≡ suc n = omega arith in
    b w d (omega (arith, len, low)) ∙ drop_more n (n + 1) (slice_index_or jobs w d).left.items (slice_index_or news w d).left.items next (a w d low)

pub joined_next : {G : Type 0} (firsts : List Released) (jobs : List (Job G)) (es new : List Ended) (n : ℕ) (f : Released) (e : Ended) → length es ≡ n → new ≡ es ++ e ∷ [] → f ≡ slice_index_or firsts n f → n < length firsts → IsJoined f n jobs e
    → ((s : ℕ) (d : Released) (x : Ended) → s < n → IsJoined (slice_index_or firsts s d) s jobs (slice_index_or es s x))
    → (s : ℕ) (d : Released) (x : Ended) → s < n + 1 → IsJoined (slice_index_or firsts s d) s jobs (slice_index_or new s x)
joined_next firsts jobs es new n f e len is first low j before s d x less =
    dite (ℕ_discrete s n)
    (λ (here : s ≡ n).
    let to_f : f ≡ slice_index_or firsts n d = first ∙ same_get firsts n f d low in
    let to_e : slice_index_or new n x ≡ e = ap (λ (l : List Ended). slice_index_or l n x) is ∙ get_last es e n x len in
    subst (λ (k : ℕ). IsJoined (slice_index_or firsts k d) k jobs (slice_index_or new k x)) (sym here)
    (subst (λ (t : Released × Ended). IsJoined t.0 n jobs t.1) (λ i. (to_f i, sym to_e i)) j))
    (λ (apart : s ≢ n).
    let less' : s < n = grind (arith, less, apart) in
    let same : slice_index_or new s x ≡ slice_index_or es s x = ap (λ (l : List Ended). slice_index_or l s x) is ∙ get_before es e s x (omega (arith, less', len)) in
    subst (IsJoined (slice_index_or firsts s d) s jobs) (sym same) (before s d x less'))
