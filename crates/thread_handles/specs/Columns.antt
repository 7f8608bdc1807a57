-- What the workers' handles left, span by span.
use Rattle.std.specs.Prelude.{◌≡◌, ℕ, ◌<◌, List, [], ◌∷◌, length, Some, None, slice_index_or, drop}
use Rattle.atomic_table.specs.Seated.{TableId}
use Rattle.trace_threads.specs.declared.handle.Released.{Released}
use Rattle.thread_handles.specs.declared.gather.Ended.{Ended}
use Rattle.thread_handles.specs.declared.job.Job.{Job}
use Rattle.thread_handles.specs.Gathers.{MetAll}

-- what the workers' handles of the span s left
abbrev pub column : {G : Type 0} → Released → ℕ → List (Job G) → List Released
column e s [] = []
column e s (job ∷ jobs) = slice_index_or job.left.items s e ∷ column e s jobs

-- each worker left a release of this span at this place
abbrev pub HaveLeft : {G : Type 0} → TableId → ℕ → List (Job G) → Type 0
HaveLeft {G} t s jobs =
    (w : ℕ) (d : Job G) → w < length jobs
    → (s < length (slice_index_or jobs w d).left.items) × ((e : Released) → (slice_index_or (slice_index_or jobs w d).left.items s e).pass.span ≡ t)

-- so many releases of each worker were taken
abbrev pub WereTaken : {G : Type 0} → ℕ → List (Job G) → List (Job G) → Type 0
WereTaken {G} n jobs news = (w : ℕ) (d : Job G) → w < length jobs → (slice_index_or news w d).left.items ≡ drop n (slice_index_or jobs w d).left.items

-- what the handles of the span s left comes to a closed span
pub record ComesToClosed {G : Type 0} (r : Released) (s : ℕ) (jobs : List (Job G)) : Type 0 where
  pub left : HaveLeft r.pass.span s jobs
  pub closes : (u : Released) → MetAll r (column r s jobs) u → u.closed ≡ None → ⊥

abbrev pub AllComeToClosed : {G : Type 0} → List Released → List (Job G) → Type 0
AllComeToClosed firsts jobs = (s : ℕ) (d : Released) → s < length firsts → ComesToClosed (slice_index_or firsts s d) s jobs

-- what is answered of the span s
pub record IsJoined {G : Type 0} (r : Released) (s : ℕ) (jobs : List (Job G)) (e : Ended) : Type 0 where
  pub whole : Released
  pub met : MetAll r (column r s jobs) whole
  pub pass : e.pass ≡ whole.pass
  pub closed : whole.closed ≡ Some (e.history, e.finished)

abbrev pub AreJoined : {G : Type 0} → List Released → List (Job G) → List Ended → Type 0
AreJoined firsts jobs es = (s : ℕ) (d : Released) (x : Ended) → s < length firsts → IsJoined (slice_index_or firsts s d) s jobs (slice_index_or es s x)
