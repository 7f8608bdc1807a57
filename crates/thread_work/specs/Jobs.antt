-- What the workers' threads work on.
use Rattle.std.specs.Prelude.{◌≡◌, ℕ, ◌+◌, ◌<◌, ◌≤◌, List, [], ◌∷◌, length, true, slice_index_or, vec_len, vec_capacity}
use Rattle.thread_script.specs.declared.script.WorkerOp.{WorkerOp}
use Rattle.thread_script.specs.declared.plan.Plan.{Plan}
use Rattle.thread_handles.specs.declared.job.Job.{Job}
use Rattle.thread_handles.specs.Works.{IsReadyWorker, AllLeft}

-- worker w may begin
abbrev pub IsJobReady : {G : Type 0} → (G → List ℕ) → Plan → ℕ → Job G → Type 0
IsJobReady opening plan w job =
    (opening job.gate ≡ plan.filter) × IsReadyWorker plan (w + 1) job.ops.items job.last job.handles.items
    × (vec_len job.handles ≤ vec_capacity job.left) × (job.left.items ≡ [])

abbrev pub AreReady : {G : Type 0} → (G → List ℕ) → Plan → List (Job G) → Type 0
AreReady {G} opening plan jobs = (w : ℕ) (d : Job G) → w < length jobs → IsJobReady opening plan w (slice_index_or jobs w d)

-- worker w ended its handles, and if it found memory for all, they did all that they were asked
abbrev pub WasRun : {G : Type 0} → Plan → ℕ → Job G → Job G → Type 0
WasRun plan w job new =
    (new.handles.items ≡ []) × (vec_len new.left ≡ vec_len job.handles)
    × (new.is_done ≡ true → AllLeft plan (w + 1) job.ops.items job.handles.items new.left.items)

abbrev pub WereRun : {G : Type 0} → Plan → List (Job G) → List (Job G) → Type 0
WereRun {G} plan jobs news = (w : ℕ) (d : Job G) → w < length jobs → WasRun plan w (slice_index_or jobs w d) (slice_index_or news w d)

abbrev pub AreDone : {G : Type 0} → List (Job G) → Type 0
AreDone {G} jobs = (w : ℕ) (d : Job G) → w < length jobs → (slice_index_or jobs w d).is_done ≡ true

-- the calls of workers, and their gates
abbrev pub lists_of : {G : Type 0} → List (Job G) → List (List WorkerOp)
lists_of [] = []
lists_of (job ∷ jobs) = job.ops.items ∷ lists_of jobs

abbrev pub gates_of : {G : Type 0} → List (Job G) → List G
gates_of [] = []
gates_of (job ∷ jobs) = job.gate ∷ gates_of jobs
