-- Several shared spans: the handles that workers get of them, and what is answered.
use Rattle.std.specs.Prelude.{◌≡◌, ℕ, ◌+◌, ◌<◌, ◌≤◌, List, [], ◌∷◌, ◌++◌, length, true, slice_index_or, vec_len, vec_capacity}
use Rattle.otel_state.specs.declared.times.TheConstants.{GREATEST}
use Rattle.trace_threads.specs.declared.handle.Released.{Released}
use Rattle.trace_threads.specs.Handles.{SharedHandle}
use Rattle.thread_script.specs.declared.plan.Plan.{Plan}
use Rattle.thread_script.specs.declared.script.SharedLine.{SharedLine}
use Rattle.thread_script.specs.declared.script.WorkerOp.{WorkerOp}
use Rattle.thread_script.specs.Asks.{is_balanced}
use Rattle.thread_script.specs.Plans.{MomentsInRange, last_moment, asks_of_worker}
use Rattle.thread_handles.specs.declared.gather.Ended.{Ended}
use Rattle.thread_handles.specs.declared.job.Job.{Job}
use Rattle.thread_handles.specs.Works.{asks_of}
use Rattle.thread_handles.specs.Shares.{IsFirst, IsFresh, IsShared}
use Rattle.thread_handles.specs.Gathers.{IsEnded}

-- the first handles of the shared spans of the plan
abbrev pub AreFirsts : Plan → List SharedHandle → Type 0
AreFirsts plan spans =
    (length plan.shared ≡ length spans)
    × ((s : ℕ) (d : SharedHandle) (l : SharedLine) → s < length spans → IsFirst (slice_index_or spans s d) (slice_index_or plan.shared s l).at × ((slice_index_or plan.shared s l).at ≤ GREATEST))

-- a worker got one handle more
pub record GotOne {G : Type 0} (h : SharedHandle) (job new : Job G) : Type 0 where
  pub ops : new.ops ≡ job.ops
  pub last : new.last ≡ job.last
  pub gate : new.gate ≡ job.gate
  pub left : new.left ≡ job.left
  pub handles : new.handles.items ≡ job.handles.items ++ h ∷ []
  pub room : vec_capacity new.handles ≡ vec_capacity job.handles

abbrev pub GotNext : {G : Type 0} → List SharedHandle → List (Job G) → List (Job G) → Type 0
GotNext {G} hs jobs news = (w : ℕ) (d : Job G) (x : SharedHandle) → w < length jobs → GotOne (slice_index_or hs w x) (slice_index_or jobs w d) (slice_index_or news w d)

abbrev pub HaveRoomForOne : {G : Type 0} → List (Job G) → Type 0
HaveRoomForOne {G} jobs = (w : ℕ) (d : Job G) → w < length jobs → vec_len (slice_index_or jobs w d).handles < vec_capacity (slice_index_or jobs w d).handles

-- a worker that has no handle yet, and room for so many
pub record HasRoomFor {G : Type 0} (n : ℕ) (job : Job G) : Type 0 where
  pub none : vec_len job.handles ≡ 0
  pub empty : job.handles.items ≡ []
  pub room : n ≤ vec_capacity job.handles
  pub left_room : n ≤ vec_capacity job.left
  pub left : job.left.items ≡ []

abbrev pub HaveRoomFor : {G : Type 0} → ℕ → List (Job G) → Type 0
HaveRoomFor {G} n jobs = (w : ℕ) (d : Job G) → w < length jobs → HasRoomFor n (slice_index_or jobs w d)

-- a worker got so many handles
pub record HasGot {G : Type 0} (n : ℕ) (job new : Job G) : Type 0 where
  pub ops : new.ops ≡ job.ops
  pub last : new.last ≡ job.last
  pub gate : new.gate ≡ job.gate
  pub left : new.left ≡ job.left
  pub count : length new.handles.items ≡ n
  pub room : vec_capacity new.handles ≡ vec_capacity job.handles

-- the first handle of a span made so many handles and was released
pub record WasShared (h : SharedHandle) (count : ℕ) (r : Released) : Type 0 where
  pub handles : List SharedHandle
  pub len : length handles ≡ count
  pub shared : IsShared h handles r

-- so many spans were shared
pub record WereShared {G : Type 0} (n : ℕ) (spans : List SharedHandle) (jobs news : List (Job G)) (rs : List Released) : Type 0 where
  pub got : (w : ℕ) (d : Job G) → w < length jobs → HasGot n (slice_index_or jobs w d) (slice_index_or news w d)
  pub fresh : (s w : ℕ) (x : SharedHandle) (d : Job G) → s < n → w < length jobs → IsFresh (slice_index_or spans s x) (w + 1) (slice_index_or (slice_index_or news w d).handles.items s x)
  pub shared : (s : ℕ) (x : SharedHandle) (e : Released) → s < n → WasShared (slice_index_or spans s x) (length jobs) (slice_index_or rs s e)

-- worker w may get its handles of these spans
pub record IsPreparedFor {G : Type 0} (opening : G → List ℕ) (plan : Plan) (spans : List SharedHandle) (job : Job G) : Type 0 where
  pub timed : MomentsInRange job.ops.items
  pub last : job.last ≡ last_moment job.ops.items
  pub gate : opening job.gate ≡ plan.filter
  pub balanced : (s : ℕ) (x : SharedHandle) → s < length spans → is_balanced (asks_of plan (last_moment job.ops.items) s (slice_index_or spans s x) job.ops.items) 0 ≡ true
  pub room : HasRoomFor (length spans) job

abbrev pub ArePreparedFor : {G : Type 0} → (G → List ℕ) → Plan → List SharedHandle → List (Job G) → Type 0
ArePreparedFor {G} opening plan spans jobs = (w : ℕ) (d : Job G) → w < length jobs → IsPreparedFor opening plan spans (slice_index_or jobs w d)

-- what is answered of all spans, in their order
abbrev pub AllEnded : Plan → List SharedHandle → List (List WorkerOp) → List Ended → Type 0
AllEnded plan spans workers es =
    (s : ℕ) (x : SharedHandle) (e : Ended) → s < length spans
    → IsEnded (slice_index_or spans s x).span (slice_index_or spans s x).view.origin (length workers)
    (asks_of_worker plan s (slice_index_or spans s x).view.origin.made_at workers) (slice_index_or es s e)
