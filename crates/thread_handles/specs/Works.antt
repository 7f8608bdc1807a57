-- What a worker's handles know while it works and when it is done.
use Rattle.std.specs.Prelude.{◌≡◌, ℕ, ◌<◌, ◌≤◌, List, ◌++◌, length, true, Option, Some, None, slice_index_or, ◌==◌, if◌then◌else◌}
use Rattle.atomic_table.specs.Seated.{TableId}
use Rattle.otel_state.specs.declared.op.Op.{Op}
use Rattle.otel_state.specs.declared.op.Op.TheVariants.{Exit}
use Rattle.otel_state.specs.declared.times.TheConstants.{GREATEST}
use Rattle.trace_threads.specs.declared.making.Making.{Making}
use Rattle.trace_threads.specs.declared.history.HandleAct.TheVariants.{Call, Release}
use Rattle.trace_threads.specs.declared.handle.Released.{Released}
use Rattle.trace_threads.specs.Moves.{move_of, open_count_after}
use Rattle.trace_threads.specs.History.{IsLegal, entries_by, has_end}
use Rattle.trace_threads.specs.Turns.{entries}
use Rattle.trace_threads.specs.Calls.{MakesEntry}
use Rattle.trace_threads.specs.Handles.{SharedHandle, open_count_of, IsSameHandle, ClosedAs}
use Rattle.thread_script.specs.declared.plan.Plan.{Plan}
use Rattle.thread_script.specs.declared.script.SharedLine.{SharedLine}
use Rattle.thread_script.specs.declared.script.WorkerOp.{WorkerOp}
use Rattle.thread_script.specs.Asks.{Ask, FollowsAsks, is_balanced}
use Rattle.thread_script.specs.Plans.{op_on_span, asks_on, last_moment, release_moment, MomentsInRange}

-- ---- one call of a worker

-- a handle did this op, or nothing
abbrev pub DidCall : SharedHandle → SharedHandle → ℕ → Option Op → Type 0
DidCall h g at None = g ≡ h
DidCall h g at (Some op) =
    IsSameHandle h g × MakesEntry h.view g.view h.number at (Call op) × (open_count_of g ≡ open_count_after (open_count_of h) (move_of op))

-- the handle at this place did this op, and the others nothing
abbrev pub DidAt : ℕ → ℕ → Option Op → List SharedHandle → List SharedHandle → Type 0
DidAt place at op hs gs = (s : ℕ) (d : SharedHandle) → s < length hs → DidCall (slice_index_or hs s d) (slice_index_or gs s d) at (if place == s then op else None)

-- each handle did what this call is on its span
abbrev pub DidCallOnSpan : Plan → WorkerOp → List SharedHandle → List SharedHandle → Type 0
DidCallOnSpan plan o hs gs = (s : ℕ) (d : SharedHandle) → s < length hs → DidCall (slice_index_or hs s d) (slice_index_or gs s d) o.at (op_on_span plan s o)

-- an exit has an open entry
abbrev pub MayDo : Plan → WorkerOp → List SharedHandle → Type 0
MayDo plan o hs = (s : ℕ) (d : SharedHandle) → s < length hs → op_on_span plan s o ≡ Some Exit → 0 < open_count_of (slice_index_or hs s d)

-- ---- while a worker works

-- The handle g, which was h at first, did a part of all that it is asked, and this is left.
pub record IsAtWork (k : ℕ) (all left : List Ask) (h g : SharedHandle) : Type 0 where
  pub span : g.span ≡ h.span
  pub number : g.number ≡ k
  pub origin : g.view.origin ≡ h.view.origin
  pub asked : List Ask
  pub whole : asked ++ left ≡ all
  pub follows : FollowsAsks k h.view.origin.made_at asked (entries g.view.seen)
  pub own_entries : entries_by k (entries g.view.seen) ≡ g.view.mine
  pub balanced : is_balanced left (open_count_of g) ≡ true

-- what a worker is asked on the span of a handle, by the calls of a list
abbrev pub asks_of : Plan → Option ℕ → ℕ → SharedHandle → List WorkerOp → List Ask
asks_of plan last s h ops = asks_on plan s (release_moment h.view.origin.made_at last) ops

abbrev pub AllAtWork : Plan → ℕ → Option ℕ → List WorkerOp → List WorkerOp → List SharedHandle → List SharedHandle → Type 0
AllAtWork plan k last all left hs gs =
    (s : ℕ) (d : SharedHandle) → s < length hs
    → IsAtWork k (asks_of plan last s (slice_index_or hs s d) all) (asks_of plan last s (slice_index_or hs s d) left) (slice_index_or hs s d) (slice_index_or gs s d)

-- ---- when it is done

-- the spans of these handles were made at the moments of the plan
abbrev pub AreMadeAsPlanned : Plan → List SharedHandle → Type 0
AreMadeAsPlanned plan hs =
    (length plan.shared ≡ length hs)
    × ((s : ℕ) (d : SharedHandle) (l : SharedLine) → s < length hs → ((slice_index_or plan.shared s l).at ≡ (slice_index_or hs s d).view.origin.made_at) × ((slice_index_or plan.shared s l).at ≤ GREATEST))

-- the plan has so many shared spans, and none is made too late
abbrev pub SpanMomentsInRange : Plan → ℕ → Type 0
SpanMomentsInRange plan n = (length plan.shared ≡ n) × ((s : ℕ) (l : SharedLine) → s < n → (slice_index_or plan.shared s l).at ≤ GREATEST)

-- what the release of a handle leaves
pub record WasReleased (h : SharedHandle) (r : Released) (at : ℕ) : Type 0 where
  pub span : r.pass.span ≡ h.span
  pub made : MakesEntry h.view r.pass.view h.number at Release
  pub closed : ClosedAs h.view.origin (entries r.pass.view.seen) r.closed

-- the handles were released, if none had an entry open
abbrev pub AllReleased : Plan → Option ℕ → List SharedHandle → List Released → Type 0
AllReleased plan last hs rs =
    (s : ℕ) (d : SharedHandle) (e : Released) (l : SharedLine) → s < length hs → open_count_of (slice_index_or hs s d) ≡ 0
    → WasReleased (slice_index_or hs s d) (slice_index_or rs s e) (release_moment (slice_index_or plan.shared s l).at last)

-- What is left of the handle k of a span, which did all that it was asked.
pub record IsLeft (k : ℕ) (all : List Ask) (of_span : TableId) (making : Making) (r : Released) : Type 0 where
  pub span : r.pass.span ≡ of_span
  pub origin : r.pass.view.origin ≡ making
  pub follows : FollowsAsks k making.made_at all (entries r.pass.view.seen)
  pub ended : has_end k (entries r.pass.view.seen) ≡ true
  pub legal : IsLegal making.made_at (entries r.pass.view.seen)
  pub closed : ClosedAs making (entries r.pass.view.seen) r.closed

abbrev pub AllLeft : Plan → ℕ → List WorkerOp → List SharedHandle → List Released → Type 0
AllLeft plan k ops hs rs =
    (s : ℕ) (d : SharedHandle) (e : Released) → s < length hs
    → IsLeft k (asks_of plan (last_moment ops) s (slice_index_or hs s d) ops) (slice_index_or hs s d).span (slice_index_or hs s d).view.origin (slice_index_or rs s e)

-- a worker that hasn't begun
pub record IsReadyWorker (plan : Plan) (k : ℕ) (ops : List WorkerOp) (last : Option ℕ) (hs : List SharedHandle) : Type 0 where
  pub timed : MomentsInRange ops
  pub last_is : last ≡ last_moment ops
  pub made : AreMadeAsPlanned plan hs
  pub begins : AllAtWork plan k (last_moment ops) ops ops hs hs
