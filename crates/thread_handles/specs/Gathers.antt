-- What the releases of a span's handles tell together.
use Rattle.std.specs.Prelude.{◌≡◌, ℕ, ◌+◌, ◌<◌, List, [], ◌∷◌, true, Option, Some, None}
use mathlib.Core.List.{IsPrefix}
use Rattle.atomic_table.specs.Seated.{TableId}
use Rattle.trace_threads.specs.declared.making.Making.{Making}
use Rattle.trace_threads.specs.declared.history.Entry.{Entry}
use Rattle.trace_threads.specs.declared.handle.Released.{Released}
use Rattle.trace_threads.specs.History.{IsLegal, has_end}
use Rattle.trace_threads.specs.Shared.{content_of}
use Rattle.trace_threads.specs.Turns.{entries}
use Rattle.trace_threads.specs.Handles.{ClosedAs}
use Rattle.thread_script.specs.Asks.{Ask, FollowsAsks, clone_entries, DoesAll}
use Rattle.thread_handles.specs.declared.gather.Ended.{Ended}

abbrev pub first_some : {X : Type 0} → Option X → Option X → Option X
first_some None y = y
first_some (Some x) y = Some x

-- two releases of one span, joined
pub record IsMet (one other r : Released) : Type 0 where
  pub span : r.pass.span ≡ one.pass.span
  pub origin : r.pass.view.origin ≡ one.pass.view.origin
  pub legal : IsLegal one.pass.view.origin.made_at (entries r.pass.view.seen)
  pub ours : IsPrefix one.pass.view.seen r.pass.view.seen
  pub theirs : IsPrefix other.pass.view.seen r.pass.view.seen
  pub closed : r.closed ≡ first_some one.closed other.closed

-- The releases of handle 0 and of the first n workers' handles, joined. `longest` is the longest list of entries that a
-- release saw.
pub record GathersReleases (of_span : TableId) (making : Making) (count n : ℕ) (parts : ℕ → List Ask) (r : Released) : Type 0 where
  pub span : r.pass.span ≡ of_span
  pub origin : r.pass.view.origin ≡ making
  pub legal : IsLegal making.made_at (entries r.pass.view.seen)
  pub longest : List Entry
  pub within : IsPrefix longest (entries r.pass.view.seen)
  pub begins : IsPrefix (clone_entries making.made_at count) longest
  pub closed : ClosedAs making longest r.closed
  pub each : (w : ℕ) → w < n → FollowsAsks (w + 1) making.made_at (parts w) (entries r.pass.view.seen) × (has_end (w + 1) longest ≡ true)

-- What is answered of a shared span: a history that does what was asked, its content, and a pass of that very span
-- which has seen just that history.
pub record IsEnded (of_span : TableId) (making : Making) (count : ℕ) (parts : ℕ → List Ask) (e : Ended) : Type 0 where
  pub span : e.pass.span ≡ of_span
  pub origin : e.pass.view.origin ≡ making
  pub seen : entries e.pass.view.seen ≡ e.history
  pub content : e.finished ≡ content_of making e.history
  pub does : DoesAll making.made_at count parts e.history

-- releases joined one after another
abbrev pub MetAll : Released → List Released → Released → Type 0
MetAll r [] u = u ≡ r
MetAll r (o ∷ os) u = (m : Released) × IsMet r o m × MetAll m os u
