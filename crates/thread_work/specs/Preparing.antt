-- Workers before they have handles.
use Rattle.std.specs.Prelude.{◌≡◌, ℕ, ◌≤◌, List, [], ◌∷◌, vec_capacity}
use Rattle.thread_script.specs.declared.script.ThreadScript.{ThreadScript}
use Rattle.thread_script.specs.Plans.{last_moment, plan_of}
use Rattle.thread_handles.specs.declared.job.Job.{Job}
use Rattle.thread_work.specs.declared.prepare.Prepared.{Prepared}
use Rattle.thread_work.specs.Jobs.{lists_of, gates_of}
use Rattle.thread_work.specs.Spans.{HasRoomFor}

-- a worker that has no handle yet, and room for so many
pub record IsUnstarted {G : Type 0} (count : ℕ) (job : Job G) : Type 0 where
  pub room : HasRoomFor count job
  pub last : job.last ≡ last_moment job.ops.items

abbrev pub AllUnstarted : {G : Type 0} → ℕ → List (Job G) → Type 0
AllUnstarted count [] = Unit {0}
AllUnstarted count (job ∷ jobs) = IsUnstarted count job × AllUnstarted count jobs

-- what is made for a script, its gates and so many shared spans
pub record WasPrepared {G : Type 0} (count : ℕ) (script : ThreadScript) (given : List G) (p : Prepared G) : Type 0 where
  pub plan : p.plan ≡ plan_of script
  pub unstarted : AllUnstarted count p.jobs.items
  pub lists : lists_of p.jobs.items ≡ script.workers
  pub gates : gates_of p.jobs.items ≡ given
  pub no_firsts : p.firsts.items ≡ []
  pub no_ended : p.ended.items ≡ []
  pub firsts_room : count ≤ vec_capacity p.firsts
  pub ended_room : count ≤ vec_capacity p.ended
