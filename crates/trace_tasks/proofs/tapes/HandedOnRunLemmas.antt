-- A run over a new tape hands the flat list on.
use Rattle.std.proofs.Common.{◌≡◌, ℕ, ◌+◌, List, [], ◌++◌, length, true, None, Result, Ok, Err, sym, ap, subst, ◌∙◌, arith, IfOk}
use Rattle.std.specs.Prelude.{sum_by}
use Rattle.trace_tasks.proofs.Common.{EnterError, Callsite, Lane, WorldValue, Instrumented, TaskFuture, Request, TapeValue, DoesTape, TouchesTape, Task, yield_count, poll_count, tasks_at_first, makings, rounds_requests, turns_requests, flat_list, TasksAreDeclared, IsNewTape, tape_spans, ReadyToPoll, dispatch_serving, AreBegun}
use Rattle.trace_tasks.specs.TapeTurns.{WaitOnTape, TakesAll, HandsOn, HandsTurnsOn}
use Rattle.trace_tasks.proofs.queues.BegunTasksLemmas.{answer_is}
use Rattle.trace_tasks.proofs.tapes.HandingOnLemmas.{takes_after, waits_emptied, taken_from}
use Rattle.trace_tasks.proofs.tapes.RoundsLemmas.{rounds_are_turns}
use Rattle.trace_tasks.proofs.tapes.RunsLemmas.{begun_spells}

module _ {K : Type 0} (takes : K → Request → K → Type 0) (d : ℕ) (tasks : List Task) (old world next : WorldValue TapeValue) (lane : Lane) (tape : TapeValue) (fs : List (Instrumented TaskFuture)) (start mid : K) (serves : dispatch_serving lane ≡ d) (new : IsNewTape old d tape)
    (ready : ReadyToPoll tape_spans (λ s lane number. 0) (λ s. Unit {0}) old lane) (tested : TasksAreDeclared old.sites tasks)
    (b : AreBegun tape_spans (λ s. None) (λ s lane c. true) (λ s lane number. 0) (λ s. Unit {0}) DoesTape TouchesTape tasks lane old world fs) (h : HandsOn takes d world next start mid) where
  waits : WaitOnTape d old.sites 0 (tasks_at_first 0 tasks) next lane fs
  waits =
      let all = begun_spells d tasks old world lane tape fs serves new ready tested b in
      waits_emptied takes d old.sites world next start mid h lane b.handles [] all.now 0 (tasks_at_first 0 tasks) fs b.stand all.between all.waiting

  taken : TakesAll takes (makings tasks) start mid
  taken =
      let all = begun_spells d tasks old world lane tape fs serves new ready tested b in
      taken_from takes d old.sites world next start mid h lane b.handles [] all.now 0 (makings tasks) all.between (all.requests ∙ ap (λ (rs : List Request). rs ++ makings tasks) new.no_requests)

  turned : (polls : ℕ) (end : K) → HandsTurnsOn takes next.sites (tasks_at_first 0 tasks) polls mid end → next.sites ≡ old.sites → TakesAll takes (flat_list old.sites tasks) start end
  turned polls end turns_on sites =
      let ts = tasks_at_first 0 tasks in
      let later : TakesAll takes (rounds_requests old.sites (poll_count ts) 0 ts) mid end =
      subst (λ (rs : List Request). TakesAll takes rs mid end) (sym (rounds_are_turns old.sites (poll_count ts) 0 ts (omega arith)))
      (subst (λ (xs : List Callsite). TakesAll takes (turns_requests xs (poll_count ts) 0 ts) mid end) sites turns_on.taken) in
      takes_after takes (makings tasks) (rounds_requests old.sites (poll_count ts) 0 ts) start mid end taken later

  same_sites : next.sites ≡ old.sites
  same_sites = ap (λ (w : WorldValue TapeValue). w.sites) h.emptied ∙ b.sites

  waits_there : WaitOnTape d next.sites 0 (tasks_at_first 0 tasks) next lane fs
  waits_there = subst (λ (xs : List Callsite). WaitOnTape d xs 0 (tasks_at_first 0 tasks) next lane fs) (sym same_sites) waits

  pub flat_taken : (result : Result ℕ EnterError) (end : K) → IfOk result (λ polls. (ts : _) → WaitOnTape d next.sites 0 ts next lane fs → HandsTurnsOn takes next.sites ts polls mid end) → IfOk result (λ polls. TakesAll takes (flat_list old.sites tasks) start end)
  flat_taken (Ok polls) end did = turned polls end (did (tasks_at_first 0 tasks) waits_there) same_sites
  flat_taken (Err e) end did = tt

  pub polls_taken : (result : Result ℕ EnterError) (end : K) → IfOk result (λ polls. (ts : _) → WaitOnTape d next.sites 0 ts next lane fs → HandsTurnsOn takes next.sites ts polls mid end) → IfOk result (λ polls. polls ≡ sum_by (λ t. yield_count t.steps) tasks + length tasks)
  polls_taken (Ok polls) end did = (did (tasks_at_first 0 tasks) waits_there).polled ∙ answer_is 0 tasks
  polls_taken (Err e) end did = tt
