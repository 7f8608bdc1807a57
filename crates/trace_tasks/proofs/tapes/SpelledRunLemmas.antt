-- A run over a new tape spells the flat list.
use Rattle.std.proofs.Common.{◌≡◌, ℕ, zero, suc, ◌+◌, ◌<◌, ◌^◌, List, [], ◌∷◌, ◌++◌, true, false, Some, None, refl, sym, ap, subst, ◌∙◌, arith, slice_get, append_assoc}
use Rattle.std.proofs.lemmas.Bool.{true≢false}
use Rattle.std.proofs.lemmas.List.{append-nil}
use Rattle.otel_base.specs.declared.enter_error.EnterError.TheVariants as faults
use Rattle.trace_tasks.proofs.Common.{Callsite, Lane, WorldValue, Request, TapeValue, DoesTape, TouchesTape, steps_left, TaskScene, UnfinishedTask, poll_requests, after_poll, requeue, turns_requests, rounds_requests, tasks_at_first, makings, poll_count, flat_list, tape_spans, CarriesTape, TasksAreDeclared, IsNewTape, KeepsOnTape, RunsTasks, GaveUp, ReadyToPoll, dispatch_serving, Task}
use Rattle.trace_tasks.specs.TapeTurns.{BetweenPolls, AllCanBePolled}
use Rattle.trace_tasks.proofs.tapes.PollsLemmas.{poll_spells, split}
use Rattle.trace_tasks.proofs.tapes.RoundsLemmas.{rounds_are_turns}
use Rattle.trace_tasks.proofs.tapes.RunsLemmas.{tasks_after, makings_spell, none_made}

-- turns spell their requests
turns_spell : (d : ℕ) (sites : List Callsite) (n k : ℕ) (ts : List UnfinishedTask) (s m : TaskScene TapeValue) (tape : TapeValue) → k + n < 2 ^ 63 → BetweenPolls d sites k s tape → AllCanBePolled d sites s tape ts → CarriesTape d (turns_requests sites n k ts) s m
    → (now : TapeValue) × (slice_get m.world.subscribers d ≡ Some now) × (now.requests ≡ tape.requests ++ turns_requests sites n k ts)
turns_spell d sites zero k ts s m tape few between all did = (tape, ap (λ (x : TaskScene TapeValue). slice_get x.world.subscribers d) did ∙ between.there, sym (append-nil tape.requests))
turns_spell d sites (suc n) k [] s m tape few between all did = (tape, ap (λ (x : TaskScene TapeValue). slice_get x.world.subscribers d) did ∙ between.there, sym (append-nil tape.requests))
turns_spell d sites (suc n) k (t ∷ ts) s m tape few between all did =
    let parts = split d (poll_requests sites k t) (turns_requests sites n (k + 1) (requeue ts (after_poll t))) s m did in
    let p = poll_spells d sites k t (omega (arith, few)) all.0.callsite all.0.is all.0.tested s parts.0 tape between all.0.waits parts.1 in
    let rest = turns_spell d sites n (k + 1) (requeue ts (after_poll t)) parts.0 m p.now (omega (arith, few)) p.between (tasks_after d sites k t s parts.0 tape p ts all (steps_left t.steps) refl) parts.2 in
    (rest.0, rest.1, rest.2 ∙ ap (λ (qs : List Request). qs ++ turns_requests sites n (k + 1) (requeue ts (after_poll t))) p.requests ∙ append_assoc tape.requests (poll_requests sites k t) (turns_requests sites n (k + 1) (requeue ts (after_poll t))))

-- a run over a new tape leaves the flat list
pub run_spells : (tasks : List Task) (old new : WorldValue TapeValue) (before later : Lane) (tape : TapeValue) (polls : ℕ) → IsNewTape old (dispatch_serving before) tape → ReadyToPoll tape_spans (λ s lane number. 0) (λ s. Unit {0}) old before → TasksAreDeclared old.sites tasks → poll_count (tasks_at_first 0 tasks) < 2 ^ 60
    → RunsTasks tape_spans (λ s. None) (λ s lane c. true) DoesTape TouchesTape old.sites tasks old new before later polls → KeepsOnTape (dispatch_serving before) (flat_list old.sites tasks) new
run_spells tasks old new before later tape polls is_new ready tested few ran =
    let d : ℕ = dispatch_serving before in
    let ts : List UnfinishedTask = tasks_at_first 0 tasks in
    let s : TaskScene TapeValue = record { world = old; lane = before; handles = []; guards = [] } in
    let m : TaskScene TapeValue = record { world = new; lane = later; handles = ran.handles; guards = ran.guards } in
    let parts = split d (makings tasks) (rounds_requests old.sites (poll_count ts) 0 ts) s m ran.carried in
    let all = makings_spell d old.sites 0 tasks s parts.0 tape (none_made d old before tape refl is_new ready) tested parts.1 in
    let as_turns : rounds_requests old.sites (poll_count ts) 0 ts ≡ turns_requests old.sites (poll_count ts) 0 ts = rounds_are_turns old.sites (poll_count ts) 0 ts (omega arith) in
    let end = turns_spell d old.sites (poll_count ts) 0 ts parts.0 m all.now (omega (arith, few)) all.between all.waiting (subst (λ (rs : List Request). CarriesTape d rs parts.0 m) as_turns parts.2) in (
      end.0,
      end.1,
      end.2 ∙ ap (λ (qs : List Request). qs ++ turns_requests old.sites (poll_count ts) 0 ts) (all.requests ∙ ap (λ (qs : List Request). qs ++ makings tasks) is_new.no_requests) ∙ ap (λ (rs : List Request). makings tasks ++ rs) (sym as_turns),
    )

-- a tape attaches nothing, so no lane is full for it
pub never_full : (d : ℕ) (sites : List Callsite) (tasks : List Task) (s : TaskScene TapeValue) (new : WorldValue TapeValue) (later : Lane) → GaveUp tape_spans (λ s. None) (λ s lane c. true) (λ s id. false) DoesTape TouchesTape (λ s t. t ≡ s) d sites tasks faults.Full s new later → ⊥
never_full d sites tasks s new later gave = (let full = gave.stopped.full refl in absurd (true≢false (sym full.attaches)))
