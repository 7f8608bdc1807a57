-- Tasks that were begun, one more.
use Rattle.std.proofs.Common.{◌≡◌, ◌≢◌, ℕ, ◌+◌, ◌<◌, ◌≤◌, ◌^◌, List, [], ◌∷◌, ◌++◌, length, Bool, Option, Some, None, Result, Ok, Err, refl, sym, ap, subst, ◌∙◌, arith, sum_by, append_assoc, inl, inr, IfOk, IfErr, OnErr}
use Rattle.std.proofs.lemmas.List.{append-nil, length_push}
use Rattle.otel_base.specs.declared.enter_error.EnterError.TheVariants as faults
use Rattle.trace_tasks.proofs.Common.{sum_by-cons, EnterError, Callsite, Lane, LevelFilter, SubscriberCall, WorldValue, Span, Spans, span_at, made_if_held, spans_in, Handle, HeldSpan, id_of, Instrumented, PartCall, Request, on_first_lane, TaskFuture, Task, Begins, AreBegun, RunsTasks, TaskScene, Carries, UnfinishedTask, yield_count, polls_left, poll_count, tasks_at_first, makings, moment_of, rounds_requests, untouched, turns_requests, DropsAll, leaving_requests, StopsTurns, StopsBeginning, IsPartOfPoll, IsFrontOf, GaveUp, IsAloneAs, ReadyToPoll, dispatch_serving, Waits, AllWait, AllKnownAndApart, AllStand, TakesTurns, polls_in}
use Rattle.span_handles.specs.Knowing.{KeepsHandles}
use Rattle.span_script.specs.declared.request.Call.TheVariants as call
use Rattle.span_script.specs.declared.request.RequestParent.TheVariants as request_parent
use Rattle.trace_tasks.proofs.polls.CarriesLemmas.{carry_then}
use Rattle.trace_tasks.proofs.polls.EntryLemmas.{get_push, get_before}
use Rattle.trace_tasks.proofs.queues.LeftHandlesLemmas.{closing_first, closed_all}
use Rattle.trace_tasks.proofs.queues.QueueLemmas.{stand_push, apart_push}
use Rattle.trace_tasks.proofs.tapes.RoundsLemmas.{rounds_are_turns}

-- what holds anyway holds at an error
pub on_err : {A E : Type 0} (r : Result A E) (P : Type 0) → P → OnErr r P
on_err (Ok x) P p = tt
on_err (Err e) P p = p

-- with a handle more the tasks stand where they stood
stand_more : (handles : List Handle) (h : Handle) (ts : List UnfinishedTask) (fs : List (Instrumented TaskFuture)) → AllStand handles ts fs → AllStand (handles ++ h ∷ []) ts fs
stand_more handles h [] [] all = tt
stand_more handles h [] (f ∷ fs) all = absurd all
stand_more handles h (t ∷ ts) [] all = absurd all
stand_more handles h (t ∷ ts) (f ∷ fs) all = (record { handle = get_before handles h f.span t.number all.0.handle; site = all.0.site; steps = all.0.steps }, stand_more handles h ts fs all.1)

begun_end : (n : ℕ) (tasks : List Task) (task : Task) → tasks_at_first n (tasks ++ task ∷ []) ≡ tasks_at_first n tasks ++ record { number = n + length tasks; site = task.site; steps = task.steps } ∷ []
begun_end n [] task = (let e : n ≡ n + 0 = omega arith in ap (λ (m : ℕ). let t : UnfinishedTask = record { number = m; site = task.site; steps = task.steps } in t ∷ []) e)
begun_end n (x ∷ tasks) task =
    let t : UnfinishedTask = record { number = n; site = x.site; steps = x.steps } in
    let e : n + 1 + length tasks ≡ n + length (x ∷ tasks) = omega arith in
    ap (λ (ts : List UnfinishedTask). t ∷ ts) (begun_end (n + 1) tasks task ∙ ap (λ (m : ℕ). let u : UnfinishedTask = record { number = m; site = task.site; steps = task.steps } in tasks_at_first (n + 1) tasks ++ u ∷ []) e)

makings_end : (tasks : List Task) (task : Task) → makings (tasks ++ task ∷ []) ≡ makings tasks ++ on_first_lane 0 (call.New task.site request_parent.Contextual task.fields) ∷ []
makings_end [] task = refl
makings_end (x ∷ tasks) task = ap (λ (rs : List Request). on_first_lane 0 (call.New x.site request_parent.Contextual x.fields) ∷ rs) (makings_end tasks task)

makings_both : (first others : List Task) → makings (first ++ others) ≡ makings first ++ makings others
makings_both [] others = refl
makings_both (x ∷ first) others = ap (λ (rs : List Request). on_first_lane 0 (call.New x.site request_parent.Contextual x.fields) ∷ rs) (makings_both first others)

module _ {S : Type 0} (spans : S → Spans) where
  -- the span of a task that waits is there
  below : (world : WorldValue S) (d site : ℕ) (held : HeldSpan) (id : ℕ) → IsAloneAs (spans_in spans world d).made d site held → id_of held ≡ Some id → id < length (spans_in spans world d).made
  below world d site None id lone is = absurd (cc is)
  below world d site (Some h) id lone is =
      let same : h.1 ≡ id = cc is in
      let some : 0 < (span_at (spans_in spans world d).made h.1).holds = (let e = ap (λ (x : Span). x.holds) lone.1 in omega (arith, e)) in
      let there = made_if_held (spans_in spans world d).made h.1 some in
      omega (arith, same, there)

  lone_stays : (old new : WorldValue S) (d site : ℕ) (held : HeldSpan) → ((q : ℕ) → q < length (spans_in spans old d).made → span_at (spans_in spans new d).made q ≡ span_at (spans_in spans old d).made q)
      → IsAloneAs (spans_in spans old d).made d site held → IsAloneAs (spans_in spans new d).made d site held
  lone_stays old new d site None stay lone = tt
  lone_stays old new d site (Some h) stay lone = (lone.0, stay h.1 (below old d site (Some h) h.1 lone refl) ∙ lone.1)

  module _ (old new : WorldValue S) (d : ℕ) (f : Instrumented TaskFuture) (keeps : KeepsHandles spans old new) (stay : (q : ℕ) → q < length (spans_in spans old d).made → span_at (spans_in spans new d).made q ≡ span_at (spans_in spans old d).made q)
      (fresh : (id : ℕ) → id_of f.span.held ≡ Some id → length (spans_in spans old d).made ≤ id) (one : Waits spans new d f) where
    pub wait_end : (fs : List (Instrumented TaskFuture)) → AllWait spans old d fs → AllWait spans new d (fs ++ f ∷ [])
    wait_end [] all = (one, tt, tt)
    wait_end (g ∷ fs) all = (
      record {
        known = keeps.known g.span.held all.0.known;
        site = all.0.site;
        lone = record { site_is = all.0.lone.site_is; held_is = lone_stays old new d all.0.site g.span.held stay all.0.lone.held_is };
      },
      apart_push g fs f all.1 (λ id is other. (let a = below old d all.0.site g.span.held id all.0.lone.held_is is in let b = fresh id other in absurd (omega (arith, a, b)))),
      wait_end fs all.2,
    )

  pub known_stays : (old new : WorldValue S) (fs : List (Instrumented TaskFuture)) → KeepsHandles spans old new → AllKnownAndApart spans old fs → AllKnownAndApart spans new fs
  known_stays old new [] keeps all = tt
  known_stays old new (f ∷ fs) keeps all = (keeps.known f.span.held all.0, all.1, known_stays old new fs keeps all.2)

module _ {S : Type 0} (spans : S → Spans) (hint : S → Option LevelFilter) (enables : S → ℕ → Callsite → Bool) (kept : S → ℕ → ℕ → ℕ) (is_whole : S → Type 0) (does : S → SubscriberCall → S → Type 0) (touches : S → PartCall → S → Type 0) where
  -- one task more
  pub one_more_begun : (tasks : List Task) (task : Task) (lane : Lane) (old world new : WorldValue S) (fs : List (Instrumented TaskFuture)) (f : Instrumented TaskFuture) → AreBegun spans hint enables kept is_whole does touches tasks lane old world fs
      → Begins spans hint enables kept is_whole does touches task lane world new f → KeepsHandles spans world new → AreBegun spans hint enables kept is_whole does touches (tasks ++ task ∷ []) lane old new (fs ++ f ∷ [])
  one_more_begun tasks task lane old world new fs f so_far one keeps =
      let d : ℕ = dispatch_serving lane in
      let handles : List Handle = so_far.handles ++ f.span ∷ [] in
      let last : UnfinishedTask = record { number = 0 + length tasks; site = task.site; steps = task.steps } in
      record {
        handles = handles;
        count = (let a = length_push so_far.handles f.span in let b = length_push tasks task in let c = so_far.count in omega (arith, a, b, c));
        stand = subst (λ (ts : List UnfinishedTask). AllStand handles ts (fs ++ f ∷ [])) (sym (begun_end 0 tasks task)) (stand_push handles (tasks_at_first 0 tasks) fs last f (stand_more so_far.handles f.span (tasks_at_first 0 tasks) fs so_far.stand) (record {
          handle = get_push so_far.handles f.span (0 + length tasks) (let c = so_far.count in omega (arith, c));
          site = one.site;
          steps = sym one.steps;
        }));
        wait = wait_end spans world new d f keeps one.stay one.fresh (record { known = one.known; site = task.site; lone = one.lone }) fs so_far.wait;
        ready = one.ready;
        sites = one.sites ∙ so_far.sites;
        few = (let a = so_far.few in let b = one.count in let c = length_push tasks task in omega (arith, a, b, c));
        carried = subst (λ (rs : List Request). Carries spans hint enables does touches d rs (record { world = old; lane = lane; handles = []; guards = [] }) (record { world = new; lane = lane; handles = handles; guards = [] })) (sym (makings_end tasks task))
            (carry_then spans hint enables does touches d (makings tasks) (on_first_lane 0 (call.New task.site request_parent.Contextual task.fields) ∷ []) (record { world = old; lane = lane; handles = []; guards = [] }) (record { world = world; lane = lane; handles = so_far.handles; guards = [] }) (record { world = new; lane = lane; handles = handles; guards = [] })
            so_far.carried (record { world = new; lane = lane; handles = handles; guards = [] }, one.made so_far.handles [], refl));
      }

  -- no task yet
  pub none_begun : (lane : Lane) (old : WorldValue S) → ReadyToPoll spans kept is_whole old lane → AreBegun spans hint enables kept is_whole does touches [] lane old old []
  none_begun lane old ready = record { handles = []; count = refl; stand = tt; wait = tt; ready = ready; sites = refl; few = omega arith; carried = refl }

-- as many polls as the tasks take
same_polls : (handles : List Handle) (ts : List UnfinishedTask) (fs : List (Instrumented TaskFuture)) → AllStand handles ts fs → poll_count ts ≡ polls_in fs
same_polls handles [] [] all = refl
same_polls handles [] (f ∷ fs) all = absurd all
same_polls handles (t ∷ ts) [] all = absurd all
same_polls handles (t ∷ ts) (f ∷ fs) all = (
    let a = sum_by-cons polls_left t ts in
    let b = sum_by-cons (λ (g : Instrumented TaskFuture). yield_count g.inner.steps.items + 1) f fs in
    let e = ap yield_count all.0.steps in
    let r = same_polls handles ts fs all.1 in
    omega (arith, a, b, e, r))

-- of tasks none of which is begun
front_of : (tasks : List Task) → tasks ≢ [] → IsFrontOf [] tasks
front_of [] some = absurd (some refl)
front_of (t ∷ tasks) some = (t, tasks, refl)

module _ {S : Type 0} (spans : S → Spans) (hint : S → Option LevelFilter) (enables : S → ℕ → Callsite → Bool) (kept : S → ℕ → ℕ → ℕ) (is_whole : S → Type 0) (does : S → SubscriberCall → S → Type 0) (touches : S → PartCall → S → Type 0) where
  pub few_polls : (tasks : List Task) (lane : Lane) (old world : WorldValue S) (fs : List (Instrumented TaskFuture)) → AreBegun spans hint enables kept is_whole does touches tasks lane old world fs → poll_count (tasks_at_first 0 tasks) < 2 ^ 60 → polls_in fs < 2 ^ 60
  few_polls tasks lane old world fs all few = (let e = same_polls all.handles (tasks_at_first 0 tasks) fs all.stand in omega (arith, e, few))

  -- the makings and the turns are the flat list
  pub ran : (sites : List Callsite) (tasks : List Task) (lane later : Lane) (old world new : WorldValue S) (fs : List (Instrumented TaskFuture)) (result : Result ℕ EnterError) → old.sites ≡ sites → AreBegun spans hint enables kept is_whole does touches tasks lane old world fs
      → IfOk result (λ polls. (handles : List Handle) (ts : List UnfinishedTask) → AllStand handles ts fs → TakesTurns spans hint enables does touches handles ts world new lane later polls)
      → IfOk result (λ polls. RunsTasks spans hint enables does touches sites tasks old new lane later polls)
  ran sites tasks lane later old world new fs (Err e) same all turned = tt
  ran sites tasks lane later old world new fs (Ok polls) same all turned =
      let ts : List UnfinishedTask = tasks_at_first 0 tasks in
      let taken = turned all.handles ts all.stand in
      let start : TaskScene S = record { world = old; lane = lane; handles = []; guards = [] } in
      let middle : TaskScene S = record { world = world; lane = lane; handles = all.handles; guards = [] } in
      let end : TaskScene S = record { world = new; lane = later; handles = all.handles; guards = taken.guards } in
      let rest : Carries spans hint enables does touches (dispatch_serving lane) (rounds_requests sites (poll_count ts) 0 ts) middle end =
      subst (λ (rs : List Request). Carries spans hint enables does touches (dispatch_serving lane) rs middle end) (sym (rounds_are_turns sites (poll_count ts) 0 ts (omega arith)))
      (subst (λ (xs : List Callsite). Carries spans hint enables does touches (dispatch_serving lane) (turns_requests xs (poll_count ts) 0 ts) middle end) (all.sites ∙ same) taken.carried) in
      record {
        answer = taken.polled;
        handles = all.handles;
        guards = taken.guards;
        carried = carry_then spans hint enables does touches (dispatch_serving lane) (makings tasks) (rounds_requests sites (poll_count ts) 0 ts) start middle end all.carried rest;
      }

  -- a run that was refused in a poll
  pub gave_up_polls : (activates : S → ℕ → Bool) (same : S → S → Type 0) (sites : List Callsite) (tasks : List Task) (lane later : Lane) (old world new : WorldValue S) (fs : List (Instrumented TaskFuture)) (e : EnterError) → old.sites ≡ sites
      → AreBegun spans hint enables kept is_whole does touches tasks lane old world fs
      → ((handles : List Handle) (ts : List UnfinishedTask) → AllStand handles ts fs → StopsTurns spans hint enables activates does touches same (dispatch_serving lane) world.sites ts e (record { world = world; lane = lane; handles = handles; guards = [] }) new later)
      → GaveUp spans hint enables activates does touches same (dispatch_serving lane) sites tasks e (record { world = old; lane = lane; handles = []; guards = [] }) new later
  gave_up_polls activates same sites tasks lane later old world new fs e is all stops =
      let d : ℕ = dispatch_serving lane in
      let ts : List UnfinishedTask = tasks_at_first 0 tasks in
      let start : TaskScene S = record { world = old; lane = lane; handles = []; guards = [] } in
      let middle : TaskScene S = record { world = world; lane = lane; handles = all.handles; guards = [] } in
      let stop : StopsTurns spans hint enables activates does touches same d sites ts e middle new later =
      subst (λ (xs : List Callsite). StopsTurns spans hint enables activates does touches same d xs ts e middle new later) (all.sites ∙ is) (stops all.handles ts all.stand) in
      let st = stop.stopped in
      let front : List Request = turns_requests sites stop.polls 0 ts in
      record {
        first = tasks;
        polls = stop.polls;
        part = stop.part;
        others = stop.others;
        within = append_assoc (makings tasks ++ front) stop.part stop.others ∙ append_assoc (makings tasks) front (stop.part ++ stop.others)
            ∙ ap (λ (rs : List Request). makings tasks ++ rs) (sym (append_assoc front stop.part stop.others) ∙ stop.within ∙ sym (rounds_are_turns sites (poll_count ts) 0 ts (omega arith)));
        at = moment_of stop.polls;
        moment = inl (refl, refl, subst (λ (us : List UnfinishedTask). IsPartOfPoll sites stop.polls us stop.part) (sym stop.next) stop.in_poll);
        not_entered = stop.not_entered;
        full_at_call = stop.full_at_first;
        stopped = record {
          here = st.here;
          carried = subst (λ (rs : List Request). Carries spans hint enables does touches d rs start st.here) (sym (append_assoc (makings tasks) front stop.part)) (carry_then spans hint enables does touches d (makings tasks) (front ++ stop.part) start middle st.here all.carried st.carried);
          failed = st.failed;
          fails = st.fails;
          guards = st.guards;
          closed = subst (λ (xs : List UnfinishedTask). Carries spans hint enables does touches d (leaving_requests (moment_of stop.polls) stop.polls stop.part xs) st.failed (record { world = new; lane = later; handles = st.failed.handles; guards = st.guards })) (sym stop.next) st.closed;
          full = st.full;
        };
      }

  -- a run that was refused as it made spans
  pub gave_up_begun : (activates : S → ℕ → Bool) (same : S → S → Type 0) (sites : List Callsite) (tasks : List Task) (lane : Lane) (old world new : WorldValue S) (fs : List (Instrumented TaskFuture))
      → StopsBeginning spans hint enables kept is_whole does touches same tasks lane old world fs
      → DropsAll spans hint enables does touches 0 fs world new
      → GaveUp spans hint enables activates does touches same (dispatch_serving lane) sites tasks faults.Memory (record { world = old; lane = lane; handles = []; guards = [] }) new lane
  gave_up_begun activates same sites tasks lane old world new fs stop closes =
      let d : ℕ = dispatch_serving lane in
      let b = stop.so_far in
      let made : List Request = makings stop.first in
      let behind : List Task = stop.within.0 ∷ stop.within.1 in
      let ts : List UnfinishedTask = tasks_at_first 0 tasks in
      let later : List Request = rounds_requests sites (poll_count ts) 0 ts in
      let start : TaskScene S = record { world = old; lane = lane; handles = []; guards = [] } in
      let middle : TaskScene S = record { world = stop.world; lane = lane; handles = b.handles; guards = [] } in
      let none : (made ++ []) ++ [] ≡ made = append-nil (made ++ []) ∙ append-nil made in
      record {
        first = stop.first;
        polls = 0;
        part = [];
        others = makings behind ++ later;
        within = ap (λ (rs : List Request). rs ++ (makings behind ++ later)) none ∙ sym (append_assoc made (makings behind) later)
            ∙ ap (λ (rs : List Request). rs ++ later) (sym (makings_both stop.first behind) ∙ ap makings stop.within.2);
        at = 0;
        moment = inr (refl, refl, refl, refl, stop.within);
        not_entered = λ is_full. refl;
        full_at_call = λ is_full. absurd (cc is_full);
        stopped = record {
          here = middle;
          carried = subst (λ (rs : List Request). Carries spans hint enables does touches d rs start middle) (sym none) b.carried;
          failed = record { world = world; lane = lane; handles = b.handles; guards = [] };
          fails = record { world = stop.wants; lane = record { id = refl; name = refl; default = refl; live = refl }; handles = refl; guards = refl };
          guards = [];
          closed = closes b.handles (tasks_at_first 0 stop.first) b.stand d lane [];
          full = λ is_full. absurd (cc is_full);
        };
      }

  -- a run that was refused before it made a span
  pub gave_up_first : (activates : S → ℕ → Bool) (same : S → S → Type 0) (sites : List Callsite) (tasks : List Task) (lane : Lane) (world : WorldValue S) → tasks ≢ [] → ReadyToPoll spans kept is_whole world lane
      → GaveUp spans hint enables activates does touches same (dispatch_serving lane) sites tasks faults.Memory (record { world = world; lane = lane; handles = []; guards = [] }) world lane
  gave_up_first activates same sites tasks lane world some ready =
      gave_up_begun activates same sites tasks lane world world world [] (record { first = []; within = front_of tasks some; world = world; so_far = none_begun spans hint enables kept is_whole does touches lane world ready; wants = untouched refl })
      (λ handles ts stand. closed_all spans hint enables does touches 0 [] [] world world handles ts refl (closing_first spans hint enables does touches 0 [] world handles ts stand))

  pub gave_up_if : (activates : S → ℕ → Bool) (same : S → S → Type 0) (sites : List Callsite) (tasks : List Task) (lane later : Lane) (old world new : WorldValue S) (fs : List (Instrumented TaskFuture)) (result : Result ℕ EnterError) → old.sites ≡ sites
      → AreBegun spans hint enables kept is_whole does touches tasks lane old world fs
      → IfErr result (λ e. (handles : List Handle) (ts : List UnfinishedTask) → AllStand handles ts fs → StopsTurns spans hint enables activates does touches same (dispatch_serving lane) world.sites ts e (record { world = world; lane = lane; handles = handles; guards = [] }) new later)
      → IfErr result (λ e. GaveUp spans hint enables activates does touches same (dispatch_serving lane) sites tasks e (record { world = old; lane = lane; handles = []; guards = [] }) new later)
  gave_up_if activates same sites tasks lane later old world new fs (Ok polls) is all stops = tt
  gave_up_if activates same sites tasks lane later old world new fs (Err e) is all stops = gave_up_polls activates same sites tasks lane later old world new fs e is all stops

-- one poll for each task and one for each yield
pub answer_is : (n : ℕ) (tasks : List Task) → poll_count (tasks_at_first n tasks) ≡ sum_by (λ t. yield_count t.steps) tasks + length tasks
answer_is n [] = refl
answer_is n (t ∷ tasks) = (
    let u : UnfinishedTask = record { number = n; site = t.site; steps = t.steps } in
    let a = sum_by-cons polls_left u (tasks_at_first (n + 1) tasks) in
    let b = sum_by-cons (λ (x : Task). yield_count x.steps) t tasks in
    let r = answer_is (n + 1) tasks in
    omega (arith, a, b, r))

pub answered : {S : Type 0} (spans : S → Spans) (hint : S → Option LevelFilter) (enables : S → ℕ → Callsite → Bool) (does : S → SubscriberCall → S → Type 0) (touches : S → PartCall → S → Type 0)
    (sites : List Callsite) (tasks : List Task) (old new : WorldValue S) (lane later : Lane) (result : Result ℕ EnterError) → IfOk result (λ polls. RunsTasks spans hint enables does touches sites tasks old new lane later polls)
    → IfOk result (λ polls. polls ≡ sum_by (λ t. yield_count t.steps) tasks + length tasks)
answered spans hint enables does touches sites tasks old new lane later (Ok polls) ran = ran.answer ∙ answer_is 0 tasks
answered spans hint enables does touches sites tasks old new lane later (Err e) ran = tt
