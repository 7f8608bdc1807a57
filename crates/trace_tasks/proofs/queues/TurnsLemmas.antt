-- Tasks that take turns, so far.
use Rattle.std.proofs.Common.{◌≡◌, ℕ, suc, ◌+◌, List, [], ◌∷◌, ◌++◌, length, Bool, true, false, Option, Some, Result, Err, IfErr, refl, sym, ap, subst, ◌∙◌, arith, append_assoc}
use Rattle.std.proofs.lemmas.Bool.{true≢false}
use Rattle.std.proofs.lemmas.List.{length_push}
use Rattle.trace_tasks.proofs.Common.{EnterError, Callsite, Lane, LevelFilter, SubscriberCall, WorldValue, Spans, Handle, HeldSpan, IsKnown, Instrumented, PartCall, Request, TaskFuture, Step, TaskScene, Carries, UnfinishedTask, poll_count, drop_at_end, moment_of, on_first_lane, poll_requests, steps_left, after_poll, requeue, turns_requests, dispatch_of_default, dispatch_serving, ReadyToPoll, unfinished_task, PollsTask, AllWait, AllStand, KeepsKnownBut, TakesTurn, TakesTurnIf, TakesTurns, queue_with, polls_in, left_after, exit_if, drops_of_tasks, leaving_requests, StopsInTurn, StopsPoll, StopsTurns, TurnStops, DropsAll, SameAttached}
use Rattle.span_script.specs.declared.request.Call.TheVariants as call
use Rattle.trace_tasks.proofs.polls.AttachedLemmas.{as_many_live}
use Rattle.trace_tasks.proofs.polls.CarriesLemmas.{carry_then}
use Rattle.trace_tasks.proofs.queues.QueueLemmas.{polls_after, left_less, stand_after, wait_after}
use Rattle.trace_tasks.proofs.tapes.RoundsLemmas.{turns_split, turns_more, left_more}

-- what holds of an error holds of the result that has it
pub at_err : {A E : Type 0} (r : Result A E) (e : E) (P : E → Type 0) → r ≡ Err e → P e → IfErr r P
at_err {A} {E} r e P is p = subst (λ (o : Result A E). IfErr o P) (sym is) p

module _ {S : Type 0} (spans : S → Spans) (hint : S → Option LevelFilter) (enables : S → ℕ → Callsite → Bool) (kept : S → ℕ → ℕ → ℕ) (is_whole : S → Type 0) (does : S → SubscriberCall → S → Type 0) (touches : S → PartCall → S → Type 0) where
  -- from tasks at first to those that are left
  pub record SoFar (handles : List Handle) (ts : List UnfinishedTask) (fs : List (Instrumented TaskFuture)) (old world : WorldValue S) (before lane : Lane) (polls : ℕ) : Type 0 where
    pub now : List UnfinishedTask
    pub stand : AllStand handles now fs
    pub guards : List HeldSpan
    pub count : length guards ≡ polls
    pub polled : polls + poll_count now ≡ poll_count ts
    pub after : left_after polls ts ≡ now
    pub carried : Carries spans hint enables does touches (dispatch_serving before) (turns_requests old.sites polls 0 ts) (record { world = old; lane = before; handles = handles; guards = [] }) (record { world = world; lane = lane; handles = handles; guards = guards })

  pub record Taking (first fs : List (Instrumented TaskFuture)) (old world : WorldValue S) (before lane : Lane) (polls : ℕ) : Type 0 where
    pub ready : ReadyToPoll spans kept is_whole world lane
    pub wait : AllWait spans world (dispatch_serving lane) fs
    pub few : polls + polls_in fs ≡ polls_in first
    pub default : lane.default ≡ before.default
    pub attached : SameAttached before lane
    pub sites : world.sites ≡ old.sites
    pub so_far : (handles : List Handle) (ts : List UnfinishedTask) → AllStand handles ts first → SoFar handles ts fs old world before lane polls

  pub taking_first : (fs : List (Instrumented TaskFuture)) (world : WorldValue S) (lane : Lane) → ReadyToPoll spans kept is_whole world lane → AllWait spans world (dispatch_serving lane) fs → Taking fs fs world world lane lane 0
  taking_first fs world lane ready wait = record {
    ready = ready;
    wait = wait;
    few = omega arith;
    default = refl;
    attached = λ number. refl;
    sites = refl;
    so_far = λ handles ts stand. record { now = ts; stand = stand; guards = []; count = refl; polled = omega arith; after = refl; carried = refl };
  }

  so_far_more : (handles : List Handle) (ts : List UnfinishedTask) (f : Instrumented TaskFuture) (fs : List (Instrumented TaskFuture)) (left : Option (Instrumented TaskFuture)) (old world next : WorldValue S) (before lane later : Lane) (polls : ℕ)
      → dispatch_serving lane ≡ dispatch_serving before → world.sites ≡ old.sites → PollsTask spans hint enables kept is_whole does touches (moment_of polls) f world lane left next later
      → (s : SoFar handles ts (f ∷ fs) old world before lane polls) → (now : List UnfinishedTask) → s.now ≡ now → AllStand handles now (f ∷ fs) → SoFar handles ts (queue_with fs left) old next before later (polls + 1)
  so_far_more handles ts f fs left old world next before lane later polls serves sites turned s [] is stand = absurd stand
  so_far_more handles ts f fs left old world next before lane later polls serves sites turned s (t ∷ rest) is stand =
      let d : ℕ = dispatch_serving before in
      let u : UnfinishedTask = unfinished_task t.number t.site f.inner in
      let same : u ≡ t = ap (λ (xs : List Step). let v : UnfinishedTask = record { number = t.number; site = t.site; steps = xs } in v) (sym stand.0.steps) in
      let here : TaskScene S = record { world = world; lane = lane; handles = handles; guards = s.guards } in
      let there : TaskScene S = record { world = next; lane = later; handles = handles; guards = s.guards ++ f.span.held ∷ [] } in
      let did : Carries spans hint enables does touches d (poll_requests old.sites polls t) here there =
      subst (λ (n : ℕ). Carries spans hint enables does touches n (poll_requests old.sites polls t) here there) serves
      (subst (λ (xs : List Callsite). Carries spans hint enables does touches (dispatch_serving lane) (poll_requests xs polls t) here there) sites
      (subst (λ (v : UnfinishedTask). Carries spans hint enables does touches (dispatch_serving lane) (poll_requests world.sites polls v) here there) same
      (turned.carried t.number t.site polls handles s.guards refl s.count stand.0.handle stand.0.site))) in
      let e : left_after polls ts ≡ t ∷ rest = s.after ∙ is in
      let first : TaskScene S = record { world = old; lane = before; handles = handles; guards = [] } in
      record {
        now = requeue rest (after_poll t);
        stand = stand_after handles t rest f fs left stand.0 stand.1 turned.left_is;
        guards = s.guards ++ f.span.held ∷ [];
        count = (let l = length_push s.guards f.span.held in let k = s.count in omega (arith, l, k));
        polled = (let p = s.polled in let q = ap poll_count is in let less = left_less t rest in omega (arith, p, q, less));
        after = left_more polls ts t rest e;
        carried = subst (λ (rs : List Request). Carries spans hint enables does touches d rs first there) (sym (turns_more old.sites polls ts t rest e))
            (carry_then spans hint enables does touches d (turns_requests old.sites polls 0 ts) (poll_requests old.sites polls t) first here there s.carried did);
      }

  -- a turn that was taken
  pub takes_turn : (at : ℕ) (all last : List (Instrumented TaskFuture)) (f : Instrumented TaskFuture) (fs : List (Instrumented TaskFuture)) (left : Option (Instrumented TaskFuture)) (world next : WorldValue S) (lane later : Lane) → all ≡ f ∷ fs → last ≡ queue_with fs left → AllWait spans world (dispatch_serving lane) all
      → PollsTask spans hint enables kept is_whole does touches at f world lane left next later → KeepsKnownBut spans world next f.span.held → ((g : Instrumented TaskFuture) → left ≡ Some g → IsKnown spans next g.span.held) → TakesTurn spans hint enables kept is_whole does touches at all world lane last next later
  takes_turn at all last f fs left world next lane later is queue wait turned keeps known =
      let others = wait_after spans world next (dispatch_serving lane) f fs left (subst (λ (xs : List (Instrumented TaskFuture)). AllWait spans world (dispatch_serving lane) xs) is wait) turned.left_is turned.stay keeps known in
      record {
        f = f;
        others = fs;
        is = is;
        left = left;
        queue = queue;
        turned = turned;
        wait = subst (λ (n : ℕ). AllWait spans next n last) (sym (ap dispatch_of_default turned.default)) (subst (λ (xs : List (Instrumented TaskFuture)). AllWait spans next (dispatch_serving lane) xs) (sym queue) others);
      }

  -- of an answer that there was a task, or none
  pub turn_if : (answer : Bool) (at : ℕ) (all last : List (Instrumented TaskFuture)) (world next : WorldValue S) (lane later : Lane) → answer ≡ true → TakesTurnIf spans hint enables kept is_whole does touches at answer all world lane last next later → TakesTurn spans hint enables kept is_whole does touches at all world lane last next later
  turn_if true at all last world next lane later is turn = turn
  turn_if false at all last world next lane later is turn = absurd (true≢false (sym is))

  pub no_turn : (answer : Bool) (at : ℕ) (all last : List (Instrumented TaskFuture)) (world next : WorldValue S) (lane later : Lane) → answer ≡ false → TakesTurnIf spans hint enables kept is_whole does touches at answer all world lane last next later → (all ≡ []) × (last ≡ []) × (next ≡ world) × (later ≡ lane)
  no_turn true at all last world next lane later is turn = absurd (true≢false is)
  no_turn false at all last world next lane later is turn = turn

  -- one poll less is left
  pub one_poll_less : (at : ℕ) (all last : List (Instrumented TaskFuture)) (world next : WorldValue S) (lane later : Lane) → TakesTurn spans hint enables kept is_whole does touches at all world lane last next later → polls_in all ≡ polls_in last + 1
  one_poll_less at all last world next lane later turn = (let b = ap polls_in turn.is in let c = polls_after turn.f turn.others turn.left turn.turned.left_is in let q = ap polls_in turn.queue in omega (arith, b, c, q))

  -- one poll more
  pub taking_more : (first all last : List (Instrumented TaskFuture)) (old world next : WorldValue S) (before lane later : Lane) (polls at : ℕ) → at ≡ moment_of polls → Taking first all old world before lane polls
      → TakesTurn spans hint enables kept is_whole does touches at all world lane last next later → Taking first last old next before later (polls + 1)
  taking_more first all last old world next before lane later polls at moment taking turn =
      let turned : PollsTask spans hint enables kept is_whole does touches (moment_of polls) turn.f world lane turn.left next later = subst (λ (n : ℕ). PollsTask spans hint enables kept is_whole does touches n turn.f world lane turn.left next later) moment turn.turned in
      record {
        ready = turned.ready;
        wait = turn.wait;
        few = (let a = taking.few in let b = one_poll_less at all last world next lane later turn in omega (arith, a, b));
        default = turned.default ∙ taking.default;
        attached = λ number. turned.attached number ∙ taking.attached number;
        sites = turned.sites ∙ taking.sites;
        so_far = λ handles ts stand. (
            let s = subst (λ (xs : List (Instrumented TaskFuture)). SoFar handles ts xs old world before lane polls) turn.is (taking.so_far handles ts stand) in
            subst (λ (xs : List (Instrumented TaskFuture)). SoFar handles ts xs old next before later (polls + 1)) (sym turn.queue)
            (so_far_more handles ts turn.f turn.others turn.left old world next before lane later polls (ap dispatch_of_default taking.default) taking.sites turned s s.now refl s.stand));
      }

  at_last : (handles : List Handle) (ts : List UnfinishedTask) (old world : WorldValue S) (before lane : Lane) (polls : ℕ) (s : SoFar handles ts [] old world before lane polls) (now : List UnfinishedTask) → s.now ≡ now → AllStand handles now []
      → TakesTurns spans hint enables does touches handles ts old world before lane polls
  at_last handles ts old world before lane polls s [] is stand = record {
    guards = s.guards;
    polled = (let p = s.polled in let e = ap poll_count is in omega (arith, p, e));
    carried = subst (λ (n : ℕ). Carries spans hint enables does touches (dispatch_serving before) (turns_requests old.sites n 0 ts) (record { world = old; lane = before; handles = handles; guards = [] }) (record { world = world; lane = lane; handles = handles; guards = s.guards }))
        (let p = s.polled in let e = ap poll_count is in omega (arith, p, e)) s.carried;
  }
  at_last handles ts old world before lane polls s (t ∷ now) is stand = absurd stand

  pub taken : (first all last : List (Instrumented TaskFuture)) (old world next : WorldValue S) (before lane later : Lane) (polls : ℕ) → (all ≡ []) × (last ≡ []) × (next ≡ world) × (later ≡ lane) → Taking first all old world before lane polls → (handles : List Handle) (ts : List UnfinishedTask) → AllStand handles ts first
      → TakesTurns spans hint enables does touches handles ts old next before later polls
  taken first all last old world next before lane later polls none taking handles ts stand =
      let s = subst (λ (xs : List (Instrumented TaskFuture)). SoFar handles ts xs old world before lane polls) none.0 (taking.so_far handles ts stand) in
      subst (λ (w : WorldValue S). TakesTurns spans hint enables does touches handles ts old w before later polls) (sym none.2)
      (subst (λ (l : Lane). TakesTurns spans hint enables does touches handles ts old world before l polls) (sym none.3) (at_last handles ts old world before lane polls s s.now refl s.stand))

  -- a turn that was refused, and the closes of all handles that were left
  module _ (activates : S → ℕ → Bool) (same : S → S → Type 0) where
    stops_now : (handles : List Handle) (ts : List UnfinishedTask) (f : Instrumented TaskFuture) (fs : List (Instrumented TaskFuture)) (old world next gone : WorldValue S) (before lane later : Lane) (polls : ℕ) (e : EnterError)
        → dispatch_serving lane ≡ dispatch_serving before → world.sites ≡ old.sites → TurnStops spans hint enables activates does touches same (moment_of polls) f world lane e next later
        → SameAttached before lane → DropsAll spans hint enables does touches (moment_of polls) fs next gone
        → (s : SoFar handles ts (f ∷ fs) old world before lane polls) → (now : List UnfinishedTask) → s.now ≡ now → AllStand handles now (f ∷ fs)
        → StopsTurns spans hint enables activates does touches same (dispatch_serving before) old.sites ts e (record { world = old; lane = before; handles = handles; guards = [] }) gone later
    stops_now handles ts f fs old world next gone before lane later polls e serves sites turn attached closes s [] is stand = absurd stand
    stops_now handles ts f fs old world next gone before lane later polls e serves sites turn attached closes s (t ∷ rest) is stand =
        let d : ℕ = dispatch_serving before in
        let m : ℕ = moment_of polls in
        let u : UnfinishedTask = unfinished_task t.number t.site f.inner in
        let same_task : u ≡ t = ap (λ (xs : List Step). let v : UnfinishedTask = record { number = t.number; site = t.site; steps = xs } in v) (sym stand.0.steps) in
        let first : TaskScene S = record { world = old; lane = before; handles = handles; guards = [] } in
        let start : TaskScene S = record { world = world; lane = lane; handles = handles; guards = s.guards } in
        let one : StopsPoll spans hint enables activates does touches same d old.sites m polls t e start next later =
        subst (λ (n : ℕ). StopsPoll spans hint enables activates does touches same n old.sites m polls t e start next later) serves
        (subst (λ (xs : List Callsite). StopsPoll spans hint enables activates does touches same (dispatch_serving lane) xs m polls t e start next later) sites
        (subst (λ (v : UnfinishedTask). StopsPoll spans hint enables activates does touches same (dispatch_serving lane) world.sites m polls v e start next later) same_task
        (turn.stops t.number t.site polls handles s.guards refl stand.0.handle s.count stand.0.site))) in
        let here_is : left_after polls ts ≡ t ∷ rest = s.after ∙ is in
        let n : ℕ = poll_count (requeue rest (after_poll t)) in
        let more : List Request = turns_requests old.sites n (polls + 1) (requeue rest (after_poll t)) in
        let all : poll_count ts ≡ polls + suc n = (let p = s.polled in let q = ap poll_count is in let less = left_less t rest in omega (arith, p, q, less)) in
        let zero_is : 0 + polls ≡ polls = omega arith in
        let whole : turns_requests old.sites (poll_count ts) 0 ts ≡ turns_requests old.sites polls 0 ts ++ (poll_requests old.sites polls t ++ more) =
        ap (λ (k : ℕ). turns_requests old.sites k 0 ts) all ∙ turns_split old.sites polls (suc n) 0 ts
        ∙ ap (λ (xs : List UnfinishedTask). turns_requests old.sites polls 0 ts ++ turns_requests old.sites (suc n) (0 + polls) xs) here_is
        ∙ ap (λ (k : ℕ). turns_requests old.sites polls 0 ts ++ turns_requests old.sites (suc n) k (t ∷ rest)) zero_is in
        let tail : List Request = on_first_lane m (call.Exit polls) ∷ drop_at_end polls t.number (steps_left t.steps) in
        let others : List Request = (one.in_poll.0 ∷ one.in_poll.1) ++ tail in
        let poll : one.part ++ others ≡ poll_requests old.sites polls t = sym (append_assoc one.part (one.in_poll.0 ∷ one.in_poll.1) tail) ∙ ap (λ (rs : List Request). rs ++ tail) one.in_poll.2 in
        let st = one.stopped in
        let ended : TaskScene S = record { world = gone; lane = later; handles = st.failed.handles; guards = st.guards } in
        let waiting : AllStand st.failed.handles rest fs = subst (λ (hs : List Handle). AllStand hs rest fs) (sym one.handles) stand.1 in
        record {
          polls = polls;
          t = t;
          waiting = rest;
          next = here_is;
          part = one.part;
          others = others ++ more;
          within = append_assoc (turns_requests old.sites polls 0 ts) one.part (others ++ more)
              ∙ ap (λ (rs : List Request). turns_requests old.sites polls 0 ts ++ rs) (sym (append_assoc one.part others more) ∙ ap (λ (rs : List Request). rs ++ more) poll)
              ∙ sym whole;
          in_poll = one.in_poll;
          not_entered = one.not_entered;
          full_at_first = λ is_full. (
              let here_is : st.here ≡ start = subst (λ (rs : List Request). Carries spans hint enables does touches d rs start st.here) (one.not_entered is_full) st.carried in
              sym (as_many_live before lane attached) ∙ ap (λ (x : TaskScene S). length x.lane.contexts.live) (sym here_is) ∙ (st.full is_full).full);
          stopped = record {
            here = st.here;
            carried = carry_then spans hint enables does touches d (turns_requests old.sites polls 0 ts) one.part first start st.here s.carried st.carried;
            failed = st.failed;
            fails = st.fails;
            guards = st.guards;
            closed = subst (λ (rs : List Request). Carries spans hint enables does touches d rs st.failed ended) (append_assoc (exit_if m polls one.part) (drops_of_tasks m (t ∷ [])) (drops_of_tasks m rest))
                (carry_then spans hint enables does touches d (leaving_requests m polls one.part (t ∷ [])) (drops_of_tasks m rest) st.failed (record { world = next; lane = later; handles = st.failed.handles; guards = st.guards }) ended st.closed
                (closes st.failed.handles rest waiting d later st.guards));
            full = st.full;
          };
        }

    pub stops_turns : (first all : List (Instrumented TaskFuture)) (old world gone : WorldValue S) (before lane later : Lane) (polls at : ℕ) (e : EnterError) → at ≡ moment_of polls → Taking first all old world before lane polls
        → StopsInTurn spans hint enables activates does touches same at all world lane e gone later
        → (handles : List Handle) (ts : List UnfinishedTask) → AllStand handles ts first → StopsTurns spans hint enables activates does touches same (dispatch_serving before) old.sites ts e (record { world = old; lane = before; handles = handles; guards = [] }) gone later
    stops_turns first all old world gone before lane later polls at e moment taking turn handles ts stand =
        let s = subst (λ (xs : List (Instrumented TaskFuture)). SoFar handles ts xs old world before lane polls) turn.is (taking.so_far handles ts stand) in
        stops_now handles ts turn.f turn.others old world turn.world gone before lane later polls e (ap dispatch_of_default taking.default) taking.sites
        (subst (λ (n : ℕ). TurnStops spans hint enables activates does touches same n turn.f world lane e turn.world later) moment turn.stops) taking.attached
        (subst (λ (n : ℕ). DropsAll spans hint enables does touches n turn.others turn.world gone) moment turn.dropped) s s.now refl s.stand
