-- Tasks that take turns over a tape, whose requests are handed on after each turn.
use Rattle.std.proofs.Common.{◌≡◌, ℕ, zero, suc, ◌+◌, ◌<◌, ◌^◌, List, [], ◌∷◌, ◌++◌, length, true, false, Option, Some, None, Result, Ok, Err, refl, sym, ap, subst, ◌∙◌, arith, slice_get, slice_set, OnOk}
use Rattle.std.proofs.lemmas.Bool.{true≢false}
use Rattle.otel_base.specs.declared.enter_error.EnterError.TheVariants as faults
use Rattle.trace_tasks.proofs.Common.{EnterError, Memory, Callsite, Lane, WorldValue, Spans, cached_at, entries_on, no_spans, spans_in, now_there, seen_before, seen_later, Handle, HeldSpan, Request, Instrumented, TaskFuture, refused, TapeValue, DoesTape, TouchesTape, Step, steps_left, TaskScene, UnfinishedTask, poll_requests, after_poll, requeue, turns_requests, poll_count, moment_of, tape_spans, CarriesTape, left_after, ReadyToPoll, IsAlone, unfinished_task, PollsTask, dispatch_serving, dispatch_of_default, AllStand, AllWait, AllKnownAndApart, polls_in, queue_with, TakesTurn, StopsInTurn}
use Rattle.span_futures.specs.Lent.{keeps_subscriber}
use Rattle.span_handles.specs.Knowing.{KeepsHandles}
use Rattle.span_handles.proofs.KnownHandlesLemmas.{handles_same}
use Rattle.trace_tasks.specs.TapeTurns.{BetweenPolls, AllCanBePolled, WaitOnTape, TakesAll, OnlyRequestsChange, HandsOn, HandsTurnsOn}
use Rattle.trace_tasks.proofs.queues.BegunTasksLemmas.{known_stays}
use Rattle.trace_tasks.proofs.queues.QueueLemmas.{left_less, stand_after}
use Rattle.trace_tasks.proofs.queues.TurnsLemmas.{one_poll_less}
use Rattle.trace_tasks.proofs.tapes.PollsLemmas.{poll_spells}
use Rattle.trace_tasks.proofs.tapes.RoundsLemmas.{turns_more, left_more}
use Rattle.trace_tasks.proofs.tapes.RunsLemmas.{tasks_after}

-- ---- where only the requests on the tape are others

module _ (d : ℕ) (old new : WorldValue TapeValue) (r : OnlyRequestsChange d old new) where
  same_spans : (s t : TapeValue) → t ≡ record s { requests = t.requests } → tape_spans t ≡ tape_spans s
  same_spans s t is = ap (λ (x : TapeValue). x.below.spans) is

  spans_same : spans_in tape_spans new d ≡ spans_in tape_spans old d
  spans_same =
      seen_later (λ s t. t ≡ record s { requests = t.requests }) old new d r tape_spans no_spans ∙ same_spans r.before r.later r.did
      ∙ sym (seen_before (λ s t. t ≡ record s { requests = t.requests }) old new d r tape_spans no_spans)

  kept : KeepsHandles tape_spans old new
  kept = handles_same tape_spans (λ s t. t ≡ record s { requests = t.requests }) same_spans old new d r

  pub wait_still : (fs : List (Instrumented TaskFuture)) → AllWait tape_spans old d fs → AllWait tape_spans new d fs
  wait_still [] all = tt
  wait_still (f ∷ fs) all = (
    record {
      known = kept.known f.span.held all.0.known;
      site = all.0.site;
      lone = subst (λ (x : Spans). IsAlone x.made d all.0.site f.span) (sym spans_same) all.0.lone;
    },
    all.1,
    wait_still fs all.2,
  )

  pub known_still : (fs : List (Instrumented TaskFuture)) → AllKnownAndApart tape_spans old fs → AllKnownAndApart tape_spans new fs
  known_still fs all = known_stays tape_spans old new fs kept all

  pub ready_still : (lane : Lane) → dispatch_serving lane ≡ d → ReadyToPoll tape_spans (λ s lane number. 0) (λ s. Unit {0}) old lane → ReadyToPoll tape_spans (λ s lane number. 0) (λ s. Unit {0}) new lane
  ready_still lane serves ready =
      let lent = refused tape_spans (λ s lane number. 0) (λ s. Unit {0}) (λ s t. t ≡ record s { requests = t.requests }) same_spans (λ s t is. refl) (λ s t is whole. tt) (Some (d, 0)) old new lane lane r (record { id = refl; name = refl; default = refl; live = refl }) in
      record {
        default = ready.default;
        there = keeps_subscriber old new (dispatch_serving lane) lent.parts ready.there;
        whole = λ dispatch s there. tt;
        still = lent.attached ready.still;
        none_open = subst (λ (n : ℕ). entries_on lane.id (spans_in tape_spans new n).lanes ≡ []) (sym serves)
            (ap (λ (x : Spans). entries_on lane.id x.lanes) spans_same ∙ subst (λ (n : ℕ). entries_on lane.id (spans_in tape_spans old n).lanes ≡ []) serves ready.none_open);
      }

-- ---- what a sink took

pub takes_after : {K : Type 0} (takes : K → Request → K → Type 0) (rs more : List Request) (old mid new : K) → TakesAll takes rs old mid → TakesAll takes more mid new → TakesAll takes (rs ++ more) old new
takes_after {K} takes [] more old mid new is rest = subst (λ (k : K). TakesAll takes more k new) is rest
takes_after takes (r ∷ rs) more old mid new (m, one, later) rest = (m, one, takes_after takes rs more m mid new later rest)

-- ---- requests are taken off the tape

pub taken_off : (d : ℕ) (old : WorldValue TapeValue) (tape now : TapeValue) → slice_get old.subscribers d ≡ Some tape → now ≡ record tape { requests = [] } → OnlyRequestsChange d old (record old { subscribers = slice_set old.subscribers d now })
taken_off d old tape now there is = record {
  before = tape;
  later = now;
  there = there;
  did = is ∙ ap (λ (x : TapeValue). let y : TapeValue = record tape { requests = x.requests } in y) (sym is);
  others = refl;
}

pub left_on : (d : ℕ) (old : WorldValue TapeValue) (tape now : TapeValue) → slice_get old.subscribers d ≡ Some tape → now ≡ tape → OnlyRequestsChange d old (record old { subscribers = slice_set old.subscribers d now })
left_on d old tape now there is = record {
  before = tape;
  later = now;
  there = there;
  did = is ∙ ap (λ (x : TapeValue). let y : TapeValue = record tape { requests = x.requests } in y) (sym is);
  others = refl;
}

pub pushed : {K : Type 0} (takes : K → Request → K → Type 0) (d : ℕ) (old : WorldValue TapeValue) (tape now : TapeValue) (start end : K) (result : Result (Unit {0}) Memory) (requests : List Request) → slice_get old.subscribers d ≡ Some tape → requests ≡ tape.requests → now ≡ record tape { requests = [] }
    → OnOk result (TakesAll takes requests start end) → OnOk result (HandsOn takes d old (record old { subscribers = slice_set old.subscribers d now }) start end)
pushed takes d old tape now start end (Ok x) requests there same is taken = record {
  tape = tape;
  there = there;
  emptied = ap (λ (t : TapeValue). let w : WorldValue TapeValue = record old { subscribers = slice_set old.subscribers d t } in w) is;
  taken = subst (λ (rs : List Request). TakesAll takes rs start end) same taken;
}
pushed takes d old tape now start end (Err e) requests there same is taken = tt

-- ---- the tape is emptied

the_tape : (a b : TapeValue) → ◌≡◌ {A = Option TapeValue} (Some a) (Some b) → a ≡ b
the_tape a b e = cc e

module _ {K : Type 0} (takes : K → Request → K → Type 0) (d : ℕ) (sites : List Callsite) (old new : WorldValue TapeValue) (before later : K) (h : HandsOn takes d old new before later) where
  abbrev pub only_requests : OnlyRequestsChange d old new
  only_requests = record { before = h.tape; later = record h.tape { requests = [] }; there = h.there; did = refl; others = h.emptied }

  module _ (lane : Lane) (handles : List Handle) (guards : List HeldSpan) (tape : TapeValue) where
    abbrev pub stage_before : TaskScene TapeValue
    stage_before = record { world = old; lane = lane; handles = handles; guards = guards }

    abbrev pub stage_after : TaskScene TapeValue
    stage_after = record { world = new; lane = lane; handles = handles; guards = guards }

    emptied_between : (k : ℕ) → BetweenPolls d sites k stage_before tape → BetweenPolls d sites k stage_after (record tape { requests = [] })
    emptied_between k between = record {
      there = now_there (λ s t. t ≡ record s { requests = t.requests }) old new d only_requests
          ∙ ap (λ (x : TapeValue). let y : TapeValue = record x { requests = [] } in Some y) (the_tape h.tape tape (sym h.there ∙ between.there));
      sites_are = ap (λ (w : WorldValue TapeValue). w.sites) h.emptied ∙ between.sites_are;
      cached = λ n less. ap (λ (w : WorldValue TapeValue). cached_at w.cached d n) h.emptied ∙ between.cached n less;
      no_due = between.no_due;
      no_entries = between.no_entries;
      guards = between.guards;
      guard_count = between.guard_count;
      none_open = between.none_open;
    }

    emptied_tasks : (ts : List UnfinishedTask) → AllCanBePolled d sites stage_before tape ts → AllCanBePolled d sites stage_after (record tape { requests = [] }) ts
    emptied_tasks [] all = tt
    emptied_tasks (t ∷ ts) all = (
      record {
        waits = record { handle = all.0.waits.handle; lone = all.0.waits.lone; once = all.0.waits.once };
        callsite = all.0.callsite;
        is = all.0.is;
        tested = all.0.tested;
      },
      all.1,
      emptied_tasks ts all.2,
    )

    -- tasks that stand wait on the tape, and the sink took what was spelled
    pub waits_emptied : (k : ℕ) (ts : List UnfinishedTask) (fs : List (Instrumented TaskFuture)) → AllStand handles ts fs → BetweenPolls d sites k stage_before tape → AllCanBePolled d sites stage_before tape ts → WaitOnTape d sites k ts new lane fs
    waits_emptied k ts fs stand between waiting = record {
      handles = handles;
      guards = guards;
      stand = stand;
      tape = record tape { requests = [] };
      between = emptied_between k between;
      waiting = emptied_tasks ts waiting;
      none = refl;
    }

    pub taken_from : (k : ℕ) (rs : List Request) → BetweenPolls d sites k stage_before tape → tape.requests ≡ rs → TakesAll takes rs before later
    taken_from k rs between is = subst (λ (xs : List Request). TakesAll takes xs before later) (ap (λ (x : TapeValue). x.requests) (the_tape h.tape tape (sym h.there ∙ between.there)) ∙ is) h.taken

-- ---- one turn

-- the subscriber is there still
pub still_there : (d at : ℕ) (all last : List (Instrumented TaskFuture)) (world next : WorldValue TapeValue) (lane later : Lane) → dispatch_serving lane ≡ d → TakesTurn tape_spans (λ s. None) (λ s lane c. true) (λ s lane number. 0) (λ s. Unit {0}) DoesTape TouchesTape at all world lane last next later → d < length next.subscribers
still_there d at all last world next lane later serves turn = (
    let there = turn.turned.ready.there in
    let same : dispatch_serving later ≡ d = ap dispatch_of_default turn.turned.default ∙ serves in
    omega (arith, there, same))

module _ {K : Type 0} (takes : K → Request → K → Type 0) (d : ℕ) (sites : List Callsite) where
  pub record TurnHandedOn (k : ℕ) (ts : List UnfinishedTask) (new : WorldValue TapeValue) (later : Lane) (fs : List (Instrumented TaskFuture)) (before after : K) : Type 0 where
    pub t : UnfinishedTask
    pub rest : List UnfinishedTask
    pub is : ts ≡ t ∷ rest
    pub waits : WaitOnTape d sites (k + 1) (requeue rest (after_poll t)) new later fs
    pub taken : TakesAll takes (poll_requests sites k t) before after

  hands_turn_on : (k : ℕ) (ts : List UnfinishedTask) (f : Instrumented TaskFuture) (fs : List (Instrumented TaskFuture)) (left : Option (Instrumented TaskFuture)) (world next new : WorldValue TapeValue) (lane later : Lane) (before after : K) → k < 2 ^ 63 → dispatch_serving lane ≡ d
      → WaitOnTape d sites k ts world lane (f ∷ fs) → PollsTask tape_spans (λ s. None) (λ s lane c. true) (λ s lane number. 0) (λ s. Unit {0}) DoesTape TouchesTape (moment_of k) f world lane left next later → HandsOn takes d next new before after
      → TurnHandedOn k ts new later (queue_with fs left) before after
  hands_turn_on k [] f fs left world next new lane later before after few serves w turned handed = absurd w.stand
  hands_turn_on k (t ∷ rest) f fs left world next new lane later before after few serves w turned handed =
      let u : UnfinishedTask = unfinished_task t.number t.site f.inner in
      let same : u ≡ t = ap (λ (xs : List Step). let v : UnfinishedTask = record { number = t.number; site = t.site; steps = xs } in v) (sym w.stand.0.steps) in
      let s : TaskScene TapeValue = record { world = world; lane = lane; handles = w.handles; guards = w.guards } in
      let m : TaskScene TapeValue = record { world = next; lane = later; handles = w.handles; guards = w.guards ++ f.span.held ∷ [] } in
      let did : CarriesTape d (poll_requests sites k t) s m =
      subst (λ (n : ℕ). CarriesTape n (poll_requests sites k t) s m) serves
      (subst (λ (xs : List Callsite). CarriesTape (dispatch_serving lane) (poll_requests xs k t) s m) w.between.sites_are
      (subst (λ (v : UnfinishedTask). CarriesTape (dispatch_serving lane) (poll_requests world.sites k v) s m) same
      (turned.carried t.number t.site k w.handles w.guards refl w.between.guard_count w.stand.0.handle w.stand.0.site))) in
      let p = poll_spells d sites k t few w.waiting.0.callsite w.waiting.0.is w.waiting.0.tested s m w.tape w.between w.waiting.0.waits did in
      record {
        t = t;
        rest = rest;
        is = refl;
        waits = waits_emptied takes d sites next new before after handed later w.handles (w.guards ++ f.span.held ∷ []) p.now (k + 1) (requeue rest (after_poll t)) (queue_with fs left)
            (stand_after w.handles t rest f fs left w.stand.0 w.stand.1 turned.left_is) p.between (tasks_after d sites k t s m w.tape p rest w.waiting (steps_left t.steps) refl);
        taken = taken_from takes d sites next new before after handed later w.handles (w.guards ++ f.span.held ∷ []) p.now (k + 1) (poll_requests sites k t) p.between
            (p.requests ∙ ap (λ (rs : List Request). rs ++ poll_requests sites k t) w.none);
      }

  -- ---- all turns so far

  pub record TurnsSoFar (ts : List UnfinishedTask) (polls : ℕ) (world : WorldValue TapeValue) (lane : Lane) (fs : List (Instrumented TaskFuture)) (start now : K) : Type 0 where
    pub left : List UnfinishedTask
    pub after : left_after polls ts ≡ left
    pub polled : polls + poll_count left ≡ poll_count ts
    pub waits : WaitOnTape d sites polls left world lane fs
    pub taken : TakesAll takes (turns_requests sites polls 0 ts) start now

  pub record HandedSoFar (first fs : List (Instrumented TaskFuture)) (old world : WorldValue TapeValue) (before lane : Lane) (polls : ℕ) (start now : K) : Type 0 where
    pub ready : ReadyToPoll tape_spans (λ s lane number. 0) (λ s. Unit {0}) world lane
    pub serves : dispatch_serving lane ≡ d
    pub wait : AllWait tape_spans world (dispatch_serving lane) fs
    pub few : polls + polls_in fs ≡ polls_in first
    pub so_far : (ts : List UnfinishedTask) → WaitOnTape d sites 0 ts old before first → TurnsSoFar ts polls world lane fs start now

  pub handed_first : (fs : List (Instrumented TaskFuture)) (world : WorldValue TapeValue) (lane : Lane) (start : K) → ReadyToPoll tape_spans (λ s lane number. 0) (λ s. Unit {0}) world lane → dispatch_serving lane ≡ d → AllWait tape_spans world (dispatch_serving lane) fs
      → HandedSoFar fs fs world world lane lane 0 start start
  handed_first fs world lane start ready serves wait = record {
    ready = ready;
    serves = serves;
    wait = wait;
    few = omega arith;
    so_far = λ ts waits. record { left = ts; after = refl; polled = omega arith; waits = waits; taken = refl };
  }

  turns_so_far : (ts : List UnfinishedTask) (f : Instrumented TaskFuture) (fs : List (Instrumented TaskFuture)) (left : Option (Instrumented TaskFuture)) (world next new : WorldValue TapeValue) (lane later : Lane) (polls : ℕ) (start before after : K) → polls < 2 ^ 63 → dispatch_serving lane ≡ d
      → PollsTask tape_spans (λ s. None) (λ s lane c. true) (λ s lane number. 0) (λ s. Unit {0}) DoesTape TouchesTape (moment_of polls) f world lane left next later → HandsOn takes d next new before after
      → TurnsSoFar ts polls world lane (f ∷ fs) start before → TurnsSoFar ts (polls + 1) new later (queue_with fs left) start after
  turns_so_far ts f fs left world next new lane later polls start before after few serves turned handed s =
      let one = hands_turn_on polls s.left f fs left world next new lane later before after few serves s.waits turned handed in
      let is : left_after polls ts ≡ one.t ∷ one.rest = s.after ∙ one.is in
      record {
        left = requeue one.rest (after_poll one.t);
        after = left_more polls ts one.t one.rest is;
        polled = (let p = s.polled in let q = ap poll_count one.is in let less = left_less one.t one.rest in omega (arith, p, q, less));
        waits = one.waits;
        taken = subst (λ (rs : List Request). TakesAll takes rs start after) (sym (turns_more sites polls ts one.t one.rest is))
            (takes_after takes (turns_requests sites polls 0 ts) (poll_requests sites polls one.t) start before after s.taken one.taken);
      }

  pub handed_more : (first all last : List (Instrumented TaskFuture)) (old world next new : WorldValue TapeValue) (before lane later : Lane) (polls at : ℕ) (start now then : K) → polls_in first < 2 ^ 60 → at ≡ moment_of polls → HandedSoFar first all old world before lane polls start now
      → TakesTurn tape_spans (λ s. None) (λ s lane c. true) (λ s lane number. 0) (λ s. Unit {0}) DoesTape TouchesTape at all world lane last next later → HandsOn takes d next new now then → HandedSoFar first last old new before later (polls + 1) start then
  handed_more first all last old world next new before lane later polls at start now then bound moment h turn handed =
      let T : ℕ → Type 0 = λ n. PollsTask tape_spans (λ s. None) (λ s lane c. true) (λ s lane number. 0) (λ s. Unit {0}) DoesTape TouchesTape n turn.f world lane turn.left next later in
      let turned : T (moment_of polls) = subst T moment turn.turned in
      let r = only_requests takes d sites next new now then handed in
      let serves : dispatch_serving later ≡ d = ap dispatch_of_default turned.default ∙ h.serves in
      let few : polls < 2 ^ 63 = (let a = h.few in let b = bound in omega (arith, a, b)) in
      record {
        ready = ready_still d next new r later serves turned.ready;
        serves = serves;
        wait = subst (λ (n : ℕ). AllWait tape_spans new n last) (sym serves) (wait_still d next new r last (subst (λ (n : ℕ). AllWait tape_spans next n last) serves turn.wait));
        few = (let a = h.few in let b = one_poll_less tape_spans (λ s. None) (λ s lane c. true) (λ s lane number. 0) (λ s. Unit {0}) DoesTape TouchesTape at all last world next lane later turn in omega (arith, a, b));
        so_far = λ ts waits. subst (λ (xs : List (Instrumented TaskFuture)). TurnsSoFar ts (polls + 1) new later xs start then) (sym turn.queue)
            (turns_so_far ts turn.f turn.others turn.left world next new lane later polls start now then few h.serves turned handed
            (subst (λ (xs : List (Instrumented TaskFuture)). TurnsSoFar ts polls world lane xs start now) turn.is (h.so_far ts waits)));
      }

  at_last : (ts : List UnfinishedTask) (polls : ℕ) (world : WorldValue TapeValue) (lane : Lane) (start now : K) (left : List UnfinishedTask) → polls + poll_count left ≡ poll_count ts → WaitOnTape d sites polls left world lane [] → TakesAll takes (turns_requests sites polls 0 ts) start now → HandsTurnsOn takes sites ts polls start now
  at_last ts polls world lane start now [] polled waits taken =
      let is : polls ≡ poll_count ts = omega (arith, polled) in
      record { polled = is; taken = subst (λ (n : ℕ). TakesAll takes (turns_requests sites n 0 ts) start now) is taken }
  at_last ts polls world lane start now (t ∷ left) polled waits taken = absurd waits.stand

  pub handed_all : (first fs : List (Instrumented TaskFuture)) (old world : WorldValue TapeValue) (before lane : Lane) (polls : ℕ) (start now : K) → fs ≡ [] → HandedSoFar first fs old world before lane polls start now → (ts : List UnfinishedTask) → WaitOnTape d sites 0 ts old before first
      → HandsTurnsOn takes sites ts polls start now
  handed_all first fs old world before lane polls start now none h ts waits =
      let s = subst (λ (xs : List (Instrumented TaskFuture)). TurnsSoFar ts polls world lane xs start now) none (h.so_far ts waits) in
      at_last ts polls world lane start now s.left s.polled s.waits s.taken

-- ---- a tape attaches nothing, so no lane is full for it

abbrev no_guards : ℕ → List HeldSpan
no_guards zero = []
no_guards (suc n) = None ∷ no_guards n

guard_count : (n : ℕ) → length (no_guards n) ≡ n
guard_count zero = refl
guard_count (suc n) = (let e = guard_count n in omega (arith, e))

pub full_never : (d polls at : ℕ) (all : List (Instrumented TaskFuture)) (old new : WorldValue TapeValue) (before later : Lane) (e : EnterError) → AllWait tape_spans old d all → at ≡ moment_of polls
    → StopsInTurn tape_spans (λ s. None) (λ s lane c. true) (λ s id. false) DoesTape TouchesTape (λ s t. t ≡ s) at all old before e new later → e ≡ faults.Full → ⊥
full_never d polls at all old new before later e wait moment turn is =
    let waits = (subst (λ (xs : List (Instrumented TaskFuture)). AllWait tape_spans old d xs) turn.is wait).0 in
    let stopped = (turn.stops.stops 0 waits.site polls (turn.f.span ∷ []) (no_guards polls) moment refl (guard_count polls) waits.lone.site_is).stopped in
    absurd (true≢false (sym (stopped.full is).attaches))
