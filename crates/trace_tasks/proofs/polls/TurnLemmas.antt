-- A poll of a task, and its end if it is finished.
use Rattle.std.proofs.Common.{◌≡◌, ℕ, List, [], ◌∷◌, ◌++◌, length, map, Bool, Option, Some, None, Ok, refl, sym, ap, subst, ◌∙◌, arith, inl, inr, ◌⊎◌}
use Rattle.trace_tasks.proofs.Common.{Callsite, Lane, LevelFilter, SubscriberCall, TryClose, Exit, spans_after_call, CallKeepsLanes, WorldValue, Span, Spans, span_at, entries_on, parent_to_release, without_hold, Replaced, Chain, ended, closes, ReleasesChain, all_released, releases, spans_in, Handle, HeldSpan, ReplacedOn, as_many, seen_before, seen_later, chain_shown, Instrumented, HasAll, AreAllAttached, KeepsLent, PollResult, FailsToEnter, PollsInside, same_kept, keeps_all, PartCall, StaysStack, on_first_lane, TaskFuture, Step, steps_now, StepsOn, PollsSteps, TaskScene, CarriesOnHandle, Carries, UnfinishedTask, step_call, moment_of, drop_at_end, dispatch_of_default, dispatch_serving, ReadyToPoll, root_of_one_handle, IsAlone, IsAloneAs, unfinished_task, PollsTask}
use Rattle.std.specs.Option.{option_map}
use Rattle.futures.specs.declared.task.Poll.{Poll}
use Rattle.futures.specs.declared.task.Poll.TheVariants as polls
use Rattle.trace_base.specs.Conditions.{Allowed}
use Rattle.span_script.specs.declared.request.Call.TheVariants as call
use Rattle.trace_tasks.proofs.queues.RootLemmas.{others_stay, no_next}
use Rattle.trace_tasks.proofs.polls.EntryLemmas.{Through, through}

rel_none : (o : Option ℕ) (x y : Spans) → ReleasesChain o x y → o ≡ None → y ≡ x
rel_none _ _ _ (all_released x) is = refl
rel_none _ _ _ (releases id at x y own rest) is = absurd (cc is)

-- the release of a root closes it alone
rel_some : (o : Option ℕ) (x y : Spans) → ReleasesChain o x y → (id : ℕ) → o ≡ Some id → parent_to_release x.made id ≡ None → y ≡ record x { made = without_hold x.made id }
rel_some _ _ _ (all_released x) id is none = absurd (cc is)
rel_some _ _ _ (releases i at x y own rest) id is none =
    let same : i ≡ id = cc is in
    rel_none (parent_to_release x.made i) (spans_after_call x (TryClose i at)) y rest (ap (λ (n : ℕ). parent_to_release x.made n) same ∙ none)
    ∙ ap (λ (n : ℕ). let z : Spans = record x { made = without_hold x.made n } in z) same

module _ {S : Type 0} (spans : S → Spans) (hint : S → Option LevelFilter) (enables : S → ℕ → Callsite → Bool) (attaches : S → Bool) (activates : S → ℕ → Bool) (kept : S → ℕ → ℕ → ℕ) (is_whole : S → Type 0)
    (does : S → SubscriberCall → S → Type 0) (touches : S → PartCall → S → Type 0) (same : S → S → Type 0)
    (allowed : (s : S) (call : SubscriberCall) (t : S) → does s call t → Allowed (spans s) call) (shows : (s : S) (call : SubscriberCall) (t : S) → does s call t → spans t ≡ spans_after_call (spans s) call)
    (lanes : (s : S) (call : SubscriberCall) (t : S) → does s call t → CallKeepsLanes (attaches s) (kept s) call (kept t)) (keeps_attaches : (s : S) (call : SubscriberCall) (t : S) → does s call t → attaches t ≡ attaches s)
    (keeps_whole : (s : S) (call : SubscriberCall) (t : S) → does s call t → is_whole s → is_whole t)
    (stays : (s : S) (call : PartCall) (t : S) → touches s call t → StaysStack spans kept attaches is_whole s t) (none_kept : (s : S) (lane number : ℕ) → is_whole s → entries_on lane (spans s).lanes ≡ [] → kept s lane number ≡ 0) where
  -- what a poll of a task's steps is
  abbrev pub RunPolls : TaskFuture → WorldValue S → Lane → ℕ → PollResult (Unit {0}) → TaskFuture → WorldValue S → Lane → Type 0
  RunPolls f world lane at r g new later = PollsSteps spans hint enables does touches same f.steps.items world lane at r g.steps.items new later

  -- a poll that was answered ran inside the span
  pub inside_of : (f g : Instrumented TaskFuture) (old new : WorldValue S) (before later : Lane) (at : ℕ) (p : Poll (Unit {0})) → FailsToEnter same activates f old before (Ok p) g new later ⊎ PollsInside does activates RunPolls f old before at (Ok p) g new later
      → PollsInside does activates RunPolls f old before at (Ok p) g new later
  inside_of f g old new before later at p (inl refused) = absurd (cc refused.is)
  inside_of f g old new before later at p (inr inside) = inside

  ready_after : (old new : WorldValue S) (before later : Lane) → ReadyToPoll spans kept is_whole old before → later.default ≡ before.default → length new.subscribers ≡ length old.subscribers → HasAll is_whole new → AreAllAttached kept new later
      → entries_on later.id (spans_in spans new (dispatch_serving before)).lanes ≡ [] → ReadyToPoll spans kept is_whole new later
  ready_after old new before later ready default count whole still none =
      let e : dispatch_serving later ≡ dispatch_serving before = ap dispatch_of_default default in
      record {
        default = default ∙ ready.default ∙ ap (λ (n : ℕ). Some n) (sym e);
        there = (let t = ready.there in omega (arith, e, t, count));
        whole = whole;
        still = still;
        none_open = ap (λ (n : ℕ). entries_on later.id (spans_in spans new n).lanes) e ∙ none;
      }

  -- the entry, the steps and the exit of a poll
  through_of : (f g : Instrumented TaskFuture) (at site : ℕ) (old new : WorldValue S) (before later : Lane) (p : Poll (Unit {0})) → ReadyToPoll spans kept is_whole old before → IsAlone (spans_in spans old (dispatch_serving before)).made (dispatch_serving before) site f.span
      → HasAll is_whole new → (inside : PollsInside does activates RunPolls f old before at (Ok p) g new later) → inside.left_lane ≡ inside.lane → StepsOn spans hint enables does touches inside.lane at (steps_now f.inner.steps.items) inside.world inside.left_world
      → Through spans hint enables attaches kept is_whole does touches (dispatch_serving before) shows lanes stays none_kept f.span.held f.span.site site at f.inner.steps.items old new before later
  through_of f g at site old new before later p ready lone whole inside same_lane on =
      through spans hint enables attaches kept is_whole does touches (dispatch_serving before) shows lanes stays none_kept f.span.held f.span.site site at f.inner.steps.items old inside.world inside.left_world new before inside.lane later
      ready.default lone.site_is ready.whole whole ready.none_open lone.held_is inside.entered on
      (subst (λ (l : Lane). ReplacedOn (λ id s t. does s (Exit id at l later) t) inside.left_world new f.span.held) same_lane inside.exited)
      (λ no. inside.none no ∙ same_lane)

  pub pending : (f g : Instrumented TaskFuture) (at site : ℕ) (old new : WorldValue S) (before later : Lane) → ReadyToPoll spans kept is_whole old before → IsAlone (spans_in spans old (dispatch_serving before)).made (dispatch_serving before) site f.span
      → KeepsLent spans kept is_whole old new before later → PollsInside does activates RunPolls f old before at (Ok polls.Pending) g new later
      → PollsTask spans hint enables kept is_whole does touches at f old before (Some g) new later
  pending f g at site old new before later ready lone lent inside =
      let polled : PollsSteps spans hint enables does touches same f.inner.steps.items inside.world inside.lane at (Ok polls.Pending) g.inner.steps.items inside.left_world inside.left_lane = inside.polled in
      let thr = through_of f g at site old new before later polls.Pending ready lone (lent.whole ready.whole) inside polled.0 polled.2 in
      record {
        left_is = (polled.1, inside.span_same);
        ready = ready_after old new before later ready thr.default thr.count (lent.whole ready.whole) (lent.attached ready.still) thr.none_open;
        lane_id = thr.lane_id;
        default = thr.default;
        attached = thr.attached;
        sites = thr.sites;
        count = thr.count;
        stay = thr.made;
        carried = λ number own k handles guards moment count is own_is.
            let same : site ≡ own = cc (lone.site_is, own_is) in
            let t : UnfinishedTask = unfinished_task number own f.inner in
            let end : TaskScene S = record { world = new; lane = later; handles = handles; guards = guards ++ f.span.held ∷ [] } in
            subst (λ (o : Option (List Step)). Carries spans hint enables does touches (dispatch_serving before) (on_first_lane (moment_of k) (call.Enter number) ∷ map (λ s. on_first_lane (moment_of k) (step_call old.sites t s)) (steps_now f.inner.steps.items) ++ on_first_lane (moment_of k) (call.Exit k) ∷ drop_at_end k number o)
            (record { world = old; lane = before; handles = handles; guards = guards }) end) (sym polled.1)
            (thr.carried t k handles guards [] end moment count (sym same) refl is refl);
      }

  -- what the close of a root makes of its world
  record Closed (held : HeldSpan) (d : ℕ) (old new : WorldValue S) : Type 0 where
    lanes_same : (spans_in spans new d).lanes ≡ (spans_in spans old d).lanes
    stay : (q : ℕ) → (option_map (λ h. h.1) held ≡ Some q → ⊥) → span_at (spans_in spans new d).made q ≡ span_at (spans_in spans old d).made q
    sites : new.sites ≡ old.sites
    count : length new.subscribers ≡ length old.subscribers
    still : (lane : Lane) → AreAllAttached kept old lane → AreAllAttached kept new lane

  closed_none : (d : ℕ) (old new : WorldValue S) → new ≡ old → Closed None d old new
  closed_none d old new is = record {
    lanes_same = ap (λ (w : WorldValue S). (spans_in spans w d).lanes) is;
    stay = λ q apart. ap (λ (w : WorldValue S). span_at (spans_in spans w d).made q) is;
    sites = ap (λ (w : WorldValue S). w.sites) is;
    count = ap (λ (w : WorldValue S). length w.subscribers) is;
    still = λ lane still. subst (λ (w : WorldValue S). AreAllAttached kept w lane) (sym is) still;
  }

  closed_some : (at d id site : ℕ) (old new : WorldValue S) → span_at (spans_in spans old d).made id ≡ root_of_one_handle site → Replaced (λ s t. Chain spans does at (Some id) s t) old new d → Closed (Some (d, id)) d old new
  closed_some at d id site old new is_alone r =
      let R : S → S → Type 0 = λ s t. Chain spans does at (Some id) s t in
      let shown = chain_shown spans attaches kept is_whole does allowed shows lanes keeps_attaches keeps_whole at old new d id r in
      let one = rel_some (Some id) (spans_in spans old d) (spans_in spans new d) shown.released id refl (no_next (spans_in spans old d).made id site is_alone) in
      let kept_is : kept r.later ≡ kept r.before = sym (seen_later R old new d r kept (λ lane number. 0)) ∙ shown.kept_same ∙ seen_before R old new d r kept (λ lane number. 0) in
      record {
        lanes_same = ap (λ (x : Spans). x.lanes) one;
        stay = λ q apart. ap (λ (x : Spans). span_at x.made q) one ∙ others_stay (spans_in spans old d).made id q (λ e. apart (ap (λ (n : ℕ). Some n) (sym e)));
        sites = ap (λ (w : WorldValue S). w.sites) r.others;
        count = as_many R old new d r;
        still = λ lane still number. (let k = same_kept R old new d r kept kept_is lane.id number in let s = still number in omega (arith, k, s));
      }

  closed : (held : HeldSpan) (at d site : ℕ) (old new : WorldValue S) → IsAloneAs (spans_in spans old d).made d site held → ReplacedOn (λ id s t. Chain spans does at (Some id) s t) old new held → Closed held d old new
  closed None at d site old new is_alone r = closed_none d old new r
  closed (Some h) at d site old new is_alone r =
      subst (λ (e : ℕ). Closed (Some (e, h.1)) d old new) (sym is_alone.0)
      (closed_some at d h.1 site old new is_alone.1 (subst (λ (e : ℕ). ReplacedOn (λ id s t. Chain spans does at (Some id) s t) old new (Some (e, h.1))) is_alone.0 r))

  pub finished : (f g : Instrumented TaskFuture) (at site : ℕ) (old world new : WorldValue S) (before later : Lane) → ReadyToPoll spans kept is_whole old before → IsAlone (spans_in spans old (dispatch_serving before)).made (dispatch_serving before) site f.span
      → KeepsLent spans kept is_whole old world before later → PollsInside does activates RunPolls f old before at (Ok (polls.Ready tt)) g world later
      → ReplacedOn (λ id s t. Chain spans does at (Some id) s t) world new g.span.held → HasAll is_whole new
      → PollsTask spans hint enables kept is_whole does touches at f old before None new later
  finished f g at site old world new before later ready lone lent inside chain whole =
      let d : ℕ = dispatch_serving before in
      let polled : PollsSteps spans hint enables does touches same f.inner.steps.items inside.world inside.lane at (Ok (polls.Ready tt)) g.inner.steps.items inside.left_world inside.left_lane = inside.polled in
      let thr = through_of f g at site old world before later (polls.Ready tt) ready lone (lent.whole ready.whole) inside polled.0 polled.2 in
      let ends_it : ReplacedOn (λ id s t. Chain spans does at (Some id) s t) world new f.span.held = subst (λ (h : Handle). ReplacedOn (λ id s t. Chain spans does at (Some id) s t) world new h.held) inside.span_same chain in
      let gone = closed f.span.held at d site world new (subst (λ (made : List Span). IsAloneAs made d site f.span.held) (sym thr.made) lone.held_is) ends_it in
      record {
        left_is = polled.1;
        ready = ready_after old new before later ready thr.default (gone.count ∙ thr.count) whole (gone.still later (lent.attached ready.still)) (ap (λ xs. entries_on later.id xs) gone.lanes_same ∙ thr.none_open);
        lane_id = thr.lane_id;
        default = thr.default;
        attached = thr.attached;
        sites = gone.sites ∙ thr.sites;
        count = gone.count ∙ thr.count;
        stay = λ q apart. gone.stay q apart ∙ ap (λ (made : List Span). span_at made q) thr.made;
        carried = λ number own k handles guards moment count is own_is.
            let same : site ≡ own = cc (lone.site_is, own_is) in
            let t : UnfinishedTask = unfinished_task number own f.inner in
            let m : ℕ = moment_of k in
            let guarded : List HeldSpan = guards ++ f.span.held ∷ [] in
            let end : TaskScene S = record { world = new; lane = later; handles = handles; guards = guarded } in
            let drop : CarriesOnHandle spans hint enables does touches d m number (call.Drop number) (record { world = world; lane = later; handles = handles; guards = guarded }) end = record {
              handle = f.span;
              is = is;
              did = (refl, subst (λ (n : ℕ). ReplacedOn (λ id s t. Chain spans does n (Some id) s t) world new f.span.held) moment ends_it);
              handles = refl;
              guards = refl;
            } in
            subst (λ (o : Option (List Step)). Carries spans hint enables does touches d (on_first_lane m (call.Enter number) ∷ map (λ s. on_first_lane m (step_call old.sites t s)) (steps_now f.inner.steps.items) ++ on_first_lane m (call.Exit k) ∷ drop_at_end k number o)
            (record { world = old; lane = before; handles = handles; guards = guards }) end) (sym polled.1)
            (thr.carried t k handles guards (on_first_lane m (call.Drop number) ∷ []) end moment count (sym same) refl is (end, drop, refl));
      }

module _ {S : Type 0} (spans : S → Spans) (is_whole : S → Type 0) (does : S → SubscriberCall → S → Type 0) (keeps_whole : (s : S) (call : SubscriberCall) (t : S) → does s call t → is_whole s → is_whole t) (at : ℕ) where
  chain_whole : (o : Option ℕ) (s t : S) → Chain spans does at o s t → is_whole s → is_whole t
  chain_whole _ _ _ (ended s) whole = whole
  chain_whole _ _ _ (closes id s m t did rest) whole = chain_whole (parent_to_release (spans s).made id) m t rest (keeps_whole s (TryClose id at) m did whole)

  -- all subscribers are whole after a close
  pub closed_whole : (held : HeldSpan) (old new : WorldValue S) → ReplacedOn (λ id s t. Chain spans does at (Some id) s t) old new held → HasAll is_whole old → HasAll is_whole new
  closed_whole None old new r whole = subst (λ (w : WorldValue S). HasAll is_whole w) (sym r) whole
  closed_whole (Some h) old new r whole = keeps_all (λ s t. Chain spans does at (Some h.1) s t) old new h.0 r is_whole (λ s t chain w. chain_whole (Some h.1) s t chain w) whole
