-- A poll of a task that was refused.
use Rattle.std.proofs.Common.{◌≡◌, ℕ, List, [], ◌∷◌, ◌++◌, length, map, Bool, Option, Some, None, Err, refl, sym, ap, subst, ◌∙◌, slice_get, inl, inr, ◌⊎◌}
use Rattle.trace_tasks.proofs.Common.{EnterError, Callsite, Lane, LevelFilter, SubscriberCall, Enter, spans_after_call, with_span_entry, CallKeepsLanes, WorldValue, Spans, entries_on, current_on, Replaced, Chain, spans_in, no_spans, Handle, HeldSpan, ReplacedOn, BeginsInside, KeepsLaneButRoom, MeetsFullLane, seen_before, seen_later, Instrumented, PollResult, FailsToEnter, PollsInside, PartCall, StaysStack, Request, on_first_lane, TaskFuture, Step, PollsSteps, WantsMemory, untouched, spare, TaskScene, CarriesEnter, CarriesExit, CarriesOnHandle, UnfinishedTask, step_call, moment_of, StopsPoll, TurnStops, MeetsFull, dispatch_serving, ReadyToPoll, IsAlone, IsAloneAs, unfinished_task}
use Rattle.span_script.specs.declared.request.Call.TheVariants as call
use Rattle.trace_tasks.proofs.queues.RootLemmas.{entered_current, none_current}
use Rattle.trace_tasks.proofs.polls.StepLemmas.{IsAt, disabled, enabled, first_acts, acts_carry}
use Rattle.trace_tasks.proofs.polls.EntryLemmas.{get_push, current_by}

same_lane : (lane : Lane) → KeepsLaneButRoom lane lane
same_lane lane = record { id = refl; name = refl; default = refl; live = refl }

map_both : {A B : Type 0} (f : A → B) (xs ys : List A) → map f (xs ++ ys) ≡ map f xs ++ map f ys
map_both f [] ys = refl
map_both f (x ∷ xs) ys = ap (λ zs. f x ∷ zs) (map_both f xs ys)

module _ {S : Type 0} (spans : S → Spans) (hint : S → Option LevelFilter) (enables : S → ℕ → Callsite → Bool) (attaches : S → Bool) (activates : S → ℕ → Bool) (kept : S → ℕ → ℕ → ℕ) (is_whole : S → Type 0)
    (does : S → SubscriberCall → S → Type 0) (touches : S → PartCall → S → Type 0) (same : S → S → Type 0)
    (shows : (s : S) (call : SubscriberCall) (t : S) → does s call t → spans t ≡ spans_after_call (spans s) call) (lanes : (s : S) (call : SubscriberCall) (t : S) → does s call t → CallKeepsLanes (attaches s) (kept s) call (kept t))
    (stays : (s : S) (call : PartCall) (t : S) → touches s call t → StaysStack spans kept attaches is_whole s t) where
  -- what is current once a task's span was entered
  record Inner (d : ℕ) (held : HeldSpan) (own : Option ℕ) (site : ℕ) (old world : WorldValue S) (before lane : Lane) : Type 0 where
    sites : world.sites ≡ old.sites
    default : lane.default ≡ before.default
    current : current_on lane.id (spans_in spans world d) ≡ current_by held site
    here : IsAt d site (record { held = held; site = own }) (current_by held site)

  inner : (d : ℕ) (held : HeldSpan) (own : Option ℕ) (site at : ℕ) (old world : WorldValue S) (before lane : Lane) → own ≡ Some site → entries_on before.id (spans_in spans old d).lanes ≡ []
      → IsAloneAs (spans_in spans old d).made d site held → BeginsInside does at held old before world lane → Inner d held own site old world before lane
  inner d None own site at old world before lane own_is none_open lone begins =
      let lane_same : lane ≡ before = begins.none refl in
      let world_same : world ≡ old = begins.entered in
      record {
        sites = ap (λ (w : WorldValue S). w.sites) world_same;
        default = ap (λ (l : Lane). l.default) lane_same;
        current = ap (λ (l : Lane). current_on l.id (spans_in spans world d)) lane_same ∙ ap (λ (w : WorldValue S). current_on before.id (spans_in spans w d)) world_same ∙ none_current (spans_in spans old d) before.id none_open;
        here = subst (λ (o : Option ℕ). IsAt d site (record { held = None; site = o }) None) (sym own_is) disabled;
      }
  inner d (Some h) own site at old world before lane own_is none_open lone begins =
      subst (λ (e : ℕ). Inner d (Some (e, h.1)) own site old world before lane) (sym lone.0)
      (by_own (subst (λ (e : ℕ). BeginsInside does at (Some (e, h.1)) old before world lane) lone.0 begins)) where
        by_own : BeginsInside does at (Some (d, h.1)) old before world lane → Inner d (Some (d, h.1)) own site old world before lane
        by_own begins =
            let e : Replaced (λ s t. does s (Enter h.1 at before lane) t) old world d = begins.entered in
            let el = lanes e.before (Enter h.1 at before lane) e.later e.did in
            let x : Spans = spans_in spans old d in
            let entered_spans : spans_in spans world d ≡ with_span_entry x h.1 before.id =
            seen_later (λ (s t : S). does s (Enter h.1 at before lane) t) old world d e spans no_spans ∙ shows e.before (Enter h.1 at before lane) e.later e.did
            ∙ ap (λ (y : Spans). with_span_entry y h.1 before.id) (sym (seen_before (λ (s t : S). does s (Enter h.1 at before lane) t) old world d e spans no_spans)) in
            record {
              sites = ap (λ (w : WorldValue S). w.sites) e.others;
              default = el.0.default;
              current = ap (λ (n : ℕ). current_on n (spans_in spans world d)) el.0.id ∙ ap (λ (y : Spans). current_on before.id y) entered_spans ∙ entered_current x h.1 before.id none_open site lone.1;
              here = subst (λ (o : Option ℕ). IsAt d site (record { held = Some (d, h.1); site = o }) (Some (h.1, site))) (sym own_is) (enabled h.1);
            }

  -- what a poll of a task's steps is
  abbrev pub RunPolls : TaskFuture → WorldValue S → Lane → ℕ → PollResult (Unit {0}) → TaskFuture → WorldValue S → Lane → Type 0
  RunPolls f world lane at r g new later = PollsSteps spans hint enables does touches same f.steps.items world lane at r g.steps.items new later

  module _ (f g : Instrumented TaskFuture) (site : ℕ) (old world new : WorldValue S) (before later : Lane) (e : EnterError) (ready : ReadyToPoll spans kept is_whole old before) (lone : IsAlone (spans_in spans old (dispatch_serving before)).made (dispatch_serving before) site f.span)
      (number k : ℕ) (handles : List Handle) (guards : List HeldSpan) (is : slice_get handles number ≡ Some f.span) (count : length guards ≡ k) where
    abbrev d : ℕ
    d = dispatch_serving before

    abbrev t : UnfinishedTask
    t = unfinished_task number site f.inner

    abbrev m : ℕ
    m = moment_of k

    abbrev guarded : List HeldSpan
    guarded = guards ++ f.span.held ∷ []

    abbrev start : TaskScene S
    start = record { world = old; lane = before; handles = handles; guards = guards }

    drop_at : (gs : List HeldSpan) → ReplacedOn (λ id s t. Chain spans does m (Some id) s t) world new f.span.held
        → CarriesOnHandle spans hint enables does touches d m number (call.Drop number) (record { world = world; lane = later; handles = handles; guards = gs }) (record { world = new; lane = later; handles = handles; guards = gs })
    drop_at gs chain = record { handle = f.span; is = is; did = (refl, chain); handles = refl; guards = refl }

    -- the entry was refused
    wants_on : (held : HeldSpan) → ReplacedOn (λ id s t. same s t) old world held → WantsMemory spans hint enables does touches same m old world
    wants_on None nothing = untouched nothing
    wants_on (Some h) room = spare h.0 room

    meets : (held : HeldSpan) → (held ≡ None → ⊥) → IsAloneAs (spans_in spans old d).made d site held → ReplacedOn (λ id s t. same s t) old world held → MeetsFullLane activates old before held → MeetsFull spans hint enables activates does touches same d start
    meets None some lone_as room full = absurd (some refl)
    meets (Some h) some lone_as room full = record {
      subscriber = room.before;
      there = subst (λ (n : ℕ). slice_get old.subscribers n ≡ Some room.before) lone_as.0 room.there;
      id = h.1;
      attaches = full.0 room.before room.there;
      full = full.1;
    }

    refused : FailsToEnter {A = Unit {0}} same activates f old before (Err e) g world later → ReplacedOn (λ id s t. Chain spans does m (Some id) s t) world new f.span.held → StopsPoll spans hint enables activates does touches same d old.sites m k t e start new later
    refused r chain = record {
      part = [];
      in_poll = (_, _, refl);
      not_entered = λ is_full. refl;
      stopped = record {
        here = start;
        carried = refl;
        failed = record { world = world; lane = later; handles = handles; guards = guards };
        fails = record { world = wants_on f.span.held r.nothing; lane = r.lane_same; handles = refl; guards = refl };
        guards = guards;
        closed = (_, drop_at guards chain, refl);
        full = λ is_full. meets f.span.held r.enabled lone.held_is r.nothing (r.full (cc (r.is, is_full)));
      };
      handles = refl;
    }

    -- a step wanted memory
    inside : PollsInside does activates RunPolls f old before m (Err e) g world later → ReplacedOn (λ id s t. Chain spans does m (Some id) s t) world new f.span.held → StopsPoll spans hint enables activates does touches same d old.sites m k t e start new later
    inside i chain =
        let polled : PollsSteps spans hint enables does touches same f.inner.steps.items i.world i.lane m (Err e) g.inner.steps.items i.left_world i.left_lane = i.polled in
        let stop = polled.2 in
        let inn = inner d f.span.held f.span.site site m old i.world before i.lane lone.site_is ready.none_open lone.held_is i.entered in
        let f' : Step → Request = λ s. on_first_lane m (step_call old.sites t s) in
        let enter : CarriesEnter spans hint enables does touches d m number start (record { world = i.world; lane = i.lane; handles = handles; guards = guarded }) = record {
          handle = f.span;
          is = is;
          begins = i.entered;
          handles = refl;
          guards = refl;
        } in
        let did = acts_carry spans hint enables attaches kept is_whole does touches d shows lanes stays old.sites t m i.lane handles guarded (inn.default ∙ ready.default) f.span (current_by f.span.held site) inn.here is
        stop.done (first_acts stop.done (stop.refused ∷ stop.others) f.inner.steps.items stop.within) i.world stop.world inn.sites inn.current stop.did in
        let exit : CarriesExit spans hint enables does touches d m k (record { world = i.left_world; lane = i.left_lane; handles = handles; guards = guarded }) (record { world = world; lane = later; handles = handles; guards = guarded }) = record {
          held = f.span.held;
          is = get_push guards f.span.held k count;
          exited = i.exited;
          none = i.none;
          handles = refl;
          guards = refl;
        } in
        record {
          part = on_first_lane m (call.Enter number) ∷ map f' stop.done;
          in_poll = (
            f' stop.refused,
            map f' stop.others,
            ap (λ (xs : List Request). on_first_lane m (call.Enter number) ∷ xs) (sym (map_both f' stop.done (stop.refused ∷ stop.others)) ∙ ap (λ (xs : List Step). map f' xs) stop.within),
          );
          not_entered = λ is_full. absurd (cc (polled.1, is_full));
          stopped = record {
            here = record { world = stop.world; lane = i.lane; handles = handles; guards = guarded };
            carried = (_, enter, did.0);
            failed = record { world = i.left_world; lane = i.left_lane; handles = handles; guards = guarded };
            fails = record { world = stop.wants; lane = subst (λ (l : Lane). KeepsLaneButRoom i.lane l) (sym polled.0) (same_lane i.lane); handles = refl; guards = refl };
            guards = guarded;
            closed = (_, exit, (_, drop_at guarded chain, refl));
            full = λ is_full. absurd (cc (polled.1, is_full));
          };
          handles = refl;
        }

    either : FailsToEnter {A = Unit {0}} same activates f old before (Err e) g world later ⊎ PollsInside does activates RunPolls f old before m (Err e) g world later → ReplacedOn (λ id s t. Chain spans does m (Some id) s t) world new g.span.held
        → StopsPoll spans hint enables activates does touches same d old.sites m k t e start new later
    either (inl r) chain = refused r (subst (λ (h : Instrumented TaskFuture). ReplacedOn (λ id s t. Chain spans does m (Some id) s t) world new h.span.held) r.future_same chain)
    either (inr i) chain = inside i (subst (λ (h : Handle). ReplacedOn (λ id s t. Chain spans does m (Some id) s t) world new h.held) i.span_same chain)

  pub stops : (f g : Instrumented TaskFuture) (at site : ℕ) (old world new : WorldValue S) (before later : Lane) (e : EnterError) → ReadyToPoll spans kept is_whole old before → IsAlone (spans_in spans old (dispatch_serving before)).made (dispatch_serving before) site f.span
      → FailsToEnter {A = Unit {0}} same activates f old before (Err e) g world later ⊎ PollsInside does activates RunPolls f old before at (Err e) g world later → ReplacedOn (λ id s t. Chain spans does at (Some id) s t) world new g.span.held
      → TurnStops spans hint enables activates does touches same at f old before e new later
  stops f g at site old world new before later e ready lone polled chain = record {
    stops = λ number own k handles guards moment is count own_is.
        let same_site : site ≡ own = cc (lone.site_is, own_is) in
        subst (λ (n : ℕ). StopsPoll spans hint enables activates does touches same (dispatch_serving before) old.sites n k (unfinished_task number own f.inner) e (record { world = old; lane = before; handles = handles; guards = guards }) new later) (sym moment)
        (either f g own old world new before later e ready (subst (λ (x : ℕ). IsAlone (spans_in spans old (dispatch_serving before)).made (dispatch_serving before) x f.span) same_site lone) number k handles guards is count
        (subst (λ (n : ℕ). FailsToEnter {A = Unit {0}} same activates f old before (Err e) g world later ⊎ PollsInside does activates RunPolls f old before n (Err e) g world later) moment polled)
        (subst (λ (n : ℕ). ReplacedOn (λ id s t. Chain spans does n (Some id) s t) world new g.span.held) moment chain));
  }
