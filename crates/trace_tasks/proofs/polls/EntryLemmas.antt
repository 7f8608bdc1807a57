-- An entry of a task's span, its steps and the exit are the requests of its poll.
use Rattle.std.proofs.Common.{◌≡◌, ℕ, List, [], ◌∷◌, ◌++◌, length, map, Bool, Option, Some, None, refl, sym, ap, subst, ◌∙◌, slice_get, zero, suc}
use Rattle.trace_tasks.proofs.Common.{Callsite, Lane, LevelFilter, SubscriberCall, Enter, Exit, spans_after_call, with_span_entry, with_span_exit, CallKeepsLanes, attached_count, WorldValue, Span, Spans, span_at, entries_on, current_on, without_hold, Replaced, spans_in, no_spans, Handle, HeldSpan, ReplacedOn, BeginsInside, as_many, seen_before, seen_later, HasAll, PartCall, StaysStack, Request, on_first_lane, Step, steps_now, StepsOn, TaskScene, CarriesEnter, CarriesExit, Carries, UnfinishedTask, step_call, moment_of, root_of_one_handle, IsAloneAs, SameAttached}
use Rattle.span_script.specs.declared.request.Call.TheVariants as call
use Rattle.trace_tasks.proofs.queues.RootLemmas.{back, entered_made, entered_entries, entered_current, exited_made, exited_entries, none_current}
use Rattle.trace_tasks.proofs.polls.AttachedLemmas.{entered_and_left}
use Rattle.trace_tasks.proofs.polls.CarriesLemmas.{carry_then}
use Rattle.trace_tasks.proofs.polls.StepLemmas.{IsAt, disabled, enabled, steps_carry}

pub get_push : {X : Type 0} (xs : List X) (x : X) (n : ℕ) → length xs ≡ n → slice_get (xs ++ x ∷ []) n ≡ Some x
get_push [] x zero is = refl
get_push [] x (suc n) is = absurd (cc is)
get_push (y ∷ xs) x zero is = absurd (cc is)
get_push (y ∷ xs) x (suc n) is = get_push xs x n (cc is)

pub get_before : {X : Type 0} (xs : List X) (x y : X) (n : ℕ) → slice_get xs n ≡ Some y → slice_get (xs ++ x ∷ []) n ≡ Some y
get_before [] x y n is = absurd (cc is)
get_before (z ∷ xs) x y zero is = is
get_before (z ∷ xs) x y (suc n) is = get_before xs x y n is

-- the current span of a lane on which a task's handle was entered
abbrev pub current_by : HeldSpan → ℕ → Option (ℕ × ℕ)
current_by None site = None
current_by (Some h) site = Some (h.1, site)

module _ {S : Type 0} (spans : S → Spans) (hint : S → Option LevelFilter) (enables : S → ℕ → Callsite → Bool) (attaches : S → Bool) (kept : S → ℕ → ℕ → ℕ) (is_whole : S → Type 0) (does : S → SubscriberCall → S → Type 0) (touches : S → PartCall → S → Type 0) (d : ℕ)
    (shows : (s : S) (call : SubscriberCall) (t : S) → does s call t → spans t ≡ spans_after_call (spans s) call) (lanes : (s : S) (call : SubscriberCall) (t : S) → does s call t → CallKeepsLanes (attaches s) (kept s) call (kept t))
    (stays : (s : S) (call : PartCall) (t : S) → touches s call t → StaysStack spans kept attaches is_whole s t)
    (none_kept : (s : S) (lane number : ℕ) → is_whole s → entries_on lane (spans s).lanes ≡ [] → kept s lane number ≡ 0) where
  -- what came of an entry, steps and the exit
  pub record Through (held : HeldSpan) (own : Option ℕ) (site at : ℕ) (steps : List Step) (old new : WorldValue S) (before later : Lane) : Type 0 where
    pub made : (spans_in spans new d).made ≡ (spans_in spans old d).made
    pub none_open : entries_on later.id (spans_in spans new d).lanes ≡ []
    pub lane_id : later.id ≡ before.id
    pub default : later.default ≡ before.default
    pub attached : SameAttached before later
    pub sites : new.sites ≡ old.sites
    pub count : length new.subscribers ≡ length old.subscribers
    pub carried : (t : UnfinishedTask) (k : ℕ) (handles : List Handle) (guards : List HeldSpan) (more : List Request) (end : TaskScene S) → at ≡ moment_of k → length guards ≡ k → t.site ≡ site → t.steps ≡ steps
        → slice_get handles t.number ≡ Some (record { held = held; site = own })
        → Carries spans hint enables does touches d more (record { world = new; lane = later; handles = handles; guards = guards ++ held ∷ [] }) end
        → Carries spans hint enables does touches d (on_first_lane (moment_of k) (call.Enter t.number) ∷ map (λ s. on_first_lane (moment_of k) (step_call old.sites t s)) (steps_now t.steps) ++ on_first_lane (moment_of k) (call.Exit k) ∷ more)
        (record { world = old; lane = before; handles = handles; guards = guards }) end

  module _ (held : HeldSpan) (own : Option ℕ) (site at : ℕ) (steps : List Step) (old world left new : WorldValue S) (before lane later : Lane) (default : before.default ≡ Some d) (begins : BeginsInside does at held old before world lane)
      (on : StepsOn spans hint enables does touches lane at (steps_now steps) world left) (exits : ReplacedOn (λ id s t. does s (Exit id at lane later) t) left new held) (none : held ≡ None → later ≡ lane)
      (sites : world.sites ≡ old.sites) (lane_default : lane.default ≡ before.default) (current : current_on lane.id (spans_in spans world d) ≡ current_by held site)
      (here : IsAt d site (record { held = held; site = own }) (current_by held site)) where
    carried : (t : UnfinishedTask) (k : ℕ) (handles : List Handle) (guards : List HeldSpan) (more : List Request) (end : TaskScene S) → at ≡ moment_of k → length guards ≡ k → t.site ≡ site → t.steps ≡ steps
        → slice_get handles t.number ≡ Some (record { held = held; site = own })
        → Carries spans hint enables does touches d more (record { world = new; lane = later; handles = handles; guards = guards ++ held ∷ [] }) end
        → Carries spans hint enables does touches d (on_first_lane (moment_of k) (call.Enter t.number) ∷ map (λ s. on_first_lane (moment_of k) (step_call old.sites t s)) (steps_now t.steps) ++ on_first_lane (moment_of k) (call.Exit k) ∷ more)
        (record { world = old; lane = before; handles = handles; guards = guards }) end
    carried t k handles guards more end moment count site_is steps_are is rest =
        let m : ℕ = moment_of k in
        let guarded : List HeldSpan = guards ++ held ∷ [] in
        let inside : TaskScene S = record { world = world; lane = lane; handles = handles; guards = guarded } in
        let leaving : TaskScene S = record { world = left; lane = lane; handles = handles; guards = guarded } in
        let now : at ≡ m = moment in
        let enter : CarriesEnter spans hint enables does touches d m t.number (record { world = old; lane = before; handles = handles; guards = guards }) inside = record {
          handle = record { held = held; site = own };
          is = is;
          begins = subst (λ (n : ℕ). BeginsInside does n held old before world lane) now begins;
          handles = refl;
          guards = refl;
        } in
        let did = steps_carry spans hint enables attaches kept is_whole does touches d shows lanes stays old.sites t m lane handles guarded (lane_default ∙ default) (record { held = held; site = own }) (current_by held site)
        (subst (λ (n : ℕ). IsAt d n (record { held = held; site = own }) (current_by held site)) (sym site_is) here) is t.steps world left sites current
        (subst (λ (xs : List Step). StepsOn spans hint enables does touches lane m (steps_now xs) world left) (sym steps_are) (subst (λ (n : ℕ). StepsOn spans hint enables does touches lane n (steps_now steps) world left) now on)) in
        let exit : CarriesExit spans hint enables does touches d m k leaving (record { world = new; lane = later; handles = handles; guards = guarded }) = record {
          held = held;
          is = get_push guards held k count;
          exited = subst (λ (n : ℕ). ReplacedOn (λ id s t. does s (Exit id n lane later) t) left new held) now exits;
          none = none;
          handles = refl;
          guards = refl;
        } in
        (inside, enter, carry_then spans hint enables does touches d (map (λ s. on_first_lane m (step_call old.sites t s)) (steps_now t.steps)) (on_first_lane m (call.Exit k) ∷ more) inside leaving end did.0 (_, exit, rest))

  -- of a disabled handle: nothing is entered
  pub through_none : (own : Option ℕ) (site at : ℕ) (steps : List Step) (old world left new : WorldValue S) (before lane later : Lane) → before.default ≡ Some d → own ≡ Some site
      → entries_on before.id (spans_in spans old d).lanes ≡ [] → BeginsInside does at None old before world lane → StepsOn spans hint enables does touches lane at (steps_now steps) world left
      → ReplacedOn (λ id s t. does s (Exit id at lane later) t) left new None → (◌≡◌ {A = HeldSpan} None None → later ≡ lane) → Through None own site at steps old new before later
  through_none own site at steps old world left new before lane later default own_is none_open begins on exits none =
      let here : IsAt d site (record { held = None; site = own }) None = subst (λ (o : Option ℕ). IsAt d site (record { held = None; site = o }) None) (sym own_is) disabled in
      let lane_same : lane ≡ before = begins.none refl in
      let world_same : world ≡ old = begins.entered in
      let current : current_on lane.id (spans_in spans world d) ≡ None =
      ap (λ (l : Lane). current_on l.id (spans_in spans world d)) lane_same ∙ ap (λ (w : WorldValue S). current_on before.id (spans_in spans w d)) world_same ∙ none_current (spans_in spans old d) before.id none_open in
      let lane_default : lane.default ≡ before.default = ap (λ (l : Lane). l.default) lane_same in
      let did = steps_carry spans hint enables attaches kept is_whole does touches d shows lanes stays old.sites (record { number = 0; site = site; steps = steps }) at lane (record { held = None; site = own } ∷ []) [] (lane_default ∙ default)
      (record { held = None; site = own }) None here refl steps world left (ap (λ (w : WorldValue S). w.sites) world_same) current on in
      let same : spans_in spans new d ≡ spans_in spans old d = ap (λ (w : WorldValue S). spans_in spans w d) exits ∙ did.1.spans_same ∙ ap (λ (w : WorldValue S). spans_in spans w d) world_same in
      let at_end : later ≡ before = none refl ∙ lane_same in
      record {
        made = ap (λ (x : Spans). x.made) same;
        none_open = ap (λ (l : Lane). entries_on l.id (spans_in spans new d).lanes) at_end ∙ ap (λ (x : Spans). entries_on before.id x.lanes) same ∙ none_open;
        lane_id = ap (λ (l : Lane). l.id) at_end;
        default = ap (λ (l : Lane). l.default) at_end;
        attached = λ number. ap (λ (l : Lane). attached_count number l) at_end;
        sites = ap (λ (w : WorldValue S). w.sites) exits ∙ did.1.sites ∙ ap (λ (w : WorldValue S). w.sites) world_same;
        count = ap (λ (w : WorldValue S). length w.subscribers) exits ∙ did.1.count ∙ ap (λ (w : WorldValue S). length w.subscribers) world_same;
        carried = carried None own site at steps old world left new before lane later default begins on exits none (ap (λ (w : WorldValue S). w.sites) world_same) lane_default current here;
      }

  -- of an enabled handle
  pub through_some : (id : ℕ) (own : Option ℕ) (site at : ℕ) (steps : List Step) (old world left new : WorldValue S) (before lane later : Lane) → before.default ≡ Some d → own ≡ Some site
      → HasAll is_whole old → HasAll is_whole new → entries_on before.id (spans_in spans old d).lanes ≡ [] → span_at (spans_in spans old d).made id ≡ root_of_one_handle site
      → BeginsInside does at (Some (d, id)) old before world lane → StepsOn spans hint enables does touches lane at (steps_now steps) world left
      → ReplacedOn (λ id s t. does s (Exit id at lane later) t) left new (Some (d, id)) → Through (Some (d, id)) own site at steps old new before later
  through_some id own site at steps old world left new before lane later default own_is whole whole_after none_open is_alone begins on exits =
      let here : IsAt d site (record { held = Some (d, id); site = own }) (Some (id, site)) = subst (λ (o : Option ℕ). IsAt d site (record { held = Some (d, id); site = o }) (Some (id, site))) (sym own_is) (enabled id) in
      let e : Replaced (λ s t. does s (Enter id at before lane) t) old world d = begins.entered in
      let el = lanes e.before (Enter id at before lane) e.later e.did in
      let x : Spans = spans_in spans old d in
      let entered_spans : spans_in spans world d ≡ with_span_entry x id before.id =
      seen_later (λ (s t : S). does s (Enter id at before lane) t) old world d e spans no_spans ∙ shows e.before (Enter id at before lane) e.later e.did
      ∙ ap (λ (y : Spans). with_span_entry y id before.id) (sym (seen_before (λ (s t : S). does s (Enter id at before lane) t) old world d e spans no_spans)) in
      let current : current_on lane.id (spans_in spans world d) ≡ Some (id, site) =
      ap (λ (n : ℕ). current_on n (spans_in spans world d)) el.0.id ∙ ap (λ (y : Spans). current_on before.id y) entered_spans ∙ entered_current x id before.id none_open site is_alone in
      let world_sites : world.sites ≡ old.sites = ap (λ (w : WorldValue S). w.sites) e.others in
      let did = steps_carry spans hint enables attaches kept is_whole does touches d shows lanes stays old.sites (record { number = 0; site = site; steps = steps }) at lane (record { held = Some (d, id); site = own } ∷ []) [] (el.0.default ∙ default)
      (record { held = Some (d, id); site = own }) (Some (id, site)) here refl steps world left world_sites current on in
      let q : Replaced (λ s t. does s (Exit id at lane later) t) left new d = exits in
      let ql = lanes q.before (Exit id at lane later) q.later q.did in
      let y : Spans = with_span_entry x id before.id in
      let left_spans : spans_in spans left d ≡ y = did.1.spans_same ∙ entered_spans in
      let exited_spans : spans_in spans new d ≡ with_span_exit y id before.id =
      seen_later (λ (s t : S). does s (Exit id at lane later) t) left new d q spans no_spans ∙ shows q.before (Exit id at lane later) q.later q.did
      ∙ ap (λ (z : Spans). with_span_exit z id lane.id) (sym (seen_before (λ (s t : S). does s (Exit id at lane later) t) left new d q spans no_spans))
      ∙ ap (λ (z : Spans). with_span_exit z id lane.id) left_spans ∙ ap (λ (n : ℕ). with_span_exit y id n) el.0.id in
      let one : entries_on before.id y.lanes ≡ id ∷ [] = entered_entries x id before.id none_open in
      let none_left : entries_on later.id (spans_in spans new d).lanes ≡ [] =
      ap (λ (n : ℕ). entries_on n (spans_in spans new d).lanes) (ql.0.id ∙ el.0.id) ∙ ap (λ (z : Spans). entries_on before.id z.lanes) exited_spans ∙ exited_entries y id before.id one in
      record {
        made = ap (λ (z : Spans). z.made) exited_spans ∙ exited_made y id before.id one ∙ ap (λ (made : List Span). without_hold made id) (entered_made x id before.id none_open) ∙ back x.made id site is_alone;
        none_open = none_left;
        lane_id = ql.0.id ∙ el.0.id;
        default = ql.0.default ∙ el.0.default;
        attached = entered_and_left spans attaches kept is_whole does lanes none_kept d id at old world left new before lane later e did.1.kept_same q whole whole_after none_open none_left;
        sites = ap (λ (w : WorldValue S). w.sites) q.others ∙ did.1.sites ∙ world_sites;
        count = as_many (λ (s t : S). does s (Exit id at lane later) t) left new d q ∙ did.1.count ∙ as_many (λ (s t : S). does s (Enter id at before lane) t) old world d e;
        carried = carried (Some (d, id)) own site at steps old world left new before lane later default begins on exits (λ no. absurd (cc no)) world_sites el.0.default current here;
      }

  -- of either
  pub through : (held : HeldSpan) (own : Option ℕ) (site at : ℕ) (steps : List Step) (old world left new : WorldValue S) (before lane later : Lane) → before.default ≡ Some d → own ≡ Some site
      → HasAll is_whole old → HasAll is_whole new → entries_on before.id (spans_in spans old d).lanes ≡ [] → IsAloneAs (spans_in spans old d).made d site held
      → BeginsInside does at held old before world lane → StepsOn spans hint enables does touches lane at (steps_now steps) world left
      → ReplacedOn (λ id s t. does s (Exit id at lane later) t) left new held → (held ≡ None → later ≡ lane) → Through held own site at steps old new before later
  through None own site at steps old world left new before lane later default own_is whole whole_after none_open is_alone begins on exits none = through_none own site at steps old world left new before lane later default own_is none_open begins on exits none
  through (Some h) own site at steps old world left new before lane later default own_is whole whole_after none_open is_alone begins on exits none =
      subst (λ (e : ℕ). Through (Some (e, h.1)) own site at steps old new before later) (sym is_alone.0)
      (through_some h.1 own site at steps old world left new before lane later default own_is whole whole_after none_open is_alone.1
      (subst (λ (e : ℕ). BeginsInside does at (Some (e, h.1)) old before world lane) is_alone.0 begins) on
      (subst (λ (e : ℕ). ReplacedOn (λ id s t. does s (Exit id at lane later) t) left new (Some (e, h.1))) is_alone.0 exits))
