-- Steps on the lane's current span are requests on the handle that was entered.
use Rattle.std.proofs.Common.{◌≡◌, ℕ, List, [], ◌∷◌, ◌++◌, length, map, Bool, true, false, Option, Some, None, refl, sym, ap, subst, ◌∙◌, slice_get, if◌then◌else◌, filter_map, is_some}
use Rattle.trace_tasks.proofs.Common.{cons_option, Callsite, ValueSet, Lane, LevelFilter, SubscriberCall, Records, Event, spans_after_call, place_of, CallKeepsLanes, WorldValue, dispatch_on, Spans, current_on, Replaced, spans_in, kept_in, no_spans, Handle, HeldSpan, RecordsAt, handle_of, as_many, seen_before, seen_later, PartCall, Applies, StaysStack, on_first_lane, Step, steps_now, CallsIf, TellsAt, RecordsTo, StepAt, StepIf, StepOn, StepsOn, Fields, declared_value, values_of, values_by, UnfinishedTask, declared_ones, step_call, TaskScene, CarriesCall, Carries}
use Rattle.std.specs.Option.{option_map}
use Rattle.trace_base.specs.declared.field.Value.{Value}
use Rattle.trace_base.specs.declared.span.Parent.TheVariants as parent
use Rattle.trace_tasks.specs.declared.script.Step.TheVariants as step

-- what isn't declared has no place
placed_one : (c : Callsite) (f : List ℕ × Value) (fs : Fields) → filter_map (declared_value c) (declared_ones (Some c) fs) ≡ filter_map (declared_value c) fs → (p : Option ℕ) → place_of f.0 c ≡ p
    → filter_map (declared_value c) (declared_ones (Some c) (f ∷ fs)) ≡ filter_map (declared_value c) (f ∷ fs)
placed_one c f fs rest None is =
    ap (λ (q : Option ℕ). filter_map (declared_value c) (cons_option (if is_some q then Some f else None) (declared_ones (Some c) fs))) is
    ∙ rest ∙ sym (ap (λ (q : Option ℕ). cons_option (option_map (λ place. (place, f.1)) q) (filter_map (declared_value c) fs)) is)
placed_one c f fs rest (Some n) is =
    ap (λ (q : Option ℕ). filter_map (declared_value c) (cons_option (if is_some q then Some f else None) (declared_ones (Some c) fs))) is
    ∙ ap (λ (xs : List (ℕ × Value)). cons_option (declared_value c f) xs) rest

placed_declared : (c : Callsite) (fields : Fields) → filter_map (declared_value c) (declared_ones (Some c) fields) ≡ filter_map (declared_value c) fields
placed_declared c [] = refl
placed_declared c (f ∷ fs) = placed_one c f fs (placed_declared c fs) (place_of f.0 c) refl

-- ---- a handle and what is current once it is entered

pub data IsAt (d site : ℕ) : Handle → Option (ℕ × ℕ) → Type 0 where
  disabled : IsAt d site (record { held = None; site = Some site }) None
  enabled : (id : ℕ) → IsAt d site (handle_of d id site) (Some (id, site))

-- ---- steps none of which ends a poll

abbrev pub AreActs : List Step → Type 0
AreActs [] = Unit {0}
AreActs (s ∷ steps) = (s ≡ step.Yield → ⊥) × AreActs steps

now_acts : (steps : List Step) → AreActs (steps_now steps)
now_acts [] = tt
now_acts (step.Yield ∷ steps) = tt
now_acts (step.Event site fields ∷ steps) = ((λ e. cc e), now_acts steps)
now_acts (step.Record fields ∷ steps) = ((λ e. cc e), now_acts steps)
now_acts (step.SetAttribute key value ∷ steps) = ((λ e. cc e), now_acts steps)

acts_front : (done others : List Step) → AreActs (done ++ others) → AreActs done
acts_front [] others acts = tt
acts_front (s ∷ done) others acts = (acts.0, acts_front done others acts.1)

-- the first ones of those up to a yield
pub first_acts : (done others steps : List Step) → done ++ others ≡ steps_now steps → AreActs done
first_acts done others steps is = acts_front done others (subst (λ (xs : List Step). AreActs xs) (sym is) (now_acts steps))

module _ {S : Type 0} (spans : S → Spans) (hint : S → Option LevelFilter) (enables : S → ℕ → Callsite → Bool) (attaches : S → Bool) (kept : S → ℕ → ℕ → ℕ) (is_whole : S → Type 0) (does : S → SubscriberCall → S → Type 0) (touches : S → PartCall → S → Type 0) (d : ℕ)
    (shows : (s : S) (call : SubscriberCall) (t : S) → does s call t → spans t ≡ spans_after_call (spans s) call) (lanes : (s : S) (call : SubscriberCall) (t : S) → does s call t → CallKeepsLanes (attaches s) (kept s) call (kept t))
    (stays : (s : S) (call : PartCall) (t : S) → touches s call t → StaysStack spans kept attaches is_whole s t) where
  -- what a step leaves of the world
  pub record Leaves (old new : WorldValue S) : Type 0 where
    pub spans_same : spans_in spans new d ≡ spans_in spans old d
    pub kept_same : kept_in kept new d ≡ kept_in kept old d
    pub sites : new.sites ≡ old.sites
    pub count : length new.subscribers ≡ length old.subscribers

  leaves_none : (old new : WorldValue S) → new ≡ old → Leaves old new
  leaves_none old new is = record {
    spans_same = ap (λ (w : WorldValue S). spans_in spans w d) is;
    kept_same = ap (λ (w : WorldValue S). kept_in kept w d) is;
    sites = ap (λ (w : WorldValue S). w.sites) is;
    count = ap (λ (w : WorldValue S). length w.subscribers) is;
  }

  leaves_one : (R : S → S → Type 0) (old new : WorldValue S) → ((s t : S) → R s t → spans t ≡ spans s) → ((s t : S) → R s t → kept t ≡ kept s) → Replaced R old new d → Leaves old new
  leaves_one R old new same same_kept r = record {
    spans_same = seen_later R old new d r spans no_spans ∙ same r.before r.later r.did ∙ sym (seen_before R old new d r spans no_spans);
    kept_same = seen_later R old new d r kept _ ∙ same_kept r.before r.later r.did ∙ sym (seen_before R old new d r kept _);
    sites = ap (λ (w : WorldValue S). w.sites) r.others;
    count = as_many R old new d r;
  }

  tells_leave : (lane : Lane) (at site : ℕ) (fields : Fields) (o : Option Callsite) (old new : WorldValue S) → TellsAt spans hint enables does touches lane at d site fields o old new → Leaves old new
  tells_leave lane at site fields None old new is = leaves_none old new is
  tells_leave lane at site fields (Some c) old new told = by_answer told.0 told.2 where
    by_answer : (answer : Bool) → CallsIf spans hint enables does touches answer (Event lane at parent.Current site c (values_of c fields)) old new d → Leaves old new
    by_answer true r = leaves_one (λ s t. does s (Event lane at parent.Current site c (values_of c fields)) t) old new (λ s t did. shows s _ t did) (λ s t did. lanes s _ t did) r
    by_answer false is = leaves_none old new is

  records_leave : (at id : ℕ) (fields : Fields) (o : Option Callsite) (old new : WorldValue S) → RecordsTo spans hint enables does touches at d id fields o old new → Leaves old new
  records_leave at id fields None old new is = leaves_none old new is
  records_leave at id fields (Some c) old new r = leaves_one (λ s t. does s (Records id at c (values_of c fields)) t) old new (λ s t did. shows s _ t did) (λ s t did. lanes s _ t did) r

  step_leaves : (lane : Lane) (at : ℕ) (current : Option (ℕ × ℕ)) (s : Step) (old new : WorldValue S) → StepAt spans hint enables does touches lane at d current s old new → Leaves old new
  step_leaves lane at current (step.Event site fields) old new told = tells_leave lane at site fields (slice_get old.sites site) old new told
  step_leaves lane at None (step.Record fields) old new is = leaves_none old new is
  step_leaves lane at (Some c) (step.Record fields) old new r = records_leave at c.0 fields (slice_get old.sites c.1) old new r
  step_leaves lane at None (step.SetAttribute key value) old new is = leaves_none old new is
  step_leaves lane at (Some c) (step.SetAttribute key value) old new set = leaves_one (λ s t. touches s (Applies c.0 at _ set.0) t) old new (λ s t did. (stays s _ t did).spans_same) (λ s t did. (stays s _ t did).kept_same) set.2
  step_leaves lane at current step.Yield old new is = leaves_none old new is

  leaves_then : (old world new : WorldValue S) → Leaves old world → Leaves world new → Leaves old new
  leaves_then old world new a b = record { spans_same = b.spans_same ∙ a.spans_same; kept_same = b.kept_same ∙ a.kept_same; sites = b.sites ∙ a.sites; count = b.count ∙ a.count }

  -- a record on the current span is one on its handle
  same_record : (at id : ℕ) (fields : Fields) (o p : Option Callsite) (old new : WorldValue S) → p ≡ o → RecordsTo spans hint enables does touches at d id fields o old new
      → RecordsAt does old new at (values_by o (declared_ones p fields)) (Some (d, id)) o
  same_record at id fields o p old new same r = subst (λ (q : Option Callsite). RecordsAt does old new at (values_by o (declared_ones q fields)) (Some (d, id)) o) (sym same) (by_site o r) where
    by_site : (o : Option Callsite) → RecordsTo spans hint enables does touches at d id fields o old new → RecordsAt does old new at (values_by o (declared_ones o fields)) (Some (d, id)) o
    by_site None is = is
    by_site (Some c) r = subst (λ (v : ValueSet). Replaced (λ s t. does s (Records id at c v) t) old new d) (sym (ap (λ (pairs : List (ℕ × Value)). let v : ValueSet = record { pairs = pairs } in v) (placed_declared c fields))) r

  module _ (sites : List Callsite) (t : UnfinishedTask) (at : ℕ) (lane : Lane) (handles : List Handle) (guards : List HeldSpan) where
    abbrev pub stage : WorldValue S → TaskScene S
    stage world = record { world = world; lane = lane; handles = handles; guards = guards }

    step_carries : (handle : Handle) (current : Option (ℕ × ℕ)) → IsAt d t.site handle current → slice_get handles t.number ≡ Some handle → (s : Step) (old new : WorldValue S) → old.sites ≡ sites
        → StepAt spans hint enables does touches lane at d current s old new → (s ≡ step.Yield → ⊥) → CarriesCall spans hint enables does touches d at (step_call sites t s) (stage old) (stage new)
    step_carries handle current here is (step.Event site fields) old new same told act = record { told = told; lane = refl; handles = refl; guards = refl }
    step_carries _ _ disabled is (step.Record fields) old new same done act = record { handle = _; is = is; did = (refl, done); handles = refl; guards = refl }
    step_carries _ _ (enabled id) is (step.Record fields) old new same r act = record {
      handle = _;
      is = is;
      did = (refl, same_record at id fields (slice_get old.sites t.site) (slice_get sites t.site) old new (ap (λ (xs : List Callsite). slice_get xs t.site) (sym same)) r);
      handles = refl;
      guards = refl;
    }
    step_carries _ _ disabled is (step.SetAttribute key value) old new same done act = record { handle = _; is = is; did = (refl, (None, tt, (refl, done))); handles = refl; guards = refl }
    step_carries _ _ (enabled id) is (step.SetAttribute key value) old new same set act = record { handle = _; is = is; did = (refl, (set.0, set.1, set.2)); handles = refl; guards = refl }
    step_carries handle current here is step.Yield old new same done act = absurd (act refl)

    -- by the subscriber that serves the lane
    module _ (default : lane.default ≡ Some d) (handle : Handle) (current : Option (ℕ × ℕ)) (here : IsAt d t.site handle current) (is : slice_get handles t.number ≡ Some handle) where
      at_dispatch : (s : Step) (old new : WorldValue S) → current_on lane.id (spans_in spans old d) ≡ current → StepOn spans hint enables does touches lane at s old new → StepAt spans hint enables does touches lane at d current s old new
      at_dispatch s old new now on =
          subst (λ (c : Option (ℕ × ℕ)). StepAt spans hint enables does touches lane at d c s old new) now
          (subst (λ (o : Option ℕ). StepIf spans hint enables does touches lane at (dispatch_on o old.global) s old new) default on)

      one_step : (s : Step) (steps : List Step) (old new : WorldValue S) → (s ≡ step.Yield → ⊥) → old.sites ≡ sites → current_on lane.id (spans_in spans old d) ≡ current
          → ((world : WorldValue S) → world.sites ≡ sites → current_on lane.id (spans_in spans world d) ≡ current → StepsOn spans hint enables does touches lane at steps world new
          → Carries spans hint enables does touches d (map (λ s. on_first_lane at (step_call sites t s)) steps) (stage world) (stage new) × Leaves world new)
          → StepsOn spans hint enables does touches lane at (s ∷ steps) old new
          → Carries spans hint enables does touches d (map (λ s. on_first_lane at (step_call sites t s)) (s ∷ steps)) (stage old) (stage new) × Leaves old new
      one_step s steps old new act same now rest (world, on, more) =
          let step = at_dispatch s old world now on in
          let left = step_leaves lane at current s old world step in
          let later = rest world (left.sites ∙ same) (ap (λ x. current_on lane.id x) left.spans_same ∙ now) more in
          ((stage world, step_carries handle current here is s old world same step act, later.0), leaves_then old world new left later.1)

      -- steps none of which ends the poll
      pub acts_carry : (steps : List Step) → AreActs steps → (old new : WorldValue S) → old.sites ≡ sites → current_on lane.id (spans_in spans old d) ≡ current → StepsOn spans hint enables does touches lane at steps old new
          → Carries spans hint enables does touches d (map (λ s. on_first_lane at (step_call sites t s)) steps) (stage old) (stage new) × Leaves old new
      acts_carry [] acts old new same now is = (ap stage is, leaves_none old new is)
      acts_carry (s ∷ steps) acts old new same now on = one_step s steps old new acts.0 same now (λ w a b c. acts_carry steps acts.1 w new a b c) on

      pub steps_carry : (steps : List Step) (old new : WorldValue S) → old.sites ≡ sites → current_on lane.id (spans_in spans old d) ≡ current → StepsOn spans hint enables does touches lane at (steps_now steps) old new
          → Carries spans hint enables does touches d (map (λ s. on_first_lane at (step_call sites t s)) (steps_now steps)) (stage old) (stage new) × Leaves old new
      steps_carry steps old new same now on = acts_carry (steps_now steps) (now_acts steps) old new same now on
