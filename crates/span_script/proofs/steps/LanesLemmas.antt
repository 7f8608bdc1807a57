-- Lanes, and what every pipeline keeps.
use Rattle.std.proofs.Common.{◌≡◌, ℕ, Bool, false, zero, suc, ◌<◌, ◌≤◌, List, [], ◌∷◌, length, count_by, get_or, set, Option, Some, None, map, refl, sym, ap, subst, ◌∙◌, arith, inl, inr, Result, Ok, Err, OnErr, ◌==◌}
use Rattle.span_script.proofs.Common.{cases_eq, cond-true, cond-false, length-map, map-set, Lane, WorldValue, Spans, attached_count, AreAttached, TracksAttached, Has, KeepsPlainData, read_subscriber, spans_in, kept_in, Handle, HeldSpan, ReplacedOn, KeepsLaneButRoom, Guard, AttachGuard, no_recording, Scope, slot_at, id_at, name_at, Views, PipelineState, state_of, LaneValue, lane_value, no_lane_value, lane_at, held_by, LanesFit, PipelineInvariant, held_of, StandsFor, Parts, AddsMeasures, SameLaw, aside_in}
use Rattle.std.proofs.lemmas.Bool.{eq-eqb, ne_eqb}
use Rattle.trace_base.specs.Gate.{IsInWorld, dispatch_on}
use Rattle.span_handles.specs.Handles.{HasIf}
use Rattle.std.proofs.lemmas.List.{length-set, get_or-set_same, get_or-set_other}
use Rattle.span_script.proofs.filter.CounterLemmas.{adds_nothing, adds_same}
use Rattle.span_script.proofs.steps.SlotsLemmas.{find, held_slot, Found}

pub on_err : {T E : Type 0} (result : Result T E) (P : Type 0) → P → OnErr result P
on_err (Ok v) P p = tt
on_err (Err e) P p = p

pub within_view : (view k : PipelineState) (lanes : List Lane) (n : ℕ) → view ≡ k → view.lanes ≡ map lane_value lanes → n < length k.lanes → n < length lanes
within_view view k lanes n same is within = (let a = ap (λ (x : PipelineState). length x.lanes) same in let b = ap length is in let c = length-map lanes lane_value in omega (arith, a, b, c, within))

-- the lane that was written, seen without its room
pub lane_seen : (lanes : List Lane) (n : ℕ) (before : Lane) → n < length lanes → before ≡ get_or lanes n before → lane_at (map lane_value lanes) n ≡ lane_value before
lane_seen [] n before within is = absurd (omega (arith, within))
lane_seen (x ∷ xs) zero before within is = ap lane_value (sym is)
lane_seen (x ∷ xs) (suc n) before within is = lane_seen xs n before (omega (arith, within)) is

pub lanes_same : (lanes : List Lane) (n : ℕ) (before later : Lane) → n < length lanes → before ≡ get_or lanes n before → lane_value later ≡ lane_value before → map lane_value (set lanes n later) ≡ map lane_value lanes
lanes_same [] n before later within is same = refl
lanes_same (x ∷ xs) zero before later within is same = ap (λ (l : LaneValue). l ∷ map lane_value xs) (same ∙ ap lane_value is)
lanes_same (x ∷ xs) (suc n) before later within is same = ap (λ (ls : List LaneValue). lane_value x ∷ ls) (lanes_same xs n before later (omega (arith, within)) is same)

pub same_lane : (before later : Lane) → later.id ≡ before.id → later.default ≡ before.default → later.contexts.live ≡ before.contexts.live → lane_value later ≡ lane_value before
same_lane before later id default live = rw (id, default, live) refl

-- the id of a lane, as the setup tells it
pub id_seen : (lanes : List Lane) (n : ℕ) (before : Lane) → n < length lanes → before ≡ get_or lanes n before → before.id ≡ id_at (map (λ (l : Lane). l.id) lanes) n
id_seen [] n before within is = absurd (omega (arith, within))
id_seen (x ∷ xs) zero before within is = ap (λ (l : Lane). l.id) is
id_seen (x ∷ xs) (suc n) before within is = id_seen xs n before (omega (arith, within)) is

pub ids_same : (lanes : List Lane) (n : ℕ) (before later : Lane) → n < length lanes → before ≡ get_or lanes n before → later.id ≡ before.id → map (λ (l : Lane). l.id) (set lanes n later) ≡ map (λ (l : Lane). l.id) lanes
ids_same [] n before later within is same = refl
ids_same (x ∷ xs) zero before later within is same = ap (λ (i : ℕ). i ∷ map (λ (l : Lane). l.id) xs) (same ∙ ap (λ (l : Lane). l.id) is)
ids_same (x ∷ xs) (suc n) before later within is same = ap (λ (is : List ℕ). x.id ∷ is) (ids_same xs n before later (omega (arith, within)) is same)

pub names_same : (lanes : List Lane) (n : ℕ) (before later : Lane) → n < length lanes → before ≡ get_or lanes n before → later.name ≡ before.name → map (λ (l : Lane). l.name) (set lanes n later) ≡ map (λ (l : Lane). l.name) lanes
names_same [] n before later within is same = refl
names_same (x ∷ xs) zero before later within is same = ap (λ i. i ∷ map (λ (l : Lane). l.name) xs) (same ∙ ap (λ (l : Lane). l.name) is)
names_same (x ∷ xs) (suc n) before later within is same = ap (λ is. x.name ∷ is) (names_same xs n before later (omega (arith, within)) is same)

pub name_seen : (lanes : List Lane) (n : ℕ) (before : Lane) → n < length lanes → before ≡ get_or lanes n before → before.name ≡ name_at (map (λ (l : Lane). l.name) lanes) n
name_seen [] n before within is = absurd (omega (arith, within))
name_seen (x ∷ xs) zero before within is = ap (λ (l : Lane). l.name) is
name_seen (x ∷ xs) (suc n) before within is = name_seen xs n before (omega (arith, within)) is

pub are_attached : (dispatch : ℕ) (kept : ℕ → ℕ → ℕ) (lanes : List Lane) (n : ℕ) (before : Lane) → n < length lanes → before ≡ get_or lanes n before → LanesFit dispatch kept (map lane_value lanes) → AreAttached kept before
are_attached dispatch kept lanes n before within is fits number =
    let at = lane_seen lanes n before within is in
    let a = fits.attached n number (let k = length-map lanes lane_value in omega (arith, within, k)) in
    let w = ap (λ (l : LaneValue). count_by (λ item. item.0 == number) l.live) at in
    let k = ap (λ (l : LaneValue). kept l.id number) at in
    omega (arith, a, w, k)

-- what is kept on a lane that was written, and on the others
pub lanes_after : (dispatch : ℕ) (kept now : ℕ → ℕ → ℕ) (lanes : List Lane) (n : ℕ) (before later : Lane) → n < length lanes → before ≡ get_or lanes n before → LanesFit dispatch kept (map lane_value lanes) → later.id ≡ before.id → later.default ≡ before.default
    → ((number : ℕ) → now before.id number ≤ attached_count number later) → ((lane number : ℕ) → (before.id ≡ lane → ⊥) → now lane number ≡ kept lane number) → LanesFit dispatch now (map lane_value (set lanes n later))
lanes_after dispatch kept now lanes n before later within is fits same own most others =
    let ls = map lane_value lanes in
    let ls' = map lane_value (set lanes n later) in
    let at = lane_seen lanes n before within is in
    let inside : n < length ls = (let k = length-map lanes lane_value in omega (arith, within, k)) in
    let counts : length ls' ≡ length ls = length-map (set lanes n later) lane_value ∙ length-set lanes n later ∙ sym (length-map lanes lane_value) in
    let written = map-set lane_value lanes n later in
    let here : lane_at ls' n ≡ lane_value later = ap (λ (xs : List LaneValue). lane_at xs n) written ∙ get_or-set_same ls n (lane_value later) no_lane_value inside in
    let there : (m : ℕ) → (m ≡ n → ⊥) → lane_at ls' m ≡ lane_at ls m = λ m other. ap (λ (xs : List LaneValue). lane_at xs m) written ∙ get_or-set_other ls n m (lane_value later) no_lane_value other in
    let ids : (m : ℕ) → (lane_at ls' m).id ≡ (lane_at ls m).id = λ m. elim (cases_eq m n) [
      | inl e ↦ ap (λ (k : ℕ). (lane_at ls' k).id) e ∙ ap (λ (l : LaneValue). l.id) here ∙ same ∙ ap (λ (l : LaneValue). l.id) (sym at) ∙ ap (λ (k : ℕ). (lane_at ls k).id) (sym e)
      | inr other ↦ ap (λ (l : LaneValue). l.id) (there m other)
    ] in
    let mine : before.id ≡ (lane_at ls n).id = ap (λ (l : LaneValue). l.id) (sym at) in
    record {
      differ = λ a b ina inb e. fits.differ a b (omega (arith, ina, counts)) (omega (arith, inb, counts)) (sym (ids a) ∙ e ∙ ids b);
      attached = λ m number below. (
          let q = ap (λ (x : ℕ). now x number) (ids m) in
          elim (cases_eq m n) [
            | inl e ↦ (
                let k = most number in
                let p = ap (λ (x : ℕ). now x number) (mine ∙ ap (λ (x : ℕ). (lane_at ls x).id) (sym e)) in
                let z = ap (λ (x : ℕ). count_by (λ item. item.0 == number) (lane_at ls' x).live) e ∙ ap (λ (l : LaneValue). count_by (λ item. item.0 == number) l.live) here in
                omega (arith, k, p, z, q))
            | inr other ↦ (
                let f = fits.attached m number (omega (arith, below, counts)) in
                let k = others (lane_at ls m).id number (λ e. other (fits.differ m n (omega (arith, below, counts)) inside (sym e ∙ mine))) in
                let w = ap (λ (l : LaneValue). count_by (λ item. item.0 == number) l.live) (there m other) in
                omega (arith, k, f, w, q))
          ]);
      served = λ m below. elim (cases_eq m n) [
        | inl e ↦ ap (λ (k : ℕ). (lane_at ls' k).default) e ∙ ap (λ (l : LaneValue). l.default) here ∙ own ∙ ap (λ (l : LaneValue). l.default) (sym at) ∙ fits.served n inside
        | inr other ↦ ap (λ (l : LaneValue). l.default) (there m other) ∙ fits.served m (omega (arith, below, counts))
      ];
    }

-- a lane is served by the pipeline's subscriber
pub lane_served : (dispatch : ℕ) (kept : ℕ → ℕ → ℕ) (lanes : List Lane) (n : ℕ) (before : Lane) → n < length lanes → before ≡ get_or lanes n before → LanesFit dispatch kept (map lane_value lanes) → before.default ≡ Some dispatch
lane_served dispatch kept lanes n before within is fits =
    ap (λ (l : LaneValue). l.default) (sym (lane_seen lanes n before within is)) ∙ fits.served n (let k = length-map lanes lane_value in omega (arith, within, k))

-- what holds of a subscriber holds of the own one of a lane that it serves
pub has_own : {S : Type 0} (P : S → Type 0) (world : WorldValue S) (dispatch : ℕ) (own : Option ℕ) → own ≡ Some dispatch → Has P world dispatch → HasIf P world (dispatch_on own world.global)
has_own P world dispatch own is has = subst (λ (o : Option ℕ). HasIf P world (dispatch_on o world.global)) (sym is) has

-- a lane's own subscriber serves it
pub own_serves : (dispatch : ℕ) (own global : Option ℕ) → own ≡ Some dispatch → dispatch_on own global ≡ Some dispatch
own_serves dispatch own global is = ap (λ (o : Option ℕ). dispatch_on o global) is

pub own_there : {S : Type 0} (world : WorldValue S) (dispatch : ℕ) (own : Option ℕ) → own ≡ Some dispatch → dispatch < length world.subscribers → IsInWorld world own
own_there world dispatch own is there = subst (λ (o : Option ℕ). IsInWorld world o) (sym is) there

-- where a call keeps what it attached
pub lanes_step : (dispatch : ℕ) (kept now : ℕ → ℕ → ℕ) (lanes : List Lane) (n : ℕ) (before later : Lane) → n < length lanes → before ≡ get_or lanes n before → LanesFit dispatch kept (map lane_value lanes) → later.id ≡ before.id → later.default ≡ before.default → TracksAttached kept before later now
    → LanesFit dispatch now (map lane_value (set lanes n later))
lanes_step dispatch kept now lanes n before later within is fits same own keeps = lanes_after dispatch kept now lanes n before later within is fits same own
    (λ number. (
    let k = keeps before.id number in
    let still = are_attached dispatch kept lanes n before within is fits number in
    let a = cond-true {A = ℕ} (before.id == before.id) (attached_count number before) 0 (eq-eqb before.id before.id refl) in
    let b = cond-true {A = ℕ} (later.id == before.id) (attached_count number later) 0 (eq-eqb later.id before.id same) in
    omega (arith, k, still, a, b)))
    (λ lane number apart. (
    let k = keeps lane number in
    let a = cond-false {A = ℕ} (before.id == lane) (attached_count number before) 0 (ne_eqb before.id lane apart) in
    let b = cond-false {A = ℕ} (later.id == lane) (attached_count number later) 0 (ne_eqb later.id lane (λ e. apart (sym same ∙ e))) in
    omega (arith, k, a, b)))

pub own_lane : {S : Type 0} (spans : S → Spans) (views : Views S) (kept : S → ℕ → ℕ → ℕ) (is_whole : S → Type 0) (parts : Parts S) → PipelineInvariant spans views kept is_whole parts → (n : ℕ) (before : Lane) → n < length parts.lanes → before ≡ get_or parts.lanes n before → before.default ≡ Some parts.dispatch
own_lane spans views kept is_whole parts inv n before within is = lane_served parts.dispatch (kept_in kept parts.world parts.dispatch) parts.lanes n before within is inv.lanes

module _ {S : Type 0} (spans : S → Spans) (views : Views S) (attaches : S → Bool) (kept : S → ℕ → ℕ → ℕ) (is_whole : S → Type 0) where
  abbrev pub AlikeOn : WorldValue S → WorldValue S → ℕ → Scope → Type 0
  AlikeOn old new dispatch [] = new ≡ old
  AlikeOn old new dispatch (s ∷ up) = KeepsPlainData spans attaches kept is_whole old new dispatch × (new.sites ≡ old.sites) × (read_subscriber views.recording no_recording new dispatch ≡ read_subscriber views.recording no_recording old dispatch) × (read_subscriber views.filter None new dispatch ≡ read_subscriber views.filter None old dispatch) × (new.cached ≡ old.cached) × AddsMeasures (aside_in views old dispatch) (aside_in views new dispatch) []

  pub alike_on : (same : S → S → Type 0) → SameLaw spans views attaches kept is_whole same
      → (old new : WorldValue S) (dispatch : ℕ) (line : Scope) (held : HeldSpan) → held ≡ held_of dispatch line → ReplacedOn (λ id s t. same s t) old new held → AlikeOn old new dispatch line
  alike_on same law old new dispatch [] held is did = subst (λ (h : HeldSpan). ReplacedOn (λ id s t. same s t) old new h) is did
  alike_on same law old new dispatch (s ∷ up) held is did =
      let r = subst (λ (h : HeldSpan). ReplacedOn (λ id s t. same s t) old new h) is did in
      let told = law.viewed old new dispatch r in
      (law.shown old new dispatch r, ap (λ (w : WorldValue S). w.sites) r.others, told.0, told.1, ap (λ (w : WorldValue S). w.cached) r.others, told.2)

  pub alike_line : (old new : WorldValue S) (dispatch : ℕ) (line : Scope) → AlikeOn old new dispatch line → KeepsPlainData spans attaches kept is_whole old new dispatch × (new.sites ≡ old.sites) × (read_subscriber views.recording no_recording new dispatch ≡ read_subscriber views.recording no_recording old dispatch) × (read_subscriber views.filter None new dispatch ≡ read_subscriber views.filter None old dispatch) × (new.cached ≡ old.cached) × AddsMeasures (aside_in views old dispatch) (aside_in views new dispatch) []
  alike_line old new dispatch [] same = (
    record {
      spans_same = ap (λ (w : WorldValue S). spans_in spans w dispatch) same;
      attaches_same = ap (λ (w : WorldValue S). read_subscriber attaches false w dispatch) same;
      kept_same = ap (λ (w : WorldValue S). kept_in kept w dispatch) same;
      count = ap (λ (w : WorldValue S). length w.subscribers) same;
      whole = λ has. subst (λ (w : WorldValue S). Has is_whole w dispatch) (sym same) has;
    },
    ap (λ (w : WorldValue S). w.sites) same,
    ap (λ (w : WorldValue S). read_subscriber views.recording no_recording w dispatch) same,
    ap (λ (w : WorldValue S). read_subscriber views.filter None w dispatch) same,
    ap (λ (w : WorldValue S). w.cached) same,
    adds_same views old new dispatch same,
  )
  alike_line old new dispatch (s ∷ up) same = same

  -- what alike is kept is kept on
  pub kept_alike : (parts next : Parts S) → PipelineInvariant spans views kept is_whole parts → state_of spans views next ≡ state_of spans views parts → KeepsPlainData spans attaches kept is_whole parts.world next.world parts.dispatch → PipelineInvariant spans views kept is_whole next
  kept_alike parts next inv same alike =
      let on : next.dispatch ≡ parts.dispatch = ap (λ (k : PipelineState). k.dispatch) same in
      record {
        there = (let c = alike.count in let b = inv.there in omega (arith, on, c, b));
        alone = alike.count ∙ inv.alone;
        whole = subst (λ (d : ℕ). Has is_whole next.world d) (sym on) (alike.whole inv.whole);
        lanes = subst (λ (d : ℕ). LanesFit d (kept_in kept next.world d) (map lane_value next.lanes)) (sym on)
            (subst (λ (ls : List LaneValue). LanesFit parts.dispatch (kept_in kept next.world parts.dispatch) ls) (sym (ap (λ (k : PipelineState). k.lanes) same))
            (subst (λ (f : ℕ → ℕ → ℕ). LanesFit parts.dispatch f (map lane_value parts.lanes)) (sym alike.kept_same) inv.lanes));
        tables = inv.tables;
        stands = subst (λ (k : PipelineState). StandsFor k inv.tables) (sym same) inv.stands;
      }

  -- after a refusal for want of memory what is kept is as it was
  module _ (same : S → S → Type 0) (law : SameLaw spans views attaches kept is_whole same)
      (parts : Parts S) (new : WorldValue S) (inv : PipelineInvariant spans views kept is_whole parts) (handle : ℕ) (named : Handle) (found : slot_at parts.handles handle ≡ Some named) (did : ReplacedOn (λ id s t. same s t) parts.world new named.held) where
    its_line : Found (held_of parts.dispatch) inv.tables.handles handle named.held
    its_line = find (held_of parts.dispatch) (map held_by parts.handles) inv.tables.handles handle named.held inv.stands.fits.handle_slots (held_slot parts.handles handle named found)

    its_alike : KeepsPlainData spans attaches kept is_whole parts.world new parts.dispatch × (new.sites ≡ parts.world.sites) × (read_subscriber views.recording no_recording new parts.dispatch ≡ read_subscriber views.recording no_recording parts.world parts.dispatch) × (read_subscriber views.filter None new parts.dispatch ≡ read_subscriber views.filter None parts.world parts.dispatch) × (new.cached ≡ parts.world.cached) × AddsMeasures (aside_in views parts.world parts.dispatch) (aside_in views new parts.dispatch) []
    its_alike = alike_line parts.world new parts.dispatch its_line.at (alike_on same law parts.world new parts.dispatch its_line.at named.held its_line.is did)

    its_rest : ((aside_in views new parts.dispatch).0 ≡ (aside_in views parts.world parts.dispatch).0) × ((aside_in views new parts.dispatch).1 ≡ (aside_in views parts.world parts.dispatch).1)
    its_rest = adds_nothing (aside_in views parts.world parts.dispatch) (aside_in views new parts.dispatch) its_alike.5

    -- where a lane or guards got room
    module _ (n : ℕ) (before later : Lane) (within : n < length parts.lanes) (seen_is : before ≡ get_or parts.lanes n before) (lane : KeepsLaneButRoom before later)
        (gs' : List (Option Guard)) (guards_same : gs' ≡ parts.guards) (ks' : List (Option AttachGuard)) (attaches_same : ks' ≡ parts.contexts.attaches) where
      abbrev refused_parts : Parts S
      refused_parts = record parts { world = new; lanes = set parts.lanes n later; guards = gs'; contexts = record parts.contexts { attaches = ks' } }

      pub refused_state : state_of spans views refused_parts ≡ state_of spans views parts
      refused_state = rw (
        its_alike.0.spans_same,
        its_alike.1,
        its_alike.2,
        its_alike.3,
        its_alike.4,
        its_rest.0,
        its_rest.1,
        lanes_same parts.lanes n before later within seen_is (same_lane before later lane.id lane.default lane.live),
        ids_same parts.lanes n before later within seen_is lane.id,
        names_same parts.lanes n before later within seen_is lane.name,
        guards_same,
        attaches_same,
      ) refl

      pub refused_kept : PipelineInvariant spans views kept is_whole refused_parts
      refused_kept = kept_alike parts refused_parts inv refused_state its_alike.0

    -- where neither did
    pub same_state : state_of spans views (record parts { world = new }) ≡ state_of spans views parts
    same_state = rw (its_alike.0.spans_same, its_alike.1, its_alike.2, its_alike.3, its_alike.4, its_rest.0, its_rest.1) refl

    pub same_kept : PipelineInvariant spans views kept is_whole (record parts { world = new })
    same_kept = kept_alike parts (record parts { world = new }) inv same_state its_alike.0
