-- A span is made exactly by a request for one that is admitted, and as that says.
use Rattle.span_laws.proofs.Common.{Bool, Call, Callsite, Effect, Err, Fields, Here, History, IsHistory, IsMadeBy, LayerSettings, MadeSpan, None, Ok, Option, Recording, Request, RequestParent, Resolved, Scope, Setup, Some, Tables, TextRead, ValueSet, [], admits_on, all_values, ap, asks_admitted, attach_effect, cond, context_around, context_from, context_of_lane, current_of, detach_effect, disabled_effect, drop_effect, effect_of, effect_of_call, enter_effect, entry_call, event_site, exchange_effect, exit_effect, false, first_attributes, follow_effect, here_at, if◌then◌else◌, is_bad_moment, is_borrowed, is_full, is_making, is_shared, is_some, lane_in, length, meets_full, need, new_span_data_at, not, option_map_or, parent_context, parent_scope, parent_source, parent_under, refl, refuse_if, reload_by, scope_or_current, slice_get, slot_at, span_effect, span_site, span_update, subst, sym, tables, text_read, true, with_start_if_some, ℕ, ◌==◌, ◌>>=◌, ◌∙◌, ◌∷◌, ◌≡◌}
use Rattle.std.specs.Option.{option_to_list}
use Rattle.span_script.specs.declared.request.Call.TheVariants as call
use Rattle.span_script.specs.declared.request.RequestParent.TheVariants as request_parent
use Rattle.span_script.specs.declared.reply.Refusal.TheVariants as refusal
use Rattle.span_script.specs.declared.reply.What.TheVariants as what
use Rattle.span_laws.proofs.records.HistoriesLemmas.{fits, whole}
use Rattle.span_laws.proofs.steps.StepsLemmas.{IsFit, allowed, found, starts_keep, the_effect, unrefused}

-- the context that a new span is put under
context_is : (activation : Bool) (current : Option ℕ) (t : Tables) (at id : ℕ) (under : RequestParent) (up : Scope) (setup : Setup) → setup.layer.activation ≡ activation → current_of (t.entries id) ≡ current
    → context_from (with_start_if_some (parent_source activation (parent_under under up) current) at t.recording).spans (context_around (t.contexts id) (parent_under under up)) (parent_source activation (parent_under under up) current)
    ≡ parent_context setup t at id under up
context_is activation current t at id request_parent.Root up setup active now = refl
context_is activation current t at id (request_parent.Under handle) [] setup active now = refl
context_is activation current t at id (request_parent.Under handle) (s ∷ up) setup active now = refl
context_is true current t at id request_parent.Contextual up setup active now = ap (λ (b : Bool). context_of_lane t at id (if b then None else current_of (t.entries id))) (sym active)
context_is false None t at id request_parent.Contextual up setup active now =
    ap (context_of_lane t at id) (sym now) ∙ ap (λ (b : Bool). context_of_lane t at id (if b then None else current_of (t.entries id))) (sym active)
context_is false (Some s) t at id request_parent.Contextual up setup active now =
    ap (context_of_lane t at id) (sym now) ∙ ap (λ (b : Bool). context_of_lane t at id (if b then None else current_of (t.entries id))) (sym active)

module _ (setup : Setup) (t : Tables) (fit : IsFit setup t) where
  abbrev here : ℕ → ℕ → Here
  here at place = here_at setup t at place

  -- what a call makes, if it does
  abbrev Makes : ℕ → ℕ → Call → Option MadeSpan → Type 0
  Makes at place what_for None = asks_admitted setup t (here at place).lane what_for ≡ false
  Makes at place what_for (Some m) = (asks_admitted setup t (here at place).lane what_for ≡ true) × IsMadeBy setup t at place what_for m

  module _ (at place site : ℕ) (under : RequestParent) (fields : Fields) (callsite : Callsite) (up : Scope) (values : ValueSet) (there : span_site setup.sites site ≡ Some callsite)
      (placed : parent_scope t (here at place).lane under ≡ Some up) (read : all_values callsite fields ≡ Some values) where
    abbrev id : ℕ
    id = (here at place).lane

    abbrev source : Option ℕ
    source = parent_source setup.layer.activation (parent_under under up) (current_of (t.entries id))

    abbrev r : Recording
    r = with_start_if_some source at t.recording

    settings : r.settings ≡ setup.layer
    settings = (starts_keep source at t.recording).0 ∙ fit.settings_are

    made_so : IsMadeBy setup t at place (call.New site under fields) (record { site = site; scope = length t.spans ∷ up; made_with = new_span_data_at (here at place) callsite values (parent_under under up) })
    made_so = record {
      under = under;
      fields = fields;
      up = up;
      callsite = callsite;
      values = values;
      asked = refl;
      site = there;
      parent = placed;
      given = read;
      scope = refl;
      making = record { name = callsite.name; parent = context_from r.spans (context_around (t.contexts id) (parent_under under up)) source; made_at = at; first = first_attributes callsite (lane_in (here at place)) r.settings; counting = r.counting; inactivity = r.settings.inactivity };
      name = refl;
      context = context_is setup.layer.activation (current_of (t.entries id)) t at id under up setup refl refl;
      first = ap (first_attributes callsite (lane_in (here at place))) settings;
      began = record { update = span_update callsite values r.settings; is = refl; made_at = refl; tracked = ap (λ (s : LayerSettings). s.inactivity) settings; counting_is = (starts_keep source at t.recording).1 ∙ fit.counting_is };
      written = ap (span_update callsite values) settings;
    }

    by_gate : (b : Bool) → admits_on setup t id callsite ≡ b → Makes at place (call.New site under fields) (cond b (span_effect (here at place) site callsite values under up) (disabled_effect (here at place))).new_span
    by_gate true gate = (ap (λ (o : Option Callsite). option_map_or (admits_on setup t id) o false) there ∙ gate, made_so)
    by_gate false gate = ap (λ (o : Option Callsite). option_map_or (admits_on setup t id) o false) there ∙ gate

  -- an effect that makes none
  nothing : (at place : ℕ) (what_for : Call) (a e : Effect) → ◌≡◌ {A = Resolved} (Ok a) (Ok e) → a.new_span ≡ None → asks_admitted setup t (here at place).lane what_for ≡ false → Makes at place what_for e.new_span
  nothing at place what_for a e is none unasked = subst (λ (x : Effect). Makes at place what_for x.new_span) (the_effect setup t fit a e is) (subst (Makes at place what_for) (sym none) unasked)

  opens_none : (at place handle : ℕ) (owns : Bool) (what_for : Call) (e : Effect) → entry_call (here at place) handle owns ≡ Ok e → asks_admitted setup t (here at place).lane what_for ≡ false → Makes at place what_for e.new_span
  opens_none at place handle owns what_for e is unasked =
      let there = found setup t fit what.Handle (slot_at t.handles handle) _ e is in
      let room = unrefused setup t fit (meets_full setup.layer.activation there.0 (t.contexts (here at place).lane)) (refusal.Full place) (Ok (enter_effect (here at place) handle owns there.0)) e there.2 in
      nothing at place what_for _ e room.1 refl unasked

  follows_none : (at place : ℕ) (scope from : Scope) → (follow_effect (here at place) scope from).new_span ≡ None
  follows_none at place [] from = refl
  follows_none at place (s ∷ up) [] = refl
  follows_none at place (s ∷ up) (f ∷ above) = refl

  by_call : (at place : ℕ) (what_for : Call) (e : Effect) → effect_of_call setup t at place what_for ≡ Ok e → Makes at place what_for e.new_span
  by_call at place (call.New site under fields) e is =
      let callsite = found setup t fit what.Site (span_site setup.sites site) _ e is in
      let up = found setup t fit what.Handle (parent_scope t (here at place).lane under) _ e callsite.2 in
      let values = found setup t fit what.Field (all_values callsite.0 fields) _ e up.2 in
      subst (λ (x : Effect). Makes at place (call.New site under fields) x.new_span) (the_effect setup t fit _ e values.2)
      (by_gate at place site under fields callsite.0 up.0 values.0 callsite.1 up.1 values.1 (admits_on setup t (here at place).lane callsite.0) refl)
  by_call at place (call.Clone handle) e is =
      let there = found setup t fit what.Handle (slot_at t.handles handle) _ e is in
      nothing at place (call.Clone handle) _ e there.2 refl refl
  by_call at place (call.Drop handle) e is =
      let there = found setup t fit what.Handle (slot_at t.handles handle) _ e is in
      let free = unrefused setup t fit (is_borrowed t.guards handle) refusal.InUse (Ok (drop_effect (here at place) handle there.0)) e there.2 in
      nothing at place (call.Drop handle) _ e free.1 refl refl
  by_call at place (call.Enter handle) e is = opens_none at place handle false (call.Enter handle) e is refl
  by_call at place (call.Exit guard) e is =
      let there = found setup t fit what.Guard (slot_at t.guards guard) _ e is in
      let leaves = exit_effect (here at place) guard there.0.scope in
      let alone = unrefused setup t fit (is_shared t.guards there.0) refusal.InUse (refuse_if (not (there.0.place == place)) (refusal.WrongLane there.0.place) (Ok leaves)) e there.2 in
      let mine = allowed setup t fit (there.0.place == place) (refusal.WrongLane there.0.place) (Ok leaves) e alone.1 in
      nothing at place (call.Exit guard) _ e mine.1 refl refl
  by_call at place call.Current e is = nothing at place call.Current _ e is refl refl
  by_call at place (call.OrCurrent handle) e is =
      let there = found setup t fit what.Handle (slot_at t.handles handle) _ e is in
      let free = unrefused setup t fit (is_borrowed t.guards handle) refusal.InUse (Ok (exchange_effect (here at place) handle (scope_or_current t (here at place).lane there.0))) e there.2 in
      nothing at place (call.OrCurrent handle) _ e free.1 refl refl
  by_call at place (call.Entered handle) e is =
      let there = found setup t fit what.Handle (slot_at t.handles handle) _ e is in
      let free = unrefused setup t fit (is_borrowed t.guards handle) refusal.InUse (entry_call (here at place) handle true) e there.2 in
      opens_none at place handle true (call.Entered handle) e free.1 refl
  by_call at place (call.Event site under fields) e is =
      let there = found setup t fit what.Site (event_site setup.sites site) _ e is in
      let reached = found setup t fit what.Handle (parent_scope t (here at place).lane under) _ e there.2 in
      let values = found setup t fit what.Field (all_values there.0 fields) _ e reached.2 in
      nothing at place (call.Event site under fields) _ e values.2 refl refl
  by_call at place (call.Record handle fields) e is =
      let there = found setup t fit what.Handle (slot_at t.handles handle) _ e is in
      nothing at place (call.Record handle fields) _ e there.2 refl refl
  by_call at place (call.HasField handle name) e is =
      let there = found setup t fit what.Handle (slot_at t.handles handle) _ e is in
      nothing at place (call.HasField handle name) _ e there.2 refl refl
  by_call at place (call.Remote ids) e is = nothing at place (call.Remote ids) _ e is refl refl
  by_call at place (call.Context handle) e is =
      let there = found setup t fit what.Handle (slot_at t.handles handle) _ e is in
      nothing at place (call.Context handle) _ e there.2 refl refl
  by_call at place (call.Attach context) e is =
      let there = found setup t fit what.Context (slice_get t.named_contexts context) _ e is in
      let room = unrefused setup t fit (is_full (t.contexts (here at place).lane)) (refusal.Full place) (Ok (attach_effect (here at place) there.0)) e there.2 in
      nothing at place (call.Attach context) _ e room.1 refl refl
  by_call at place (call.Detach guard) e is =
      let there = found setup t fit what.Guard (slot_at t.attaches guard) _ e is in
      let mine = allowed setup t fit (there.0 == place) (refusal.WrongLane there.0) (Ok (detach_effect (here at place) guard)) e there.2 in
      nothing at place (call.Detach guard) _ e mine.1 refl refl
  by_call at place (call.Follows handle from) e is =
      let there = found setup t fit what.Handle (slot_at t.handles handle) _ e is in
      let followed = found setup t fit what.Handle (slot_at t.handles from) _ e there.2 in
      nothing at place (call.Follows handle from) _ e followed.2 (follows_none at place there.0 followed.0) refl
  by_call at place (call.SetParent handle context) e is =
      let there = found setup t fit what.Handle (slot_at t.handles handle) _ e is in
      let given = found setup t fit what.Context (slice_get t.named_contexts context) _ e there.2 in
      nothing at place (call.SetParent handle context) _ e given.2 refl refl
  by_call at place (call.AddLink handle context attributes) e is =
      let there = found setup t fit what.Handle (slot_at t.handles handle) _ e is in
      let given = found setup t fit what.Context (slice_get t.named_contexts context) _ e there.2 in
      nothing at place (call.AddLink handle context attributes) _ e given.2 refl refl
  by_call at place (call.SetAttribute handle key value) e is =
      let there = found setup t fit what.Handle (slot_at t.handles handle) _ e is in
      nothing at place (call.SetAttribute handle key value) _ e there.2 refl refl
  by_call at place (call.SetStatus handle status) e is =
      let there = found setup t fit what.Handle (slot_at t.handles handle) _ e is in
      nothing at place (call.SetStatus handle status) _ e there.2 refl refl
  by_call at place (call.AddEvent handle name attributes time) e is =
      let there = found setup t fit what.Handle (slot_at t.handles handle) _ e is in
      nothing at place (call.AddEvent handle name attributes time) _ e there.2 refl refl
  by_call at place (call.Enabled site) e is =
      let there = found setup t fit what.Site (slice_get setup.sites site) _ e is in
      nothing at place (call.Enabled site) _ e there.2 refl refl
  by_call at place (call.Reload text) e is = by_read (text_read text) is
    where
      by_read : (r : TextRead) → reload_by (here at place) text r ≡ Ok e → Makes at place (call.Reload text) e.new_span
      by_read (Ok ds) read = nothing at place (call.Reload text) _ e read refl refl
      by_read (Err piece) read = absurd (cc read)

  -- the effect of a request is that of its call
  call_of : (request : Request) (e : Effect) → effect_of setup t request ≡ Ok e → effect_of_call setup t request.at request.lane_place request.call ≡ Ok e
  call_of request e is =
      let by_name = (need what.Lane (slice_get setup.ids request.lane_place) >>= (λ id. effect_of_call setup t request.at request.lane_place request.call)) in
      let passed = unrefused setup t fit (is_bad_moment t.moment request.at) (refusal.BadMoment t.moment request.at) by_name e is in
      let lane = found setup t fit what.Lane (slice_get setup.ids request.lane_place) (λ id. effect_of_call setup t request.at request.lane_place request.call) e passed.1 in
      lane.2

  by_request : (request : Request) (e : Effect) → effect_of setup t request ≡ Ok e → Makes request.at request.lane_place request.call e.new_span
  by_request request e is = by_call request.at request.lane_place request.call e (call_of request e is)

  by_made : (at place : ℕ) (what_for : Call) (o : Option MadeSpan) → Makes at place what_for o → is_some o ≡ asks_admitted setup t (here at place).lane what_for
  by_made at place what_for None unasked = sym unasked
  by_made at place what_for (Some m) made = sym made.0

-- what starts before a span is made
pub starts_before : (setup : Setup) (t : Tables) (fit : IsFit setup t) (request : Request) (e : Effect) (m : MadeSpan) → effect_of setup t request ≡ Ok e → e.new_span ≡ Some m → (by : IsMadeBy setup t request.at request.lane_place request.call m)
    → e.starts ≡ option_to_list (parent_source setup.layer.activation (parent_under by.under by.up) (current_of (t.entries (here_at setup t request.at request.lane_place).lane)))
starts_before setup t fit request e m is made by =
    let named_call = ap (effect_of_call setup t request.at request.lane_place) (sym by.asked) ∙ call_of setup t fit request e is in
    let callsite = found setup t fit what.Site (span_site setup.sites m.site) _ e named_call in
    let up = found setup t fit what.Handle (parent_scope t (here_at setup t request.at request.lane_place).lane by.under) _ e callsite.2 in
    let values = found setup t fit what.Field (all_values callsite.0 by.fields) _ e up.2 in
    let same : up.0 ≡ by.up = cc (sym up.1 ∙ by.parent) in
    by_gate callsite.0 up.0 values.0 (admits_on setup t (here_at setup t request.at request.lane_place).lane callsite.0) (the_effect setup t fit _ e values.2)
    ∙ ap (λ (scope : Scope). option_to_list (parent_source setup.layer.activation (parent_under by.under scope) (current_of (t.entries (here_at setup t request.at request.lane_place).lane)))) same
  where
    by_gate : (callsite : Callsite) (up : Scope) (values : ValueSet) (b : Bool) → cond b (span_effect (here_at setup t request.at request.lane_place) m.site callsite values by.under up) (disabled_effect (here_at setup t request.at request.lane_place)) ≡ e
        → e.starts ≡ option_to_list (parent_source setup.layer.activation (parent_under by.under up) (current_of (t.entries (here_at setup t request.at request.lane_place).lane)))
    by_gate callsite up values true is = ap (λ (x : Effect). x.starts) (sym is)
    by_gate callsite up values false is = (let none : ◌≡◌ {A = Option MadeSpan} None (Some m) = ap (λ (x : Effect). x.new_span) is ∙ made in absurd (cc none))

pub if_admitted : (setup : Setup) (h : History) (request : Request) (e : Effect) → IsHistory setup h → effect_of setup (tables setup h) request ≡ Ok e → is_some e.new_span ≡ is_making setup (tables setup h) request
if_admitted setup h request e legal is =
    let fit = fits setup h (whole setup h legal) in
    by_made setup (tables setup h) fit request.at request.lane_place request.call e.new_span (by_request setup (tables setup h) fit request e is)

pub made_by : (setup : Setup) (h : History) (request : Request) (e : Effect) (m : MadeSpan) → IsHistory setup h → effect_of setup (tables setup h) request ≡ Ok e → e.new_span ≡ Some m
    → IsMadeBy setup (tables setup h) request.at request.lane_place request.call m
made_by setup h request e m legal is made =
    let fit = fits setup h (whole setup h legal) in
    (subst (Makes setup (tables setup h) fit request.at request.lane_place request.call) made (by_request setup (tables setup h) fit request e is)).1
