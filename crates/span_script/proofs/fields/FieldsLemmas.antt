-- Fields that are declared or not, recorded on spans, and asked for.
use Rattle.span_script.proofs.Common.{list_all, cons_option, cond-true, cond-false, Recording, no_recording, Callsite, ValueSet, Parent, WorldValue, Spans, SubscriberCall, read_subscriber, Handle, HeldSpan, IsSite, RecordsAt, RecordsOn, callsite_in, field_at, field_in, as_parent, RequestParent, id_at, span_site, event_site, Scope, Tables, slot_at, site_of, Effect, Fields, declared_value, declares, declared_by, all_values, values_of, values_by, Resolved, Refusal, here_at, ◌>>=◌, need, ops_effect, effect_of_call, event_effect, parent_scope, new_effect, parent_for, values_or_refusal, Views, PipelineState, state_of, StandsFor, IsScope, PipelineInvariant, IsServed, held_by, held_of, Parts, get_or-map, CallsLaw}
use Rattle.std.proofs.Common.{◌≡◌, ℕ, suc, ◌<◌, ◌≤◌, List, [], ◌∷◌, length, Bool, true, false, Option, Some, None, Result, Ok, Err, option_map, map, refl, sym, ap, subst, ◌∙◌, arith, ◌&&◌, is_some, slice_get, filter_map, option_and_then}
use Rattle.trace_base.specs.declared.field.Field.{Field}
use Rattle.trace_base.specs.Field.{place_of, named_field}
use Rattle.span_script.specs.declared.reply.Reply.TheVariants as reply
use Rattle.span_script.specs.declared.reply.Refusal.TheVariants as refusal
use Rattle.span_script.specs.declared.reply.What.TheVariants as what
use Rattle.span_script.specs.declared.request.Call.TheVariants as call
use Rattle.span_script.specs.calls.Fields.{update_ops, hooks_of_values, record_effect, callsite_of}
use Rattle.span_script.specs.Fits.{Fits}
use Rattle.span_script.proofs.steps.SlotsLemmas.{Found, find, held_slot}
use Rattle.span_script.proofs.spans.MoreHandlesLemmas.{find_up}
use Rattle.span_script.proofs.spans.SitesLemmas.{site_found}
use Rattle.span_script.proofs.filter.FilterLemmas.{AreKnown}
use Rattle.span_script.proofs.events.EventsLemmas.{Does, does_none, serves_ops, keeps_ops}
use Rattle.span_script.specs.declared.request.RequestParent.TheVariants as request_parent

-- ---- places that aren't there

no_scope : (k : PipelineState) (t : Tables) → Fits k t → (lane : ℕ) (under : RequestParent) → parent_for k.handles under ≡ None → parent_scope t lane under ≡ None
no_scope k t fits lane request_parent.Root is = absurd (cc is)
no_scope k t fits lane request_parent.Contextual is = absurd (cc is)
no_scope k t fits lane (request_parent.Under handle) is = by_slot (slot_at t.handles handle) (sym (ap (λ xs. option_map as_parent (slot_at xs handle)) fits.handle_slots ∙ ap (option_map as_parent) (get_or-map (option_map (held_of k.dispatch)) t.handles handle None)) ∙ is)
  where
    by_slot : (o : Option Scope) → option_map as_parent (option_map (held_of k.dispatch) o) ≡ None → o ≡ None
    by_slot None e = refl
    by_slot (Some scope) e = absurd (cc e)

-- the first that isn't there of what a new span or an event names
module _ (k : PipelineState) (t : Tables) (fits : Fits k t) (lane : ℕ) (under : RequestParent) (parent : Option Parent) (found : parent ≡ parent_for k.handles under) (fields : Fields) (given : Refusal) (make : Callsite → Scope → ValueSet → Effect) where
  -- the effect, or the refusal
  abbrev made_or : Option Callsite → Option Scope → Resolved
  made_or callsite scope = need what.Site callsite >>= (λ c. need what.Handle scope >>= (λ up. need what.Field (all_values c fields) >>= (λ v. Ok (make c up v))))

  the_refusal : {A : Type 0} (why : Refusal) → ◌≡◌ {A = Result A Refusal} (Err why) (Err given) → ◌≡◌ {A = Resolved} (Err why) (Err given)
  the_refusal why e = (let same : why ≡ given = cc e in ap Err same)

  by_values : (c : Callsite) (up : Scope) (o : Option ValueSet) → need what.Field o ≡ Err given → ◌≡◌ {A = Resolved} (need what.Field o >>= (λ v. Ok (make c up v))) (Err given)
  by_values c up None e = the_refusal (refusal.UnknownName what.Field) e
  by_values c up (Some v) e = absurd (cc e)

  by_parent : (c : Callsite) (o : Option Parent) → parent ≡ o → values_or_refusal (Some c) o fields ≡ Err given → made_or (Some c) (parent_scope t lane under) ≡ Err given
  by_parent c None is e = ap (made_or (Some c)) (no_scope k t fits lane under (sym found ∙ is)) ∙ the_refusal (refusal.UnknownName what.Handle) e
  by_parent c (Some p) is e = (let up = find_up k t fits lane under p (sym found ∙ is) in ap (made_or (Some c)) up.is ∙ by_values c up.up (all_values c fields) e)

  pub refuses_named : (callsite : Option Callsite) → values_or_refusal callsite parent fields ≡ Err given → made_or callsite (parent_scope t lane under) ≡ Err given
  refuses_named None e = the_refusal (refusal.UnknownName what.Site) e
  refuses_named (Some c) e = by_parent c parent refl e

pub refuses_new : (k : PipelineState) (t : Tables) → Fits k t → (at place site : ℕ) (under : RequestParent) (parent : Option Parent) → parent ≡ parent_for k.handles under → (fields : Fields) (given : Refusal) → values_or_refusal (span_site k.setup.sites site) parent fields ≡ Err given
    → effect_of_call k.setup t at place (call.New site under fields) ≡ Err given
refuses_new k t fits at place site under parent found fields given e = refuses_named k t fits (id_at k.setup.ids place) under parent found fields given (λ c up v. new_effect (here_at k.setup t at place) site c v under up) (span_site k.setup.sites site) e

pub refuses_event : (k : PipelineState) (t : Tables) → Fits k t → (at place site : ℕ) (under : RequestParent) (parent : Option Parent) → parent ≡ parent_for k.handles under → (fields : Fields) (given : Refusal) → values_or_refusal (event_site k.setup.sites site) parent fields ≡ Err given
    → effect_of_call k.setup t at place (call.Event site under fields) ≡ Err given
refuses_event k t fits at place site under parent found fields given e = refuses_named k t fits (id_at k.setup.ids place) under parent found fields given (λ c up v. event_effect (here_at k.setup t at place) c v up) (event_site k.setup.sites site) e

-- values are fewer than the fields exactly where one of these isn't declared
module _ (c : Callsite) where
  at_most : (fields : Fields) → length (filter_map (declared_value c) fields) ≤ length fields
  at_most [] = omega arith
  at_most (f ∷ fs) = by_place (place_of f.0 c) (at_most fs)
    where
      by_place : (o : Option ℕ) → length (filter_map (declared_value c) fs) ≤ length fs → length (cons_option (option_map (λ (place : ℕ). (place, f.1)) o) (filter_map (declared_value c) fs)) ≤ suc (length fs)
      by_place None most = omega (arith, most)
      by_place (Some place) most = omega (arith, most)

  all_declared : (fields : Fields) → (length (filter_map (declared_value c) fields) < length fields → ⊥) → list_all (λ field. declares c field.0) fields ≡ true
  all_declared [] many = refl
  all_declared (f ∷ fs) many = by_place (place_of f.0 c) (at_most fs) (all_declared fs) many
    where
      by_place : (o : Option ℕ) → length (filter_map (declared_value c) fs) ≤ length fs → ((length (filter_map (declared_value c) fs) < length fs → ⊥) → list_all (λ field. declares c field.0) fs ≡ true)
          → (length (cons_option (option_map (λ (place : ℕ). (place, f.1)) o) (filter_map (declared_value c) fs)) < suc (length fs) → ⊥) → (is_some o && list_all (λ field. declares c field.0) fs) ≡ true
      by_place None most rest many = absurd (many (omega (arith, most)))
      by_place (Some place) most rest many = rest (λ fewer. many (omega (arith, fewer)))

  not_declared : (fields : Fields) → length (filter_map (declared_value c) fields) < length fields → list_all (λ field. declares c field.0) fields ≡ false
  not_declared [] fewer = absurd (omega (arith, fewer))
  not_declared (f ∷ fs) fewer = by_place (place_of f.0 c) (not_declared fs) fewer
    where
      by_place : (o : Option ℕ) → (length (filter_map (declared_value c) fs) < length fs → list_all (λ field. declares c field.0) fs ≡ false)
          → length (cons_option (option_map (λ (place : ℕ). (place, f.1)) o) (filter_map (declared_value c) fs)) < suc (length fs) → (is_some o && list_all (λ field. declares c field.0) fs) ≡ false
      by_place None rest fewer = refl
      by_place (Some place) rest fewer = rest (omega (arith, fewer))

  pub all_given : (fields : Fields) (values : ValueSet) → values ≡ values_of c fields → (length values.pairs < length fields → ⊥) → Some values ≡ all_values c fields
  all_given fields values is many =
      ap Some is ∙ sym (cond-true {A = Option ValueSet} (list_all (λ field. declares c field.0) fields) (Some (values_of c fields)) None (all_declared fields (λ fewer. many (let e = ap (λ (v : ValueSet). length v.pairs) is in omega (arith, e, fewer)))))

  pub not_given : (fields : Fields) (values : ValueSet) → values ≡ values_of c fields → length values.pairs < length fields → None ≡ all_values c fields
  not_given fields values is fewer =
      sym (cond-false {A = Option ValueSet} (list_all (λ field. declares c field.0) fields) (Some (values_of c fields)) None (not_declared fields (let e = ap (λ (v : ValueSet). length v.pairs) is in omega (arith, e, fewer))))

-- ---- the callsites of handles

callsite_same : {S : Type 0} (world : WorldValue S) (site : Option ℕ) → callsite_in world site ≡ option_and_then (λ k. slice_get world.sites k) site
callsite_same world None = refl
callsite_same world (Some site) = refl

-- whether one has a field of a name
has_at : (name : List ℕ) (site : ℕ) (o : Option Callsite) → is_some (field_at (named_field name site) o) ≡ declared_by o name
has_at name site None = refl
has_at name site (Some c) = by_place (place_of name c)
  where
    by_place : (o : Option ℕ) → is_some {T = Field} (option_map (λ (place : ℕ). record { site = site; place = place }) o) ≡ is_some o
    by_place None = refl
    by_place (Some place) = refl

has_in : {S : Type 0} (world : WorldValue S) (name : List ℕ) (site : Option ℕ) → is_some (field_in (named_field name) world site) ≡ declared_by (option_and_then (λ k. slice_get world.sites k) site) name
has_in world name None = refl
has_in world name (Some site) = has_at name site (slice_get world.sites site)

module _ {S : Type 0} (spans : S → Spans) (views : Views S) (attaches : S → Bool) (kept : S → ℕ → ℕ → ℕ) (is_whole : S → Type 0) (parts : Parts S) where
  abbrev now : PipelineState
  now = state_of spans views parts

  module _ (handle : ℕ) (h : Handle) (found : slot_at parts.handles handle ≡ Some h) where
    its_scope : (t : Tables) → Fits now t → Found (held_of parts.dispatch) t.handles handle h.held
    its_scope t fits = find (held_of parts.dispatch) (map held_by parts.handles) t.handles handle h.held fits.handle_slots (held_slot parts.handles handle h found)

    its_callsite : (t : Tables) (fits : Fits now t) → option_and_then (λ k. slice_get parts.world.sites k) h.site ≡ callsite_of now.setup t (its_scope t fits).at
    its_callsite t fits = ap (λ (o : Option ℕ). option_and_then (λ k. slice_get parts.world.sites k) o) (site_found now t fits parts.handles refl handle h found (its_scope t fits).at (its_scope t fits).there)

    -- a handle's callsite is there
    pub needs_site : PipelineInvariant spans views kept is_whole parts → IsSite parts.world h.site
    needs_site inv = by_scope (its_scope inv.tables inv.stands.fits).at (inv.stands.fits.scopes handle (its_scope inv.tables inv.stands.fits).at (its_scope inv.tables inv.stands.fits).there) h.site (site_found now inv.tables inv.stands.fits parts.handles refl handle h found (its_scope inv.tables inv.stands.fits).at (its_scope inv.tables inv.stands.fits).there)
      where
        by_scope : (line : Scope) → IsScope inv.tables.spans line → (site : Option ℕ) → site ≡ site_of inv.tables.spans line → IsSite parts.world site
        by_scope [] is site e = subst (IsSite parts.world) (sym e) tt
        by_scope (s ∷ up) is site e = subst (IsSite parts.world) (sym e) (inv.stands.fits.sited s is.0)

    module _ (new : WorldValue S) (at place : ℕ) where
      abbrev then_parts : Parts S
      then_parts = record parts { world = new; moment = at }

      abbrev then : PipelineState
      then = state_of spans views then_parts

      -- whether a name is declared is asked
      module _ (name : List ℕ) (has : Bool) (is : has ≡ is_some (field_in (named_field name) parts.world h.site)) (same : new ≡ parts.world) where
        asked : (t : Tables) → StandsFor now t → effect_of_call now.setup t at place (call.HasField handle name) ≡ Ok (ops_effect (here_at now.setup t at place) (reply.Has has) [])
        asked t stands =
            let line = its_scope t stands.fits in
            ap (λ o. need what.Handle o >>= (λ scope. Ok (ops_effect (here_at now.setup t at place) (reply.Has (declared_by (callsite_of now.setup t scope) name)) []))) line.there
            ∙ ap (λ (b : Bool). Ok (ops_effect (here_at now.setup t at place) (reply.Has b) [])) (ap (λ (o : Option Callsite). declared_by o name) (sym (its_callsite t stands.fits)) ∙ sym (has_in parts.world name h.site) ∙ sym is)

        pub serves_asked : (t : Tables) → StandsFor now t → IsServed (effect_of_call now.setup t at place (call.HasField handle name)) t now then (reply.Has has)
        serves_asked t stands = serves_ops spans views attaches kept is_whole parts new at place t stands [] [] refl (reply.Has has) _ (does_none spans views attaches kept is_whole parts new at same) (asked t stands)

        pub keeps_asked : PipelineInvariant spans views kept is_whole parts → PipelineInvariant spans views kept is_whole then_parts
        keeps_asked inv = keeps_ops spans views attaches kept is_whole parts new at place inv [] [] refl (reply.Has has) _ (does_none spans views attaches kept is_whole parts new at same) (asked inv.tables inv.stands)

      -- values are recorded
      module _ (does : S → SubscriberCall → S → Type 0) (law : CallsLaw spans views attaches kept is_whole does)
          (fields : Fields) (values : ValueSet) (is : values ≡ values_by (callsite_in parts.world h.site) fields) (did : RecordsOn does parts.world new at values h) where
        abbrev r : Recording
        r = read_subscriber views.recording no_recording parts.world parts.dispatch

        does_update : (line : Scope) (o : Option Callsite) → RecordsAt does parts.world new at (values_by o fields) (held_of parts.dispatch line) o → Does spans views attaches kept is_whole parts new at (update_ops r.settings line fields o) (hooks_of_values line fields o)
        does_update [] None step = does_none spans views attaches kept is_whole parts new at step
        does_update [] (Some c) step = does_none spans views attaches kept is_whole parts new at step
        does_update (s ∷ up) None step = does_none spans views attaches kept is_whole parts new at step
        does_update (s ∷ up) (Some c) step =
            let shown = law.shown parts.world new parts.dispatch _ step in
            record {
              spans_same = shown.spans_after;
              kept_same = shown.lanes;
              sites_same = ap (λ (w : WorldValue S). w.sites) step.others;
              recorded_is = (law.viewed parts.world new parts.dispatch _ step).0;
              filter_is = (law.viewed parts.world new parts.dispatch _ step).1;
              aside_is = (law.viewed parts.world new parts.dispatch _ step).2;
              cached_same = ap (λ (w : WorldValue S). w.cached) step.others;
              count = shown.count;
              whole = shown.whole;
            }

        updated : (t : Tables) (fits : Fits now t) → Does spans views attaches kept is_whole parts new at (update_ops r.settings (its_scope t fits).at fields (callsite_of now.setup t (its_scope t fits).at)) (hooks_of_values (its_scope t fits).at fields (callsite_of now.setup t (its_scope t fits).at))
        updated t fits =
            let line = its_scope t fits in
            let mine = callsite_same parts.world h.site ∙ its_callsite t fits in
            does_update line.at (callsite_of now.setup t line.at)
            (subst (λ (o : Option Callsite). RecordsAt does parts.world new at (values_by o fields) (held_of parts.dispatch line.at) o) mine
            (subst (λ (held : HeldSpan). RecordsAt does parts.world new at (values_by (callsite_in parts.world h.site) fields) held (callsite_in parts.world h.site)) line.is
            (subst (λ (v : ValueSet). RecordsAt does parts.world new at v h.held (callsite_in parts.world h.site)) is did)))

        values_known : (line : Scope) (o : Option Callsite) (n : ℕ) → AreKnown n (hooks_of_values line fields o) n
        values_known line None n = refl
        values_known [] (Some c) n = refl
        values_known (s ∷ up) (Some c) n = (tt, refl)

        its_update : (t : Tables) (fits : Fits now t) → effect_of_call now.setup t at place (call.Record handle fields) ≡ Ok (record_effect (here_at now.setup t at place) (its_scope t fits).at fields)
        its_update t fits = ap (λ o. need what.Handle o >>= (λ scope. Ok (record_effect (here_at now.setup t at place) scope fields))) (its_scope t fits).there

        pub serves_recorded : (t : Tables) → StandsFor now t → IsServed (effect_of_call now.setup t at place (call.Record handle fields)) t now then reply.Done
        serves_recorded t stands = serves_ops spans views attaches kept is_whole parts new at place t stands _ _ (values_known (its_scope t stands.fits).at (callsite_of now.setup t (its_scope t stands.fits).at) (length t.spans)) reply.Done _ (updated t stands.fits) (its_update t stands.fits)

        pub keeps_recorded : PipelineInvariant spans views kept is_whole parts → PipelineInvariant spans views kept is_whole then_parts
        keeps_recorded inv = keeps_ops spans views attaches kept is_whole parts new at place inv _ _ (values_known (its_scope inv.tables inv.stands.fits).at (callsite_of now.setup inv.tables (its_scope inv.tables inv.stands.fits).at) (length inv.tables.spans)) reply.Done _ (updated inv.tables inv.stands.fits) (its_update inv.tables inv.stands.fits)
