-- Asking the gate, and another filter in force, served.
use Rattle.std.proofs.Common.{◌≡◌, ℕ, ◌<◌, List, [], length, Bool, get_or, Some, None, Ok, option_map, map, refl, sym, ap, subst, ◌∙◌, arith, slice_get}
use Rattle.span_script.proofs.Common.{Callsite, Lane, Interest, WorldValue, IsFresh, Spans, span_at, FilterState, interest_in, Recording, no_recording, KeepsPlainData, read_subscriber, spans_in, text_filter, filter_of_read, IsTextFilter, id_at, Effect, Tables, after_effect, quiet_effect, here_at, ◌>>=◌, need, effect_of_call, enabled_effect, reload_effect, reload_by, IsGateAnswer, Views, shown_of, PipelineState, state_of, lane_value, StandsFor, FilteringFits, LanesFit, PipelineInvariant, IsServed, Parts, AddsMeasures, aside_in}
use Rattle.span_script.specs.declared.reply.Reply.TheVariants as reply
use Rattle.span_script.specs.declared.reply.What.TheVariants as what
use Rattle.span_script.specs.declared.request.Call.TheVariants as call
use Rattle.span_script.proofs.filter.FilterLemmas.{cached_rows, rows_of}
use Rattle.span_script.proofs.filter.GateLemmas.{answered}
use Rattle.span_script.proofs.runs.RefusalsLemmas.{within_get}
use Rattle.span_script.proofs.steps.ServesLemmas.{serve_with, known_still, all_same, kept_served}
use Rattle.span_script.proofs.steps.StepLemmas.{fits_step, quiet_step}
use Rattle.span_script.proofs.events.EventsLemmas.{does_none, serves_ops, keeps_ops}

module _ {S : Type 0} (spans : S → Spans) (views : Views S) (attaches : S → Bool) (kept : S → ℕ → ℕ → ℕ) (is_whole : S → Type 0) (parts : Parts S) (at place : ℕ) where
  abbrev now : PipelineState
  now = state_of spans views parts

  -- the gate is asked
  module _ (before : Lane) (within : place < length parts.lanes) (here : before ≡ get_or parts.lanes place before) (found_site site : ℕ) (sited_is : found_site ≡ site) (there : site < length parts.world.sites)
      (enabled : Bool) (gate : IsGateAnswer (read_subscriber views.filter None parts.world parts.dispatch) parts.world.sites before.id found_site enabled) where
    its_site : (c : Callsite) × (slice_get parts.world.sites site ≡ Some c)
    its_site = within_get parts.world.sites site there

    its_answer : (t : Tables) → StandsFor now t → effect_of_call now.setup t at place (call.Enabled site) ≡ Ok (quiet_effect at (id_at now.setup.ids place) (reply.Enabled enabled))
    its_answer t stands =
        ap (λ o. need what.Site o >>= (λ c. Ok (enabled_effect (here_at now.setup t at place) c))) its_site.1
        ∙ ap (λ (b : Bool). Ok (quiet_effect at (id_at now.setup.ids place) (reply.Enabled b))) (answered spans views parts place before within here found_site its_site.0 (ap (λ (n : ℕ). slice_get parts.world.sites n) sited_is ∙ its_site.1) enabled gate t stands)

    pub serves_enabled : (t : Tables) → StandsFor now t → IsServed (effect_of_call now.setup t at place (call.Enabled site)) t now (state_of spans views (record parts { moment = at })) (reply.Enabled enabled)
    serves_enabled t stands = serves_ops spans views attaches kept is_whole parts parts.world at place t stands [] [] refl (reply.Enabled enabled) _ (does_none spans views attaches kept is_whole parts parts.world at refl) (its_answer t stands)

    pub keeps_enabled : PipelineInvariant spans views kept is_whole parts → PipelineInvariant spans views kept is_whole (record parts { moment = at })
    keeps_enabled inv = keeps_ops spans views attaches kept is_whole parts parts.world at place inv [] [] refl (reply.Enabled enabled) _ (does_none spans views attaches kept is_whole parts parts.world at refl)
        (its_answer inv.tables inv.stands)

  -- a filter of another text
  module _ (new : WorldValue S) (alike : KeepsPlainData spans attaches kept is_whole parts.world new parts.dispatch) (sites : new.sites ≡ parts.world.sites) (records : read_subscriber views.recording no_recording new parts.dispatch ≡ read_subscriber views.recording no_recording parts.world parts.dispatch)
      (aside : AddsMeasures (aside_in views parts.world parts.dispatch) (aside_in views new parts.dispatch) []) where
    abbrev then_parts : Parts S
    then_parts = record parts { world = new; moment = at }

    abbrev then : PipelineState
    then = state_of spans views then_parts

    abbrev r : Recording
    r = read_subscriber views.recording no_recording parts.world parts.dispatch

    module _ (text given : List ℕ) (given_is : given ≡ text) (f : FilterState) (read_given : IsTextFilter given f) (filters : read_subscriber views.filter None new parts.dispatch ≡ Some f)
        (interest : S → Callsite → Interest) (shown : (s : S) (f : FilterState) (c : Callsite) → views.filter s ≡ Some f → interest s c ≡ interest_in f c) (fresh : IsFresh interest new) (inv : PipelineInvariant spans views kept is_whole parts) where
      read : IsTextFilter text f
      read = subst (λ (x : List ℕ). IsTextFilter x f) given_is read_given

      force_is : text_filter text ≡ f
      force_is = ap filter_of_read read.read ∙ sym read.is

      setup : then.setup ≡ now.setup
      setup = rw (sites, records) refl

      filter_is : (t : Tables) → length (spans_in spans new parts.dispatch).made ≡ length t.spans → FilteringFits then (after_effect t (reload_effect (here_at now.setup t at place) text))
      filter_is t count = record {
        counting_filter = ap (option_map (shown_of 0 then.setup.ids)) aside.counting_filter ∙ inv.stands.filtering.counting_filter;
        new = inv.stands.filtering.new;
        in_place = ap (option_map (shown_of (length (spans_in spans new parts.dispatch).made) then.setup.ids)) filters ∙ ap (λ (n : ℕ). Some (shown_of n then.setup.ids f)) count ∙ ap (λ (x : FilterState). Some (shown_of (length t.spans) then.setup.ids x)) (sym force_is);
        fresh = cached_rows views interest shown new parts.dispatch f (alike.count ∙ inv.alone) (let c = alike.count in let b = inv.there in omega (arith, c, b)) filters fresh ∙ ap (λ (x : FilterState). rows_of x new.sites) (sym force_is);
      }

      pub serves_reloaded : (t : Tables) → StandsFor now t → IsServed (effect_of_call now.setup t at place (call.Reload text)) t now then reply.Done
      serves_reloaded t stands =
          let fits = stands.fits in
          let ids = now.setup.ids in
          let step = alike.spans_same in
          let e : Effect = reload_effect (here_at now.setup t at place) text in
          serve_with now then t e _ reply.Done stands (ap (reload_by (here_at now.setup t at place) text) read.read) refl setup r.tokens records
          (fits_step now t fits then e (quiet_step now then t e fits setup refl refl refl refl refl refl refl step))
          (λ s some. known_still now then t e r.tokens records stands.recording s refl (subst (λ (x : Spans). 0 < (span_at x.made s).holds) step some))
          (all_same now then t.contexts setup refl refl (ap (λ (x : Recording). x.tokens) records) stands.recording.attached)
          (filter_is t (ap (λ (x : Spans). length x.made) step ∙ fits.made.count)) aside.measures

      pub keeps_reloaded : PipelineInvariant spans views kept is_whole then_parts
      keeps_reloaded = kept_served spans views kept is_whole parts then_parts inv _ _ (serves_reloaded inv.tables inv.stands) refl alike.count alike.whole
          (subst (λ (f : ℕ → ℕ → ℕ). LanesFit parts.dispatch f (map lane_value parts.lanes)) (sym alike.kept_same) inv.lanes)
