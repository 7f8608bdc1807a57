-- The gate's answer is that of the filter in force.
use Rattle.std.proofs.Common.{◌≡◌, ℕ, ◌<◌, List, [], ◌∷◌, length, get_or, Bool, refl, Some, None, option_map, slice_get, sym, ap, ◌∙◌, arith}
use Rattle.span_script.proofs.Common.{length-map, Callsite, Lane, IsFresh, Spans, FilterState, is_admitted, interest_in, Interest, read_subscriber, id_at, Tables, filter_in_force, admits_on, IsGateAnswer, Views, shown_of, PipelineState, state_of, StandsFor, FilteringFits, PipelineInvariant, Parts}
use Rattle.span_script.proofs.filter.FilterLemmas.{InPlace, Agree, in_place_by, admits_alike, rows_of, rows_fresh}
use Rattle.span_script.proofs.steps.LanesLemmas.{id_seen}

module _ {S : Type 0} (spans : S → Spans) (views : Views S) (parts : Parts S) where
  abbrev now : PipelineState
  now = state_of spans views parts

  -- the filter that is in place
  pub placed : (t : Tables) → length now.spans.made ≡ length t.spans → FilteringFits now t → InPlace (length t.spans) now.setup.ids (read_subscriber views.filter None parts.world parts.dispatch) (filter_in_force now.setup t)
  placed t count fits = in_place_by (length t.spans) now.setup.ids (read_subscriber views.filter None parts.world parts.dispatch) (filter_in_force now.setup t)
      (ap (λ (n : ℕ). option_map (shown_of n now.setup.ids) (read_subscriber views.filter None parts.world parts.dispatch)) (sym count) ∙ fits.in_place)

  rows_alike : (n : ℕ) (ids : List ℕ) (f g : FilterState) → Agree n ids f g → (sites : List Callsite) → rows_of g sites ≡ rows_of f sites
  rows_alike n ids f g a [] = refl
  rows_alike n ids f g a (c ∷ sites) = (let one : interest_in f c ≡ interest_in g c = rw (a.statics, a.dynamics) refl in
      ap (λ (i : Interest). (i ∷ []) ∷ rows_of g sites) (sym one) ∙ ap (λ (rows : List (List Interest)). (interest_in f c ∷ []) ∷ rows) (rows_alike n ids f g a sites))

  -- the cache is that of the filter in place
  pub is_current : (kept : S → ℕ → ℕ → ℕ) (is_whole : S → Type 0) (interest : S → Callsite → Interest) → ((s : S) (f : FilterState) (c : Callsite) → views.filter s ≡ Some f → interest s c ≡ interest_in f c)
      → PipelineInvariant spans views kept is_whole parts → IsFresh interest parts.world
  is_current kept is_whole interest shown inv =
      let current = placed inv.tables inv.stands.fits.made.count inv.stands.filtering in
      rows_fresh views interest shown parts.world parts.dispatch current.filter inv.alone inv.there current.is
      (inv.stands.filtering.fresh ∙ rows_alike (length inv.tables.spans) now.setup.ids current.filter (filter_in_force now.setup inv.tables) current.agree parts.world.sites)

  pub answered : (place : ℕ) (before : Lane) → place < length parts.lanes → before ≡ get_or parts.lanes place before → (site : ℕ) (callsite : Callsite) → slice_get parts.world.sites site ≡ Some callsite
      → (enabled : Bool) → IsGateAnswer (read_subscriber views.filter None parts.world parts.dispatch) parts.world.sites before.id site enabled → (t : Tables) → StandsFor now t → admits_on now.setup t (id_at now.setup.ids place) callsite ≡ enabled
  answered place before within here site callsite is enabled gate t stands =
      let ids = now.setup.ids in
      let force = filter_in_force now.setup t in
      let current = placed t stands.fits.made.count stands.filtering in
      let inside : place < length ids = (let l = length-map parts.lanes (λ (x : Lane). x.id) in omega (arith, within, l)) in
      sym (admits_alike (length t.spans) ids current.filter force place callsite current.agree inside) ∙ ap (λ (l : ℕ). is_admitted current.filter l callsite) (sym (id_seen parts.lanes place before within here)) ∙ sym (gate current.filter callsite current.is is)
